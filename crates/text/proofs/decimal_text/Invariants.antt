-- `text::decimal_text` meets its contract: at each turn the digits still to come and those written already are the number's.
-- Assumes nothing.
use Rattle.text.proofs.Digits.{Remains}
use Rattle.text.proofs.decimal_text.Given as goal

abbrev pub invariant-loop-rest : goal.invariant-loop-rest
invariant-loop-rest l = Remains l.n l.text l.rest

abbrev pub decreases-loop-rest : goal.decreases-loop-rest
decreases-loop-rest l = l.rest
