-- `text::decimal_text` meets its contract: at each turn the digits still to come and those written already are the number's.
-- Assumes nothing.
use Rattle.text.proofs.Digits.{at_last}
use Rattle.text.proofs.decimal_text.Goals as goal

pub returns : goal.returns
returns c = at_last _ _ _ c.loop-rest.invariant c.loop-rest-test.false
