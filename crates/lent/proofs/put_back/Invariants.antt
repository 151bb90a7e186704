-- `lent::put_back` meets its contract: after each turn the tables are the new ones up to the entry and the old ones from there.
-- Assumes nothing.
use Rattle.lent.proofs.Overwrite.{Overwritten}
use Rattle.lent.proofs.put_back.Given as goal

abbrev pub invariant-loop-i : goal.invariant-loop-i
invariant-loop-i l = Overwritten l.i l.new_kinds l.initial.kinds l.kinds × Overwritten l.i l.new_words l.initial.words l.words
