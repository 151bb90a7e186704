-- `lent::put_over` meets its contract: the entries that were passed are put.
-- Assumes nothing.
use mathlib.Core.Path.{◌≡◌}
use lib.ListN.{length, take}
use Rattle.lent.proofs.put_over.Given as goal

abbrev pub invariant-loop-i : goal.invariant-loop-i
invariant-loop-i g l = (length l.to ≡ length l.from) × (take l.i l.to ≡ take l.i l.from)
