-- `Needs::fill` meets its contract: after each turn the tables have what the nodes that were passed need.
-- Assumes nothing.
use Rattle.pool.specs.Tables.{nodes}
use Rattle.strip_write.specs.Kept.{NeededBelow}
use Rattle.strip_write.proofs.need.Needs.fill.Given as goal

abbrev pub invariant-loop-i : goal.invariant-loop-i
invariant-loop-i l = NeededBelow (nodes l.tables) l.i l.self
