-- `value_walk::value_at` meets its contract: each part has a smaller number, so that the walk ends; the loop goes over the parts, and what is then joined is the node's value.
-- Assumes nothing.
use Rattle.pool.specs.Tables.{nodes}
use Rattle.value_walk.proofs.Walking.{Turned}
use Rattle.value_walk.proofs.+value_at.Given as goal

abbrev pub decreases-value_at : goal.decreases-value_at
decreases-value_at g l = l.i

abbrev pub invariant-loop : goal.invariant-loop
invariant-loop g l =
    Turned (g.V.Values.at_node l.of) (nodes l.tables) l.i l.node l.initial.kept l.initial.seen l.kept l.seen l.counter l.part
