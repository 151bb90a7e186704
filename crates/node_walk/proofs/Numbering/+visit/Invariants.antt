-- A walk from a node: its parts are visited in turn, each with a smaller number, and then the node itself has a place.
-- The measure is twice the number, and one more for the node itself. Assumes nothing.
use Prim.Native.Nat.{◌+◌, ◌*◌}
use Rattle.node_walk.proofs.Numbering.+visit.Given as goal

abbrev pub decreases-visit : goal.decreases-visit
decreases-visit l = 2 * l.i + 1

abbrev pub decreases-visit_parts : goal.decreases-visit_parts
decreases-visit_parts l = 2 * l.i
