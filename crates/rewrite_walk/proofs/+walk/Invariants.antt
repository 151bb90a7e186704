-- Node numbers fall from a node to its parts, and the functions of the walk at one node call each other in one order.
-- Assumes nothing.
use Prim.Native.Nat.{◌+◌, ◌*◌}
use Rattle.rewrite_walk.proofs.+walk.Given as goal

abbrev pub decreases-walk_at : goal.decreases-walk_at
decreases-walk_at g l = 4 * l.term + 3

abbrev pub decreases-walk_node : goal.decreases-walk_node
decreases-walk_node g l = 4 * l.term + 2

abbrev pub decreases-walk_one : goal.decreases-walk_one
decreases-walk_one g l = 4 * l.term + 1

abbrev pub decreases-walk_part : goal.decreases-walk_part
decreases-walk_part g l = 4 * l.bound

abbrev pub decreases-walk_two : goal.decreases-walk_two
decreases-walk_two g l = 4 * l.term + 1
