-- `reached::fill` meets its contract: after each turn the table has the answers of the nodes that were passed, whatever test it is that the code's decides.
-- Assumes nothing.
use mathlib.Core.Path.{◌≡◌}
use mathlib.Core.Bool.{Bool}
use lib.ListN.{length}
use Rattle.pool.specs.declared.node.Node.{Node}
use Rattle.pool.specs.Pool.{limit}
use Rattle.pool.specs.Tables.{nodes}
use Rattle.reached.specs.Kept.{Decides, FoundBelow}
use Rattle.reached.proofs.fill.Given as goal

abbrev pub invariant-loop-i : goal.invariant-loop-i
invariant-loop-i g l = (length l.found ≡ limit) × ((is : Node → Bool) → Decides (goal.F-post g l.test) is → FoundBelow is (nodes l.tables) l.i l.found)
