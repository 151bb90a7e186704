-- The cycle of calls that prints a node: parts are written one after the other, and each call of node_fmt is on a smaller bound.
-- The measure is three times the bound, and for the members in between one or two more. Assumes nothing.
use Prim.Native.Nat.{◌+◌, ◌*◌}
use Rattle.print.proofs.walk.+fmt.Given as goal

abbrev pub decreases-inside : goal.decreases-inside
decreases-inside l = 3 * l.i + 2

abbrev pub decreases-joined : goal.decreases-joined
decreases-joined l = 3 * l.i + 1

abbrev pub decreases-node_fmt : goal.decreases-node_fmt
decreases-node_fmt l = 3 * l.bound

abbrev pub decreases-power : goal.decreases-power
decreases-power l = 3 * l.i + 1

abbrev pub decreases-wrapped : goal.decreases-wrapped
decreases-wrapped l = 3 * l.i + 1
