-- `log` and what it builds of a product meet their contracts: each step is a step of the rule's term, and the depth left falls from a rule to its calls.
-- Assumes nothing.
use Prim.Native.Nat.{◌+◌, ◌*◌}
use Rattle.logs.proofs.made.+log_rules.Given as goal

abbrev pub decreases-log_unsettled : goal.decreases-log_unsettled
decreases-log_unsettled l = 2 * l.left

abbrev pub decreases-log_product : goal.decreases-log_product
decreases-log_product l = 2 * l.left + 1
