-- `add` and what it builds meet their contracts: each step is a step of the rule's term, and the depth left falls from a rule to its calls.
-- Assumes nothing.
use Prim.Native.Nat.{◌+◌, ◌*◌}
use Rattle.adds.proofs.made.+add_rules.Given as goal

abbrev pub decreases-add_chain : goal.decreases-add_chain
decreases-add_chain l = 2 * l.left + 1

abbrev pub decreases-add_unsettled : goal.decreases-add_unsettled
decreases-add_unsettled l = 2 * l.left

abbrev pub decreases-add_onto : goal.decreases-add_onto
decreases-add_onto l = 2 * l.left + 1

abbrev pub decreases-add_sums : goal.decreases-add_sums
decreases-add_sums l = 2 * l.left + 1
