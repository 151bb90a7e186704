-- `mul`, `exp` and what they build meet their contracts: each step is a step of the rule's term, and the depth left falls from a rule to its calls.
-- Assumes nothing.
use Prim.Native.Nat.{◌+◌, ◌*◌}
use Rattle.muls.proofs.made.+mul_and_exp_rules.Given as goal

abbrev pub decreases-exp_unsettled : goal.decreases-exp_unsettled
decreases-exp_unsettled l = 4 * l.left

abbrev pub decreases-exp_shifted : goal.decreases-exp_shifted
decreases-exp_shifted l = 4 * l.left + 1

abbrev pub decreases-exp_sum : goal.decreases-exp_sum
decreases-exp_sum l = 4 * l.left + 1

abbrev pub decreases-mul_unsettled : goal.decreases-mul_unsettled
decreases-mul_unsettled l = 4 * l.left

abbrev pub decreases-over_exp : goal.decreases-over_exp
decreases-over_exp l = 4 * l.left + 2

abbrev pub decreases-over_exps : goal.decreases-over_exps
decreases-over_exps l = 4 * l.left + 3

abbrev pub decreases-scales : goal.decreases-scales
decreases-scales l = 4 * l.left + 2

abbrev pub decreases-times_power : goal.decreases-times_power
decreases-times_power l = 4 * l.left + 1

abbrev pub decreases-under : goal.decreases-under
decreases-under l = 4 * l.left + 1
