-- `factorial::factorial` meets its contract: the product of i factors is i!, and one past the literals refuses n!.
-- Assumes nothing.
use Rattle.factorial.proofs.Running.{RunningProduct}
use Rattle.factorial.proofs.factorial.Given as goal

abbrev pub invariant-loop-i : goal.invariant-loop-i
invariant-loop-i l = RunningProduct l.n l.product l.i
