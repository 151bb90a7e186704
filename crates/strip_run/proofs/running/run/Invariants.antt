-- `running::run` meets its contract: what is left to run, with the values in places, gives what the whole strip gives.
-- Assumes nothing.
use Prim.Native.Nat.{◌-◌}
use lib.ListN.{length}
use Rattle.strip_run.specs.Running.{Running}
use Rattle.strip_run.proofs.running.run.Given as goal

abbrev pub invariant-loop-machine : goal.invariant-loop-machine
invariant-loop-machine l = Running l.strip l.values l.held l.machine

abbrev pub decreases-loop-machine : goal.decreases-loop-machine
decreases-loop-machine l = length l.strip - l.machine.at
