-- `running::run` meets its contract: what is left to run, with the values in places, gives what the whole strip gives.
-- Assumes nothing.
use Rattle.strip_run.proofs.KeyRuns.{all_run}
use Rattle.strip_run.proofs.running.run.Goals as goal

pub returns : goal.returns
returns c = all_run c.loop-machine.invariant c.loop-machine-test.false
