-- `testing::tested` meets its contract: what is left to test, with the places in use, decides as the whole strip does.
-- Assumes nothing.
use Prim.Native.Nat.{◌-◌}
use lib.ListN.{length}
use Rattle.strip_run.specs.Testing.{Testing}
use Rattle.strip_run.proofs.testing.tested.Given as goal

abbrev pub invariant-loop-passed : goal.invariant-loop-passed
invariant-loop-passed l = Testing l.strip l.passed.next l.passed.depth

abbrev pub decreases-loop-passed : goal.decreases-loop-passed
decreases-loop-passed l = length l.strip - l.passed.next
