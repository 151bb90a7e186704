-- What has been read is within the room, whose length stays, and each turn reads a byte at least.
use Rattle.std.proofs.Common.{length, ◌-◌, ◌≤◌}
use Rattle.inputs.proofs.read_full.Given as goal

abbrev pub invariant-loop-done : goal.invariant-loop-done
invariant-loop-done g l = l.done ≤ length l.room

abbrev pub decreases-loop-done : goal.decreases-loop-done
decreases-loop-done g l = length l.initial.room - l.done
