-- `low_bytes::output::write` meets its contract: after each turn the bytes that were passed are written.
-- Assumes nothing.
use Rattle.std.proofs.Common.{take}
use Rattle.low_bytes.specs.Output.{Wrote}
use Rattle.low_bytes.proofs.output.write.Given as goal

abbrev pub invariant-loop-byte : goal.invariant-loop-byte
invariant-loop-byte l = Wrote l.fn.at l.initial.out (take l.byte-index l.bytes) l.to l.out
