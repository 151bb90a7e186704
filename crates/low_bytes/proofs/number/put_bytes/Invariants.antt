-- `low_bytes::number::put_bytes` meets its contract: what is left to put makes the whole, turn after turn.
-- Assumes nothing.
use Rattle.low_bytes.proofs.BytesPut.{BytesPut}
use Rattle.low_bytes.proofs.number.put_bytes.Given as goal

abbrev pub invariant-loop-byte : goal.invariant-loop-byte
invariant-loop-byte l = BytesPut l.initial.byte-items 0 l.k l.x l.byte-items l.rest l.byte-index
