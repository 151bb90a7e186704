-- `low_bytes::number::put_bytes` meets its contract: what is left to put makes the whole, turn after turn.
-- Assumes nothing.
use native.Mathlib.Omega.{arith}
use Rattle.low_bytes.proofs.BytesPut.{part_byte_put}
use Rattle.low_bytes.proofs.number.put_bytes.Goals as goal

pub loop-byte-preserved : goal.loop-byte-preserved
loop-byte-preserved c = part_byte_put c.args.out.now c.args.at c.loop-byte.invariant c.requires (omega (arith, c.loop-byte-test.true, c.loop-byte.auto.byte-index-end))
