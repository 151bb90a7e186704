-- `low_bytes::output::write` meets its contract: after each turn the bytes that were passed are written.
-- Assumes nothing.
use Rattle.low_bytes.proofs.Writing.{one_byte_more}
use Rattle.low_bytes.proofs.output.write.Goals as goal

pub loop-byte-preserved : goal.loop-byte-preserved
loop-byte-preserved c = one_byte_more _ _ c.loop-byte-test.true c.loop-byte.invariant c.put-to.ensures
