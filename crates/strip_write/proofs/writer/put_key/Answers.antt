-- `writer::put_key` meets its contract: the code's byte, and then those of the number.
-- Assumes nothing.
use Rattle.strip_write.proofs.Writing.{key_written}
use Rattle.strip_write.proofs.writer.put_key.Goals as goal

pub returns : goal.returns
returns c = key_written c.args.at c.args.code c.args.k c.args.x c.put_bytes.ensures
