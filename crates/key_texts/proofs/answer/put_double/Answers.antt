-- `key_texts::answer::put_double` meets its contract: the digits, and whether it is a number.
-- Assumes nothing.
use Rattle.low_bytes.proofs.Writing.{written_after}
use Rattle.key_texts.proofs.answer.put_double.Goals as goal

pub returns : goal.returns
returns c = rw (c.front.ensures, c.bits.ensures, c.kind_of.ensures) at (written_after c.put_hex-end.ensures c.write.ensures)
