-- `key_texts::keys::push_variable` meets its contract: one text after the other.
-- Assumes nothing.
use Rattle.low_bytes.proofs.Writing.{three_written}
use Rattle.key_texts.proofs.keys.push_variable.Goals as goal

pub returns : goal.returns
returns c =
    three_written (rw c.front.ensures at c.write-a.ensures) c.write_variable-b.ensures c.write.ensures
