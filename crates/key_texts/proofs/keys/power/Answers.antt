-- `key_texts::keys::power` meets its contract: one text after the other.
-- Assumes nothing.
use Rattle.low_bytes.proofs.Writing.{three_written}
use Rattle.key_texts.proofs.keys.power.Goals as goal

pub returns : goal.returns
returns c =
    three_written (rw c.front.ensures at c.write-a.ensures) c.write_exponent-b.ensures c.write.ensures
