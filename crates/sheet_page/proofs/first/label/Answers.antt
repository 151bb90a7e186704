-- `sheet_page::first::label` meets its contract: one text after the other.
-- Assumes nothing.
use Rattle.low_bytes.proofs.Writing.{written_after}
use Rattle.sheet_page.proofs.first.label.Goals as goal

pub returns : goal.returns
returns c =
    written_after (rw c.front.ensures at c.write_exponent-a.ensures) c.write.ensures
