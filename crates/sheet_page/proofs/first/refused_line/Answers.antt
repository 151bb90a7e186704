-- `sheet_page::first::refused_line` meets its contract: one text after the other.
-- Assumes nothing.
use Rattle.low_bytes.proofs.Writing.{written_after}
use Rattle.sheet_page.proofs.first.refused_line.Goals as goal

pub returns : goal.returns
returns c =
    written_after (written_after (rw c.front.ensures at c.write-a.ensures) c.write_exponent-b.ensures) c.write.ensures
