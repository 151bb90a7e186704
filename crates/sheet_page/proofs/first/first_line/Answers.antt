-- `sheet_page::first::first_line` meets its contract: one text after the other.
-- Assumes nothing.
use Rattle.low_bytes.proofs.Writing.{written_after}
use Rattle.sheet_page.proofs.first.first_line.Goals as goal

pub returns : goal.returns
returns c =
    written_after (written_after (written_after (written_after
    (written_after (rw c.front.ensures at c.write_exponent-a.ensures) c.write-b.ensures) c.write_exponent-c.ensures)
    c.write-d.ensures) c.point_text-e.ensures) c.write.ensures
