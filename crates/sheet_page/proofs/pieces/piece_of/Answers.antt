-- `sheet_page::pieces::piece_of` meets its contract: the first line is short, and a line of the page is that of the sheet.
-- Assumes nothing.
use mathlib.Core.Path.{ap}
use Rattle.std.specs.Prelude.{Ok}
use Rattle.sheet_page.specs.Pages.{head_of, short}
use Rattle.sheet_page.proofs.Whole.{wrote_put, put_as, put_short, head_short, first_piece, of_line}
use Rattle.sheet_page.proofs.pieces.piece_of.Goals as goal

pub returns-then-part-eq0 : goal.returns-then-part-eq0
returns-then-part-eq0 c =
    let a = c.args in
    rw c.number.ensures.value
    (put_as (ap short (first_piece a.sheet.now a.tables.kinds.now a.tables.words.now c.if-line-eq0.true c.if-part-eq0.true))
    (put_short (head_short a.sheet.now) (wrote_put (head_of a.sheet.now) c.head.ensures (head_short a.sheet.now) c.requires)))

pub returns-else-page-line : goal.returns-else-page-line
returns-else-page-line c =
    let a = c.args in
    rw c.in-Ok.is
    (put_as (ap short (of_line (Ok c.in-Ok.page) a.tables.kinds.now a.tables.words.now c.if-line-eq0.false c.if-page-line.false a.part)) c.piece_of_line.ensures)
