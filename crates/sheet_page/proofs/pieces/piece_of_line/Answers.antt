-- `sheet_page::pieces::piece_of_line` meets its contract: the index is short.
-- Assumes nothing.
use mathlib.Core.List.{◌++◌}
use Rattle.text.specs.Text.{decimal}
use Rattle.sheet_text.specs.Sheet.{colon}
use Rattle.sheet_page.proofs.Whole.{wrote_put, put_short, label_short}
use Rattle.sheet_page.proofs.pieces.piece_of_line.Goals as goal

pub returns-in-0 : goal.returns-in-0
returns-in-0 c =
    let i = c.args.index in
    rw (c.in-0.is, c.number.ensures.value) (put_short (label_short i) (wrote_put (decimal i ++ colon) c.label.ensures (label_short i) c.requires))
