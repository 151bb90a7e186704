-- `sheet_line::cut_at_byte` meets its contract: the cut is at the first such byte.
-- Assumes nothing.
use Rattle.std.proofs.Common.{◌∙◌, sym}
use Rattle.sheet_line.proofs.Splitting.{one_found}
use Rattle.sheet_line.proofs.cut_at_byte.Goals as goal

pub returns : goal.returns
returns c = let w = c.in_ok-at.was in one_found c.args.wanted c.args.bytes.now (sym w ∙ c.place_of.ensures)
