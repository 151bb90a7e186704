-- `sheet_lines::answer::entries_of` meets its contract: the entries that were passed are put.
-- Assumes nothing.
use Rattle.std.proofs.Common.{◌≡◌, length, take}
use Rattle.taylor.specs.Coefficients.{terms}
use Rattle.sheet_lines.proofs.answer.entries_of.Given as goal

abbrev pub invariant-loop-i : goal.invariant-loop-i
invariant-loop-i l = (length l.entries ≡ terms) × (take l.i l.entries ≡ take l.i l.nodes)
