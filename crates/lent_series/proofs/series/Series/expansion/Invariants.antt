-- `Series::expansion` meets its contract: the entries before the index are put.
-- Assumes nothing.
use Rattle.std.proofs.Common.{◌≡◌, length, take}
use Rattle.taylor.specs.Coefficients.{terms}
use Rattle.lent_series.proofs.series.Series.expansion.Given as goal

abbrev pub invariant-loop-i : goal.invariant-loop-i
invariant-loop-i l = (length l.entries ≡ terms) × (take l.i l.entries ≡ take l.i l.self.coeffs)
