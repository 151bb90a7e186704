-- `Series::from` meets its contract: the entries before the index are there, and zeros after them.
-- Assumes nothing.
use Rattle.std.proofs.Common.{◌≡◌, ◌-◌, ◌++◌, take, replicate}
use Rattle.taylor.specs.Coefficients.{terms}
use Rattle.lent_series.proofs.series.SeriesFromExpansion.from.Given as goal

abbrev pub invariant-loop-k : goal.invariant-loop-k
invariant-loop-k l = l.coeffs ≡ take l.k l.list ++ replicate (terms - l.k) 0
