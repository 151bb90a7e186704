-- `Series::from` meets its contract: one entry more is there.
-- Assumes nothing.
use native.Mathlib.Omega.{arith}
use Rattle.taylor.specs.Coefficients.{terms}
use Rattle.lent_series.proofs.Numbers.{filled_more}
use Rattle.lent_series.proofs.series.SeriesFromExpansion.from.Goals as goal

pub loop-k-preserved : goal.loop-k-preserved
loop-k-preserved c =
    let more = filled_more c.in-Polynomial.list terms c.loop-k.k (omega arith) (omega arith) in
    cc (more, c.loop-k.invariant)
