-- The expansion of a variable as a call from outside: refusals 1, 2 and 5 first, then the work.
-- Assumes nothing.
use Rattle.std.specs.Prelude.{[], ◌∷◌, ℕ, ltb}
use Rattle.taylor.specs.Work.{Work}
use Rattle.taylor.specs.Expansion.{Expansion, var}
use Rattle.taylor.specs.Coefficients.{terms}
use Rattle.lent.specs.Call.{given_nodes}
use Rattle.lent_series.specs.Call.{given_order}

-- 5. "An order is above 24"
abbrev pub var_call : ℕ → ℕ → Work Expansion
var_call x n = given_nodes (x ∷ []) (given_order (ltb n terms) (var x n))
