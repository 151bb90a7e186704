-- The expansion of an expression as a call from outside: 1, 2, 3, 4, 5, then the work.
-- Assumes nothing.
use Rattle.std.specs.Prelude.{[], ◌∷◌, ℕ, ltb}
use Rattle.refusals.specs.Refusals.{not_literal}
use Rattle.pool.specs.Pool.{refused}
use Rattle.taylor.specs.Work.{Work}
use Rattle.taylor.specs.Expansion.{Expansion}
use Rattle.taylor.specs.Expand.{Point, is_point, expand}
use Rattle.taylor.specs.Coefficients.{terms}
use Rattle.lent.specs.Call.{demand, given_nodes, given_variable}
use Rattle.lent_series.specs.Call.{given_order}

-- 4. "A literal or point is outside the literal range."
abbrev given_point : {A : Type 0} → Point → Work A → Work A
given_point x work P = demand refused (is_point x) not_literal (work P)

-- 5. "An order is above 24"
abbrev pub expand_work : ℕ → ℕ → Point → ℕ → Work Expansion
expand_work root var x order = given_nodes (root ∷ []) (given_variable var (given_point x (given_order (ltb order terms) (expand root var x order))))
