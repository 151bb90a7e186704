-- What the coefficients of an expansion are as values, and what it is for them to be those of a series.
-- Assumes nothing.
use Rattle.std.specs.Prelude.{◌≡◌, cond, ℕ, zero, suc, ◌<◌, eqb, pos, length, Some, None}
use Rattle.pool.specs.Pool.{Pool, node_at}
use Rattle.taylor.specs.Work.{at}
use Rattle.taylor.specs.Expansion.{Expansion}
use Rattle.taylor.specs.declared.expansion.Expansion.TheVariants.{Constant, Polynomial}
use Rattle.taylor.specs.Expand.{Point}
use Rattle.meaning.specs.Model.{Algebra}
use Rattle.meaning.specs.Value.{Values, value}
use Rattle.taylor_meaning.specs.Series.{Series, constant_series, shifted, series}

-- coefficient k is there: every one of a constant, and those of a list
abbrev pub Present : Expansion → ℕ → Type 0
Present (Constant c) k = Unit {0}
Present (Polynomial cs) k = k < length cs

-- the first n coefficients are there
abbrev pub Long : ℕ → Expansion → Type 0
Long n e = (k : ℕ) → k < n → Present e k

-- an expansion of the pool: its coefficients are nodes, and a list has one at least
abbrev pub InPool : Pool → Expansion → Type 0
InPool P (Constant c) = c < P.count
InPool P (Polynomial cs) = (0 < length cs) × ((k : ℕ) → k < length cs → at cs k < P.count)

module _ (A : Algebra) (env : Values A) where
  -- the value of coefficient k; a constant's are 0 from 1 on
  unfoldable pub coefficient : Pool → Expansion → ℕ → A.carrier
  coefficient P (Constant c) zero = value A env (node_at P) c
  coefficient P (Constant c) (suc k) = A.int (pos 0)
  coefficient P (Polynomial cs) k = value A env (node_at P) (at cs k)

  -- an accepted answer, the expansion e in the pool Q: it has the first n coefficients, all that it has have the series' values, and every node of P has in Q the value that it had
  pub record MeansSeries (P : Pool) (n : ℕ) (f : Series A) (e : Expansion) (Q : Pool) : Type 0 where
    pub long : Long n e
    pub coefficients : (k : ℕ) → Present e k → coefficient Q e k ≡ f k
    pub earlier : (j : ℕ) → j < P.count → value A env (node_at Q) j ≡ value A env (node_at P) j

  -- the value at which an expansion is made: the point, or the variable's own
  abbrev pub base : ℕ → Point → A.carrier
  base v None = env v
  base v (Some z) = A.int z

  -- the variables as series: the one sought is its value and t, the others are constants
  abbrev pub as_series : ℕ → Point → Values (series A)
  as_series v x u = cond (eqb u v) (shifted A (base v x)) (constant_series A (env u))
