-- The values of the variables with one of them set.
-- Assumes nothing.
use Rattle.std.specs.Prelude.{cond, ℕ, eqb}
use Rattle.meaning.specs.Model.{Algebra}
use Rattle.meaning.specs.Value.{Values}

-- the variable v has the value x, all others keep theirs
abbrev pub setting : (A : Algebra) → Values A → ℕ → A.carrier → Values A
setting A env v x u = cond (eqb u v) x (env u)
