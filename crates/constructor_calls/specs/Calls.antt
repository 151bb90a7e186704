-- The constructor of each kind, called at the full depth.
-- Assumes nothing.
use Rattle.std.specs.Prelude.{ℕ}
use Rattle.pool.specs.Pool.{Run}
use Rattle.constructors.specs.Build.{calls, depth}
use Rattle.constructor_calls.specs.declared.two.Two.{Two}
use Rattle.constructor_calls.specs.declared.two.Two.TheVariants as two
use Rattle.constructor_calls.specs.declared.one.One.{One}
use Rattle.constructor_calls.specs.declared.one.One.TheVariants as one

-- the constructors of two nodes
abbrev pub two_work : Two → ℕ → ℕ → Run
two_work two.Add a b = (calls depth).add_at a b
two_work two.Mul a b = (calls depth).mul_at a b
two_work two.Div a b = (calls depth).div_at a b
two_work two.Max a b = (calls depth).max_at a b

-- the constructors of one node
abbrev pub one_work : One → ℕ → Run
one_work one.Neg a = (calls depth).neg_at a
one_work one.Exp a = (calls depth).exp_at a
one_work one.Log a = (calls depth).log_at a
one_work (one.Pow e) a = (calls depth).pow_at a e
