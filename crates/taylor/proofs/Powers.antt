-- "the square after the exponent's highest one bit is not taken": where 1 is left of the exponent, one product is taken and nothing more.
-- Assumes nothing.
use mathlib.Core.Path.{◌≡◌, refl}
use Prim.Native.Nat.{ℕ, suc}
use Rattle.pool.specs.Pool.{Pool}
use Rattle.taylor.specs.Work.{bind, yield}
use Rattle.taylor.specs.Expansion.{Expansion, times, pow_from}

pub no_square_after_the_highest_bit : (k : ℕ) (res base : Expansion) (P : Pool) → pow_from (suc k) 1 res base P ≡ bind (times res base P) yield
unfolding pow_from
no_square_after_the_highest_bit k res base P = refl
