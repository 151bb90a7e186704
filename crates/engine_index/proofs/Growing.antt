-- The work by name only appends to what was lent.
-- Assumes nothing.
use mathlib.Core.Path.{◌≡◌}
use mathlib.Core.List.{List}
use Prim.Native.Nat.{ℕ}
use Rattle.pool.specs.Pool.{Pool, Out}
use Rattle.taylor.specs.Expansion.{Expansion}
use Rattle.taylor_laws.proofs.Growing.{Growing, coeff_grows, derivative_grows}
use Rattle.lent.specs.Call.{lent_pool, Appended}
use Rattle.lent.proofs.Calling.{appended}
use Rattle.engine_index.specs.Indices.{indexed_work}
use Rattle.engine_index.specs.declared.Indexed.{Indexed}
use Rattle.engine_index.specs.declared.Indexed.TheVariants as indexed

indexed_grows : (op : Indexed) (e : Expansion) (k : ℕ) → Growing (indexed_work op e k)
indexed_grows indexed.Coeff e k = coeff_grows e k
indexed_grows indexed.Derivative e k = derivative_grows e k

pub indexed_appended :
    {ks ws : List ℕ} {n : ℕ} {P : Pool} {x : Out} (op : Indexed) (e : Expansion) (k : ℕ) → P ≡ lent_pool ks ws n → x ≡ indexed_work op e k P → Appended ks ws n x
indexed_appended op e k = appended (indexed_grows op e k)
