-- The operations by name only append to what was lent.
-- Assumes nothing.
use mathlib.Core.Path.{◌≡◌}
use mathlib.Core.List.{List}
use Prim.Native.Nat.{ℕ}
use Rattle.pool.specs.Pool.{Pool, Result}
use Rattle.taylor.specs.Expansion.{Expansion}
use Rattle.taylor_laws.proofs.Growing.{Growing, add_to_grows, sub_from_grows, times_grows, quotient_grows, maximum_grows, subst_grows}
use Rattle.lent.specs.Call.{lent_pool, Appended}
use Rattle.lent.proofs.Calling.{appended}
use Rattle.engine_pairs.specs.Pairs.{binary_work}
use Rattle.engine_pairs.specs.declared.binary.Binary.{Binary}
use Rattle.engine_pairs.specs.declared.binary.Binary.TheVariants as binary

binary_grows : (op : Binary) (s t : Expansion) → Growing (binary_work op s t)
binary_grows binary.Add s t = add_to_grows s t
binary_grows binary.Sub s t = sub_from_grows s t
binary_grows binary.Mul s t = times_grows s t
binary_grows binary.Div s t = quotient_grows s t
binary_grows binary.Max s t = maximum_grows s t
binary_grows binary.Subst s t = subst_grows s t

pub binary_appended :
    {ks ws : List ℕ} {n : ℕ} {P : Pool} {x : Result Pool Expansion} (op : Binary) (s t : Expansion) → P ≡ lent_pool ks ws n → x ≡ binary_work op s t P → Appended ks ws n x
binary_appended op s t = appended (binary_grows op s t)
