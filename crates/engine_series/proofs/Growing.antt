-- The operations by name only append to what was lent.
-- Assumes nothing.
use mathlib.Core.Path.{◌≡◌}
use mathlib.Core.List.{List}
use Prim.Native.Nat.{ℕ}
use Rattle.pool.specs.Pool.{Pool, Result}
use Rattle.taylor.specs.Expansion.{Expansion}
use Rattle.taylor_laws.proofs.Growing.{Growing, negate_grows, exponential_grows, logarithm_grows, power_grows}
use Rattle.lent.specs.Call.{lent_pool, Appended}
use Rattle.lent.proofs.Calling.{appended}
use Rattle.engine_series.specs.Operations.{unary_work}
use Rattle.engine_series.specs.declared.Unary.{Unary}
use Rattle.engine_series.specs.declared.Unary.TheVariants as unary

unary_grows : (op : Unary) (e : Expansion) → Growing (unary_work op e)
unary_grows unary.Neg e = negate_grows e
unary_grows unary.Exp e = exponential_grows e
unary_grows unary.Log e = logarithm_grows e
unary_grows (unary.Pow n) e = power_grows e n

pub unary_appended :
    {ks ws : List ℕ} {n : ℕ} {P : Pool} {x : Result Pool Expansion} (op : Unary) (e : Expansion) → P ≡ lent_pool ks ws n → x ≡ unary_work op e P → Appended ks ws n x
unary_appended op e = appended (unary_grows op e)
