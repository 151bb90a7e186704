-- The walk only appends to what was lent.
-- Assumes nothing.
use mathlib.Core.Path.{◌≡◌}
use mathlib.Core.List.{List}
use Prim.Native.Nat.{ℕ}
use Rattle.pool.specs.Pool.{Pool, Result}
use Rattle.taylor.specs.Expansion.{Expansion}
use Rattle.taylor.specs.Expand.{Point, expand}
use Rattle.taylor_laws.proofs.Growing.{expand_grows}
use Rattle.lent.specs.Call.{lent_pool, Appended}
use Rattle.lent.proofs.Calling.{appended}

pub expand_appended :
    {ks ws : List ℕ} {n : ℕ} {P : Pool} {x : Result Pool Expansion} (root var : ℕ) (point : Point) (order : ℕ) → P ≡ lent_pool ks ws n → x ≡ expand root var point order P
    → Appended ks ws n x
expand_appended root var point order = appended (expand_grows root var point order)
