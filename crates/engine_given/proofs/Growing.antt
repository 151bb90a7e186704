-- The expansion of a variable only appends to what was lent.
-- Assumes nothing.
use mathlib.Core.Path.{◌≡◌}
use mathlib.Core.List.{List}
use Prim.Native.Nat.{ℕ}
use Rattle.pool.specs.Pool.{Pool, Result}
use Rattle.taylor.specs.Expansion.{Expansion, var}
use Rattle.taylor_laws.proofs.Growing.{var_grows}
use Rattle.lent.specs.Call.{lent_pool, Appended}
use Rattle.lent.proofs.Calling.{appended}

pub var_appended :
    {ks ws : List ℕ} {n : ℕ} {P : Pool} {x : Result Pool Expansion} (node order : ℕ) → P ≡ lent_pool ks ws n → x ≡ var node order P → Appended ks ws n x
var_appended node order = appended (var_grows node order)
