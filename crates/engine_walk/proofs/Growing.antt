-- Both walks only append to what was lent.
-- Assumes nothing.
use mathlib.Core.Path.{◌≡◌}
use mathlib.Core.List.{List}
use Prim.Native.Nat.{ℕ}
use Rattle.pool.specs.Pool.{Pool, Out}
use Rattle.walks.specs.Substitute.{substitute_var}
use Rattle.walks.specs.Derive.{derive}
use Rattle.walk_laws.proofs.Substitution.{substitute_grows}
use Rattle.walk_laws.proofs.Derivation.{derive_grows}
use Rattle.lent.specs.Call.{lent_pool, Appended}
use Rattle.lent.proofs.Calling.{appended}

module _ {ks ws : List ℕ} {n : ℕ} {P : Pool} {x : Out} (taken : P ≡ lent_pool ks ws n) where
  pub substitute_appended : (root var value : ℕ) → x ≡ substitute_var root var value P → Appended ks ws n x
  substitute_appended root var value = appended (substitute_grows var value root) taken

  pub derive_appended : (root var : ℕ) → x ≡ derive root var P → Appended ks ws n x
  derive_appended root var = appended (derive_grows var root) taken
