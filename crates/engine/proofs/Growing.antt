-- The constructors by name, and a node by itself, only append to what was lent.
-- Assumes nothing.
use mathlib.Core.Path.{◌≡◌}
use mathlib.Core.List.{List}
use Prim.Native.Nat.{ℕ}
use Rattle.pool.specs.Pool.{Pool, Out, append}
use Rattle.pool.specs.declared.node.Node.{Node}
use Rattle.constructors.specs.Build.{depth}
use Rattle.constructor_laws.proofs.Growth.{Growing, append_grows, calls_grow}
use Rattle.constructor_calls.specs.Calls.{two_work, one_work}
use Rattle.constructor_calls.specs.declared.two.Two.{Two}
use Rattle.constructor_calls.specs.declared.two.Two.TheVariants as two
use Rattle.constructor_calls.specs.declared.one.One.{One}
use Rattle.constructor_calls.specs.declared.one.One.TheVariants as one
use Rattle.lent.specs.Call.{lent_pool, Appended}
use Rattle.lent.proofs.Calling.{appended}

two_grows : (op : Two) (a b : ℕ) → Growing (two_work op a b)
two_grows two.Add a b = (calls_grow depth).add_at a b
two_grows two.Mul a b = (calls_grow depth).mul_at a b
two_grows two.Div a b = (calls_grow depth).div_at a b
two_grows two.Max a b = (calls_grow depth).max_at a b

one_grows : (op : One) (a : ℕ) → Growing (one_work op a)
one_grows one.Neg a = (calls_grow depth).neg_at a
one_grows one.Exp a = (calls_grow depth).exp_at a
one_grows one.Log a = (calls_grow depth).log_at a
one_grows (one.Pow e) a = (calls_grow depth).pow_at a e

module _ {ks ws : List ℕ} {n : ℕ} {P : Pool} {x : Out} (taken : P ≡ lent_pool ks ws n) where
  pub two_appended : (op : Two) (a b : ℕ) → x ≡ two_work op a b P → Appended ks ws n x
  two_appended op a b = appended (two_grows op a b) taken

  pub one_appended : (op : One) (a : ℕ) → x ≡ one_work op a P → Appended ks ws n x
  one_appended op a = appended (one_grows op a) taken

  pub node_appended : (node : Node) → x ≡ append node P → Appended ks ws n x
  node_appended node = appended (append_grows node) taken
