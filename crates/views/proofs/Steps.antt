-- How the constructors run: at a depth, and the terms of one step.
-- Assumes nothing.
use mathlib.Core.Path.{◌≡◌, refl, ap}
use mathlib.Core.Logic.{◌≢◌}
use Prim.Native.Nat.{ℕ, zero, suc, ◌-◌}
use native.Mathlib.Omega.{arith}
use lib.IntN.{ℤ}
use Rattle.literal.specs.Literal.{folded}
use Rattle.pool.specs.declared.node.Node.TheVariants as node
use Rattle.pool.specs.Pool.{Pool, done, append}
use Rattle.constructors.specs.Terms.{#, lit, Add, Mul, Pow}
use Rattle.constructors.specs.Build.{Calls, literal, build, calls, no_calls, deeper}

-- with no depth left every constructor refuses
pub none_left : (left : ℕ) → left ≡ 0 → calls left ≡ no_calls
unfolding calls
none_left left h = rw h refl

-- with some depth left a constructor runs its table one deeper
pub runs_deeper : (left : ℕ) → left ≢ 0 → calls left ≡ deeper (calls (left - 1))
unfolding calls
runs_deeper zero n = absurd (n refl)
runs_deeper (suc left) n = ap (λ (k : ℕ). deeper (calls k)) (less left)
  where
    less : (left : ℕ) → left ≡ suc left - 1
    less left = omega arith

-- what a term builds that has no call in it
module _ (c : Calls) (P : Pool) where
  pub build_node : (a : ℕ) → build c (# a) P ≡ done a P
  unfolding build
  build_node a = refl

  pub build_lit : (z : ℤ) → build c (lit z) P ≡ literal (folded z) P
  unfolding build
  build_lit z = refl

  pub build_add : (a b : ℕ) → build c (Add (# a) (# b)) P ≡ append (node.Add a b) P
  unfolding build
  build_add a b = refl

  pub build_mul : (a b : ℕ) → build c (Mul (# a) (# b)) P ≡ append (node.Mul a b) P
  unfolding build
  build_mul a b = refl

  pub build_pow : (a n : ℕ) → build c (Pow (# a) n) P ≡ append (node.Pow a n) P
  unfolding build
  build_pow a n = refl
