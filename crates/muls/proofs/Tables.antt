-- The tables of `exp` and `pow`, read under what the code has found: one law for each way out of the code.
-- Assumes nothing.
use mathlib.Core.Bool.{true, false}
use mathlib.Core.Logic.{◌≢◌}
use mathlib.Core.Path.{◌≡◌, refl, sym}
use Prim.Native.Nat.{ℕ}
use lib.IntN.{ℤ, pos, ◌*ℤ◌}
use borrow.Author.Tests.{eq-eqb, ne_eqb}
use Rattle.literal.specs.Literal.{is_zero, is_one}
use Rattle.pool.specs.declared.node.Node.{Node}
use Rattle.pool.specs.declared.node.Node.TheVariants as node
use Rattle.pool.specs.Pool.{Pool}
use Rattle.constructors.specs.Terms.{#, lit, lit_exp, mul, exp, Mul, Exp, Pow, skip, return}
use Rattle.constructors.specs.Patterns.{lit_in, add_in}
use Rattle.constructors.specs.Tables.{exp_arms, exp_table, pow_table}
use Rattle.constructors.specs.Build.{Calls, build, no_calls}

-- a product of two literals times a node calls no constructor
pub build_scaled : (c : Calls) (P : Pool) (x y : ℤ) (a : ℕ) → build c (Mul (lit (x *ℤ y)) (# a)) P ≡ build no_calls (Mul (lit (x *ℤ y)) (# a)) P
unfolding build
build_scaled c P x y a = refl

-- ---- exp
module _ (at : ℕ → Node) (arg : ℕ) where
  -- Lit(0), and another literal
  pub exp_of_zero : {z : ℤ} → at arg ≡ node.Lit z → is_zero z ≡ true → lit (pos 1) ≡ exp_table at arg
  unfolding exp_arms
  exp_of_zero p g = simp (p, g)

  pub exp_of_lit : {z : ℤ} → at arg ≡ node.Lit z → is_zero z ≡ false → lit_exp z ≡ exp_table at arg
  unfolding exp_arms
  exp_of_lit p g = simp (p, g)

  -- Add(a, b), with a literal at b and without
  pub exp_of_shifted : {a b : ℕ} {z : ℤ} → at arg ≡ node.Add a b → return z ≡ lit_in (at b) → mul (lit_exp z) (exp (# a)) ≡ exp_table at arg
  unfolding exp_arms
  exp_of_shifted p q = simp (p, sym q)

  pub exp_of_sum : {a b : ℕ} → at arg ≡ node.Add a b → skip ≡ lit_in (at b) → Exp (# arg) ≡ exp_table at arg
  unfolding exp_arms
  exp_of_sum p q = simp (p, sym q)

  pub exp_of_other : lit_in (at arg) ≡ skip → add_in (at arg) ≡ skip → Exp (# arg) ≡ exp_table at arg
  unfolding exp_arms
  exp_of_other p q = simp (p, q)

-- ---- pow
module _ (at : ℕ → Node) (base e : ℕ) where
  pub power_zero : e ≡ 0 → lit (pos 1) ≡ pow_table at base e
  unfolding pow_table
  power_zero p = simp (eq-eqb e 0 p)

  module _ (p : e ≢ 0) where
    pub power_one : e ≡ 1 → # base ≡ pow_table at base e
    unfolding pow_table
    power_one q = simp (ne_eqb e 0 p, eq-eqb e 1 q)

    module _ (q : e ≢ 1) where
      pub power_of_other : skip ≡ lit_in (at base) → Pow (# base) e ≡ pow_table at base e
      unfolding pow_table
      power_of_other l = simp (ne_eqb e 0 p, ne_eqb e 1 q, sym l)

      pub power_of_zero : {a : ℤ} → return a ≡ lit_in (at base) → is_zero a ≡ true → lit (pos 0) ≡ pow_table at base e
      unfolding pow_table
      power_of_zero l g = simp (ne_eqb e 0 p, ne_eqb e 1 q, sym l, g)

      pub power_of_one : {a : ℤ} → return a ≡ lit_in (at base) → is_zero a ≡ false → is_one a ≡ true → lit (pos 1) ≡ pow_table at base e
      unfolding pow_table
      power_of_one l g h = simp (ne_eqb e 0 p, ne_eqb e 1 q, sym l, g, h)

      pub power_of_lit : {a : ℤ} → return a ≡ lit_in (at base) → is_zero a ≡ false → is_one a ≡ false → Pow (# base) e ≡ pow_table at base e
      unfolding pow_table
      power_of_lit l g h = simp (ne_eqb e 0 p, ne_eqb e 1 q, sym l, g, h)
