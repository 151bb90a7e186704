-- The tables of `log` and `div`, read under what the code has found of their nodes: one law for each way out of the code.
-- Assumes nothing.
use Rattle.std.specs.Prelude.{Option, Some, None, MatchOption}
use mathlib.Core.Bool.{Bool, true, false, true≢false}
use mathlib.Core.Path.{◌≡◌, refl, sym, ◌∙◌}
use Prim.Native.Nat.{ℕ}
use lib.IntN.{ℤ, pos}
use Rattle.literal.specs.Literal.{is_zero, is_one}
use Rattle.pool.specs.declared.node.Node.{Node}
use Rattle.pool.specs.declared.node.Node.TheVariants as node
use Rattle.constructors.specs.Terms.{Term, #, lit, lit_log, add, log, Log, Div, Arm, skip, return, ◌>>=◌, ◌>>◌}
use Rattle.constructors.specs.Patterns.{lit_in, mul_in}
use Rattle.constructors.specs.Tables.{log_arms, log_table, div_table}
use Rattle.views.specs.Found.{found}

-- the table of `log`
module _ (at : ℕ → Node) (arg : ℕ) where
  -- Lit(1), and another literal
  pub log_of_one : {a : ℤ} → at arg ≡ node.Lit a → is_one a ≡ true → lit (pos 0) ≡ log_table at arg
  unfolding log_arms
  log_of_one p g = simp (p, g)

  pub log_of_lit : {a : ℤ} → at arg ≡ node.Lit a → is_one a ≡ false → lit_log a ≡ log_table at arg
  unfolding log_arms
  log_of_lit p g = simp (p, g)

  -- Mul(a, b), with a literal at a and without
  module _ {a b : ℕ} (p : at arg ≡ node.Mul a b) where
    pub log_of_product : {x : ℤ} → return x ≡ lit_in (at a) → add (log (# b)) (lit_log x) ≡ log_table at arg
    unfolding log_arms
    log_of_product h = simp (p, sym h)

    pub log_beside_product : skip ≡ lit_in (at a) → Log (# arg) ≡ log_table at arg
    unfolding log_arms
    log_beside_product h = simp (p, sym h)

  pub log_beside : lit_in (at arg) ≡ skip → mul_in (at arg) ≡ skip → Log (# arg) ≡ log_table at arg
  unfolding log_arms
  log_beside p s = simp (p, s)

-- a literal's pattern with a guard: what the code finds of the node, and what the test of it gave
module _ (test : ℤ → Bool) (t : Term) where
  guard_holds : (o : Option ℤ) {r : Bool} {m : Arm ℤ} → found o ≡ m → MatchOption o (r ≡ false) (λ z. r ≡ test z) → r ≡ true → (m >>= (λ z. test z >> return t)) ≡ return t
  guard_holds None e h k = absurd (true≢false (sym k ∙ h))
  guard_holds (Some z) e h k = rw (sym e, sym h, k) refl

  guard_fails : (o : Option ℤ) {r : Bool} {m : Arm ℤ} → found o ≡ m → MatchOption o (r ≡ false) (λ z. r ≡ test z) → r ≡ false → (m >>= (λ z. test z >> return t)) ≡ skip
  guard_fails None e h k = rw (sym e) refl
  guard_fails (Some z) e h k = rw (sym e, sym h, k) refl

-- the table of `div`
module _ (at : ℕ → Node) (lhs rhs : ℕ) where
  -- (Lit(0), _)
  pub zero_over : (o : Option ℤ) {r : Bool} → found o ≡ lit_in (at lhs) → MatchOption o (r ≡ false) (λ z. r ≡ is_zero z) → r ≡ true → lit (pos 0) ≡ div_table at lhs rhs
  unfolding div_table
  zero_over o e h k = rw (guard_holds is_zero (lit (pos 0)) o e h k)

  module _ (o p : Option ℤ) {r q : Bool} (e : found o ≡ lit_in (at lhs)) (h : MatchOption o (r ≡ false) (λ z. r ≡ is_zero z)) (k : r ≡ false) (f : found p ≡ lit_in (at rhs)) (g : MatchOption p (q ≡ false) (λ z. q ≡ is_one z)) where
    -- (_, Lit(1))
    pub over_one : q ≡ true → # lhs ≡ div_table at lhs rhs
    unfolding div_table
    over_one l = rw (guard_fails is_zero (lit (pos 0)) o e h k, guard_holds is_one (# lhs) p f g l)

    pub over_other : q ≡ false → Div (# lhs) (# rhs) ≡ div_table at lhs rhs
    unfolding div_table
    over_other l = rw (guard_fails is_zero (lit (pos 0)) o e h k, guard_fails is_one (# lhs) p f g l)
