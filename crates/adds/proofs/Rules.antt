-- The table of `add`, read under what the code has found of the two nodes: one law for each way out of the code.
-- Assumes nothing.
use mathlib.Core.Bool.{true, false}
use mathlib.Core.Path.{◌≡◌, sym}
use Prim.Native.Nat.{ℕ}
use lib.IntN.{ℤ, ◌+ℤ◌}
use Rattle.literal.specs.Literal.{is_zero}
use Rattle.pool.specs.declared.node.Node.{Node}
use Rattle.pool.specs.declared.node.Node.TheVariants as node
use Rattle.constructors.specs.Terms.{#, lit, add, Add, skip, return}
use Rattle.constructors.specs.Patterns.{lit_in, add_in}
use Rattle.constructors.specs.Tables.{add_arms, add_table}

-- on the left Lit(a)
module _ (at : ℕ → Node) (lhs rhs : ℕ) {a : ℤ} (l : at lhs ≡ node.Lit a) where
  pub zero_on_left : is_zero a ≡ true → # rhs ≡ add_table at lhs rhs
  unfolding add_arms
  zero_on_left g = simp (l, g)

  -- and a is not 0
  module _ (g : is_zero a ≡ false) where
    pub zero_on_lit : {b : ℤ} → at rhs ≡ node.Lit b → is_zero b ≡ true → # lhs ≡ add_table at lhs rhs
    unfolding add_arms
    zero_on_lit r h = simp (l, g, r, h)

    pub two_lits : {b : ℤ} → at rhs ≡ node.Lit b → is_zero b ≡ false → lit (a +ℤ b) ≡ add_table at lhs rhs
    unfolding add_arms
    two_lits r h = simp (l, g, r, h)

    -- on the right Add(b, c), with a literal at c and without
    module _ {b c : ℕ} (r : at rhs ≡ node.Add b c) where
      pub lit_onto_sum : {y : ℤ} → return y ≡ lit_in (at c) → add (# b) (lit (a +ℤ y)) ≡ add_table at lhs rhs
      unfolding add_arms
      lit_onto_sum h = simp (l, g, r, sym h)

      pub lit_beside_sum : skip ≡ lit_in (at c) → Add (# rhs) (# lhs) ≡ add_table at lhs rhs
      unfolding add_arms
      lit_beside_sum h = simp (l, g, r, sym h)

    pub lit_beside : lit_in (at rhs) ≡ skip → add_in (at rhs) ≡ skip → Add (# lhs) (# rhs) ≡ add_table at lhs rhs
    unfolding add_arms
    lit_beside q t = simp (l, g, q, t)

-- on the left Add(a, b)
module _ (at : ℕ → Node) (lhs rhs : ℕ) {a b : ℕ} (l : at lhs ≡ node.Add a b) where
  pub zero_on_sum : {z : ℤ} → at rhs ≡ node.Lit z → is_zero z ≡ true → # lhs ≡ add_table at lhs rhs
  unfolding add_arms
  zero_on_sum r g = simp (l, r, g)

  -- on the right Lit(z), and z is not 0: with a literal at a, and without
  module _ {z : ℤ} (r : at rhs ≡ node.Lit z) (g : is_zero z ≡ false) where
    pub sum_onto_lit : {x : ℤ} → return x ≡ lit_in (at a) → add (# b) (lit (z +ℤ x)) ≡ add_table at lhs rhs
    unfolding add_arms
    sum_onto_lit h = simp (l, r, g, sym h)

    pub sum_beside_lit : skip ≡ lit_in (at a) → Add (# lhs) (# rhs) ≡ add_table at lhs rhs
    unfolding add_arms
    sum_beside_lit h = simp (l, r, g, sym h)

  -- on the right Add(c, d): literals at b and d, at b alone, at d alone, at neither
  module _ {c d : ℕ} (r : at rhs ≡ node.Add c d) where
    pub lits_of_sums : {x y : ℤ} → return x ≡ lit_in (at b) → return y ≡ lit_in (at d) → add (add (# a) (# c)) (lit (x +ℤ y)) ≡ add_table at lhs rhs
    unfolding add_arms
    lits_of_sums h k = simp (l, r, sym h, sym k)

    pub lit_of_left : {x : ℤ} → return x ≡ lit_in (at b) → skip ≡ lit_in (at d) → add (add (# a) (# rhs)) (# b) ≡ add_table at lhs rhs
    unfolding add_arms
    lit_of_left h k = simp (l, r, sym h, sym k)

    pub lit_of_right : {y : ℤ} → skip ≡ lit_in (at b) → return y ≡ lit_in (at d) → add (add (# lhs) (# c)) (# d) ≡ add_table at lhs rhs
    unfolding add_arms
    lit_of_right h k = simp (l, r, sym h, sym k)

    pub no_lits : skip ≡ lit_in (at b) → skip ≡ lit_in (at d) → Add (# lhs) (# rhs) ≡ add_table at lhs rhs
    unfolding add_arms
    no_lits h k = simp (l, r, sym h, sym k)

  pub sum_beside : lit_in (at rhs) ≡ skip → add_in (at rhs) ≡ skip → Add (# lhs) (# rhs) ≡ add_table at lhs rhs
  unfolding add_arms
  sum_beside q t = simp (l, q, t)

-- on the left neither
module _ (at : ℕ → Node) (lhs rhs : ℕ) (p : lit_in (at lhs) ≡ skip) (s : add_in (at lhs) ≡ skip) where
  pub zero_on_other : {b : ℤ} → at rhs ≡ node.Lit b → is_zero b ≡ true → # lhs ≡ add_table at lhs rhs
  unfolding add_arms
  zero_on_other r g = simp (p, s, r, g)

  pub beside_lit : {b : ℤ} → at rhs ≡ node.Lit b → is_zero b ≡ false → Add (# lhs) (# rhs) ≡ add_table at lhs rhs
  unfolding add_arms
  beside_lit r g = simp (p, s, r, g)

  pub beside : lit_in (at rhs) ≡ skip → Add (# lhs) (# rhs) ≡ add_table at lhs rhs
  unfolding add_arms
  beside q = simp (p, s, q)
