-- The walk from a node is the same below every bound above the node, and is refused below any other.
-- Assumes nothing.
use Rattle.std.specs.Prelude.{None}
use mathlib.Core.Path.{◌≡◌, refl, sym, ap, ◌∙◌}
use mathlib.Core.Logic.{◌⊎◌, inl, inr}
use Prim.Native.Nat.{ℕ, zero, suc, ◌+◌, ◌≤◌, ◌<◌}
use native.Mathlib.Nat.{eq-or-lt_of_le}
use native.Mathlib.Numerals.{add-one}
use native.Mathlib.Omega.{arith}
use lib.ListN.{get_or, replicate, length-replicate, get_or-eq_default}
use borrow.Author.Tests.{eq-eqb, ne_eqb, le-ltb}
use Rattle.refusals.specs.Refusals.{broken_pool}
use Rattle.pool.specs.Pool.{Pool, limit, node_in, refused}
use Rattle.pool.specs.declared.node.Node.{Node}
use Rattle.pool.specs.declared.node.Node.TheVariants.{Empty}
use Rattle.taylor.specs.Expand.{Kept, State, state, Point, bind, keep, once, expand_node, expand_at, expand_below, expanded, expand}

module _ (v : ℕ) (x : Point) (order : ℕ) (S : State) where
  here : (i : ℕ) → expand_below v x order (suc i) i S ≡ once (expand_at v x order (expand_below v x order i)) i (get_or S.results i None) S
  unfolding expand_below
  here i = rw (eq-eqb i i refl)

  -- at the bound's last node it is visited, once
  pub expand_here : (i : ℕ) → expand_below v x order (i + 1) i S ≡ once (expand_at v x order (expand_below v x order i)) i (get_or S.results i None) S
  expand_here i = rw (add-one i) (here i)

  elsewhere : (k a : ℕ) → a < k → expand_below v x order (suc k) a S ≡ expand_below v x order k a S
  unfolding expand_below
  elsewhere k a h = rw (ne_eqb a k (λ e. omega arith))

  same_below : (k a : ℕ) → a < k → expand_below v x order (suc a) a S ≡ expand_below v x order k a S
  same_below zero a h = absurd (none a h)
    where
      none : (a : ℕ) → a < 0 → ⊥
      none a h = omega arith
  same_below (suc k) a h = go (eq-or-lt_of_le (at_most a k h)) (same_below k a)
    where
      at_most : (a k : ℕ) → a < suc k → a ≤ k
      at_most a k h = omega arith

      go : (a ≡ k) ⊎ (a < k) → (a < k → expand_below v x order (suc a) a S ≡ expand_below v x order k a S) → expand_below v x order (suc a) a S ≡ expand_below v x order (suc k) a S
      go (inl e) less = ap (λ (n : ℕ). expand_below v x order (suc n) a S) e
      go (inr l) less = less l ∙ sym (elsewhere k a l)

  -- a part below the node
  pub below : (k a : ℕ) → a < k → expand_below v x order (a + 1) a S ≡ expand_below v x order k a S
  below k a h = rw (add-one a) (same_below k a h)

  -- a part that is not
  pub above : (k a : ℕ) → k ≤ a → refused broken_pool ≡ expand_below v x order k a S
  unfolding expand_below
  above zero a h = refl
  above (suc k) a h = rw (ne_eqb a k (other a k h)) (above k a (less a k h))
    where
      other : (a k : ℕ) → suc k ≤ a → a ≡ k → ⊥
      other a k h e = omega arith

      less : (a k : ℕ) → suc k ≤ a → k ≤ a
      less a k h = omega arith

-- a walk from a number past the tables comes to no node
pub nowhere : (v : ℕ) (x : Point) (order root : ℕ) (P : Pool) → limit ≤ root → refused broken_pool ≡ expand root v x order P
unfolding node_in
nowhere v x order root P past =
    let S = state P (replicate limit None) in
    let none : get_or (replicate limit None) root None ≡ None = get_or-eq_default (replicate limit None) None {n = root} (rw (length-replicate {A = Kept} limit None) past) in
    let empty : node_in P.kinds P.words root ≡ Empty = rw (le-ltb root limit past) in
    ap expanded
    (sym
    (here v x order S root
    ∙ ap (λ (r : Kept). once (expand_at v x order (expand_below v x order root)) root r S) none
    ∙ ap (λ (n : Node). bind (expand_node v x order (expand_below v x order root) root n S) (keep root)) empty))
