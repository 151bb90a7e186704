-- A walk from a node is the same below every bound above the node, and is refused below any other.
-- Assumes nothing.
use Rattle.std.specs.Prelude.{None}
use mathlib.Core.Path.{◌≡◌, refl, sym, ap, ◌∙◌}
use mathlib.Core.Logic.{◌⊎◌, inl, inr}
use Prim.Native.Nat.{ℕ, zero, suc, ◌+◌, ◌≤◌, ◌<◌}
use native.Mathlib.Nat.{eq-or-lt_of_le}
use native.Mathlib.Numerals.{add-one}
use native.Mathlib.Omega.{arith}
use lib.ListN.{get_or}
use borrow.Author.Tests.{eq-eqb, ne_eqb}
use Rattle.refusals.specs.Refusals.{broken_pool}
use Rattle.pool.specs.Pool.{refused}
use Rattle.walks.specs.Walk.{State, Walk, once, walk_below}

module _ (visit : (ℕ → Walk) → ℕ → Walk) (S : State) where
  here : (i : ℕ) → walk_below visit (suc i) i S ≡ once (visit (walk_below visit i)) i (get_or S.kept i None) S
  unfolding walk_below
  here i = rw (eq-eqb i i refl)

  -- at the bound's last node it is visited, once
  pub walk_here : (i : ℕ) → walk_below visit (i + 1) i S ≡ once (visit (walk_below visit i)) i (get_or S.kept i None) S
  walk_here i = rw (add-one i) (here i)

  elsewhere : (k a : ℕ) → a < k → walk_below visit (suc k) a S ≡ walk_below visit k a S
  unfolding walk_below
  elsewhere k a h = rw (ne_eqb a k (λ e. omega arith))

  same_below : (k a : ℕ) → a < k → walk_below visit (suc a) a S ≡ walk_below visit k a S
  same_below zero a h = absurd (none a h)
    where
      none : (a : ℕ) → a < 0 → ⊥
      none a h = omega arith
  same_below (suc k) a h = go (eq-or-lt_of_le (at_most a k h)) (same_below k a)
    where
      at_most : (a k : ℕ) → a < suc k → a ≤ k
      at_most a k h = omega arith

      go : (a ≡ k) ⊎ (a < k) → (a < k → walk_below visit (suc a) a S ≡ walk_below visit k a S) → walk_below visit (suc a) a S ≡ walk_below visit (suc k) a S
      go (inl e) less = ap (λ (n : ℕ). walk_below visit (suc n) a S) e
      go (inr l) less = less l ∙ sym (elsewhere k a l)

  -- a part below the node
  pub below : (k a : ℕ) → a < k → walk_below visit (a + 1) a S ≡ walk_below visit k a S
  below k a h = rw (add-one a) (same_below k a h)

  -- a part that is not
  pub above : (k a : ℕ) → k ≤ a → refused broken_pool ≡ walk_below visit k a S
  unfolding walk_below
  above zero a h = refl
  above (suc k) a h = rw (ne_eqb a k (other a k h)) (above k a (less a k h))
    where
      other : (a k : ℕ) → suc k ≤ a → a ≡ k → ⊥
      other a k h e = omega arith

      less : (a k : ℕ) → suc k ≤ a → k ≤ a
      less a k h = omega arith
