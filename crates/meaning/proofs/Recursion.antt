-- A recursion under a bound: what it gives at a number is had from what it gives at smaller ones, so every bound above the number gives the same, and that solves the recursion's equation.
-- Assumes nothing.
use mathlib.Core.Path.{◌≡◌, sym, ◌∙◌}
use Prim.Native.Nat.{ℕ, zero, suc, ◌<◌}
use native.Mathlib.Omega.{arith}

module _ {X : Type 0} (step : (ℕ → X) → ℕ → X) where
  -- a step at i looks only below i
  pub record LooksBelow : Type 0 where
    pub same : (f g : ℕ → X) (i : ℕ) → ((j : ℕ) → j < i → f j ≡ g j) → step f i ≡ step g i

  module _ (walk : ℕ → ℕ → X) (turns : (k i : ℕ) → walk (suc k) i ≡ step (walk k) i) (looks : LooksBelow) where
    pub bounds_same : (k m i : ℕ) → i < k → i < m → walk k i ≡ walk m i
    bounds_same zero m i h l = absurd (none i h)
      where
        none : (i : ℕ) → i < 0 → ⊥
        none i h = omega arith
    bounds_same (suc k) zero i h l = absurd (none i l)
      where
        none : (i : ℕ) → i < 0 → ⊥
        none i h = omega arith
    bounds_same (suc k) (suc m) i h l =
        turns k i ∙ looks.same (walk k) (walk m) i (λ j s. bounds_same k m j (omega arith) (omega arith)) ∙ sym (turns m i)

    -- with the least bound at each number
    pub recursion_solves : (i : ℕ) → walk (suc i) i ≡ step (λ j. walk (suc j) j) i
    recursion_solves i = turns i i ∙ looks.same (walk i) (λ j. walk (suc j) j) i (λ j s. bounds_same i (suc j) j s (omega arith))
