-- Sums and recurrences: equal terms have equal sums, and a recurrence that looks only below k solves its equation.
-- Assumes nothing.
use mathlib.Core.Path.{◌≡◌, refl, ap}
use Prim.Native.Nat.{ℕ, zero, suc, ◌-◌, ◌<◌}
use native.Mathlib.Omega.{arith}
use lib.IntN.{pos}
use Rattle.meaning.specs.Model.{Algebra}
use Rattle.meaning.proofs.Recursion.{LooksBelow, recursion_solves}
use Rattle.meaning.proofs.Values.{same_op}
use Rattle.taylor_meaning.specs.Series.{sum, minus, Series, below, recurrence, over_from, over_step, exp_step, log_step}

module _ (A : Algebra) where
  open A use {carrier, int, plus as ◌⊕◌, times as ◌⊗◌, over as ◌⊘◌}

  infixl 20 ◌⊕◌
  infixl 30 ◌⊗◌ ◌⊘◌
  pub sum_more : (f : ℕ → carrier) (n : ℕ) → sum A f (suc n) ≡ sum A f n ⊕ f n
  unfolding sum
  sum_more f n = refl

  pub sum_none : (f : ℕ → carrier) → sum A f 0 ≡ int (pos 0)
  unfolding sum
  sum_none f = refl

  pub sum_same : (f g : ℕ → carrier) (n : ℕ) → ((j : ℕ) → j < n → f j ≡ g j) → sum A f n ≡ sum A g n
  unfolding sum
  sum_same f g zero h = refl
  sum_same f g (suc n) h = same_op ◌⊕◌ (sum_same f g n (λ j l. h j (omega arith))) (h n (omega arith))

  -- a recurrence that looks only below k solves its equation
  pub recurrence_solves : (step : Series A → Series A) → LooksBelow step → (k : ℕ) → recurrence A step k ≡ step (recurrence A step) k
  unfolding recurrence below
  recurrence_solves step looks = recursion_solves step (below A step) (λ n k. refl) looks

  pub over_looks_below : (u w : Series A) → LooksBelow (over_step A u w)
  unfolding over_step
  over_looks_below u w =
      record {
        same = λ f g k h.
            ap (over_from A (w 0) (u k)) (sum_same (λ j. f j ⊗ w (k - j)) (λ j. g j ⊗ w (k - j)) k (λ j l. ap (λ x. x ⊗ w (k - j)) (h j l)));
      }

  pub exp_looks_below : (u : Series A) → LooksBelow (exp_step A u)
  unfolding exp_step
  exp_looks_below u = record { same = go }
    where
      go : (f g : Series A) (k : ℕ) → ((j : ℕ) → j < k → f j ≡ g j) → exp_step A u f k ≡ exp_step A u g k
      go f g zero h = refl
      go f g (suc k) h =
          ap (λ x. x ⊘ int (pos (suc k)))
          (sum_same (λ i. f (k - i) ⊗ (int (pos (suc i)) ⊗ u (suc i))) (λ i. g (k - i) ⊗ (int (pos (suc i)) ⊗ u (suc i))) (suc k)
          (λ i l. ap (λ x. x ⊗ (int (pos (suc i)) ⊗ u (suc i))) (h (k - i) (omega arith))))

  pub log_looks_below : (u : Series A) → LooksBelow (log_step A u)
  unfolding log_step
  log_looks_below u = record { same = go }
    where
      go : (f g : Series A) (k : ℕ) → ((j : ℕ) → j < k → f j ≡ g j) → log_step A u f k ≡ log_step A u g k
      go f g zero h = refl
      go f g (suc k) h =
          ap (λ x. minus A (int (pos (suc k)) ⊗ u (suc k)) x ⊘ u 0 ⊘ int (pos (suc k)))
          (sum_same (λ i. u (k - i) ⊗ (int (pos (suc i)) ⊗ f (suc i))) (λ i. u (k - i) ⊗ (int (pos (suc i)) ⊗ g (suc i))) k
          (λ i l. ap (λ x. u (k - i) ⊗ (int (pos (suc i)) ⊗ x)) (h (suc i) (omega arith))))
