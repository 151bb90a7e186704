-- The series of the definitions satisfy the book's equations: products in every algebra, quotients in every algebra, exponentials where division by k is exact, logarithms where division by u_0 is too. And a quotient times its divisor is the dividend.
-- Assumes nothing.
use mathlib.Core.Path.{◌≡◌, refl, sym, ap, ◌∙◌}
use Prim.Native.Nat.{ℕ, suc, ◌-◌}
use native.Mathlib.Omega.{arith}
use lib.IntN.{pos, negsuc}
use Rattle.meaning.specs.Model.{Algebra, Model, Distributive}
use Rattle.meaning.proofs.Laws.{sum_comm, sum_assoc, sum_zero, product_comm, product_assoc, one_product}
use Rattle.meaning.proofs.Limits.{negative}
use Rattle.taylor_meaning.specs.Series.{minus, sum, Series, times_series, recurrence, over_step, exp_step, log_step}
use Rattle.taylor_meaning.specs.Book.{ProductBook, QuotientBook, ExpBook, LogBook, Divides}
use Rattle.taylor_meaning.proofs.Sums.{sum_more, recurrence_solves, over_looks_below, exp_looks_below, log_looks_below}

module _ (A : Algebra) where
  open A use {carrier, int, plus as ◌⊕◌, times as ◌⊗◌, over as ◌⊘◌}

  infixl 20 ◌⊕◌
  infixl 30 ◌⊗◌ ◌⊘◌
  pub product_book_lem : (u w : Series A) → ProductBook A u w (times_series A u w)
  unfolding times_series
  product_book_lem u w = record { each = λ k. refl }

  pub quotient_book_lem : (u w : Series A) → QuotientBook A u w (recurrence A (over_step A u w))
  unfolding over_step
  quotient_book_lem u w = record { each = recurrence_solves A (over_step A u w) (over_looks_below A u w) }

  pub exp_book_lem : (u : Series A) → ExpBook A u (recurrence A (exp_step A u))
  unfolding exp_step
  exp_book_lem u =
      record {
        first = recurrence_solves A (exp_step A u) (exp_looks_below A u) 0;
        each = λ k exact. ap (λ x. int (pos (suc k)) ⊗ x) (recurrence_solves A (exp_step A u) (exp_looks_below A u) (suc k)) ∙ exact _;
      }

  pub log_book_lem : (u : Series A) → LogBook A u (recurrence A (log_step A u))
  unfolding log_step
  log_book_lem u =
      record {
        first = recurrence_solves A (log_step A u) (log_looks_below A u) 0;
        each = λ k exact₀ exact.
            ap (λ x. u 0 ⊗ (int (pos (suc k)) ⊗ x)) (recurrence_solves A (log_step A u) (log_looks_below A u) (suc k))
            ∙ ap (λ x. u 0 ⊗ x) (exact _)
            ∙ exact₀ _;
      }

  -- in a ring, where division by w_0 is exact, (u / w) × w = u
  pub quotient_times_divisor : Model A → Distributive A → (u w : Series A) → Divides A (w 0) → (k : ℕ) → times_series A (recurrence A (over_step A u w)) w k ≡ u k
  unfolding times_series over_step
  quotient_times_divisor M D u w exact k =
      sum_more A (λ j. v j ⊗ w (k - j)) k
      ∙ ap (λ i. less ⊕ v k ⊗ w i) (none k)
      ∙ ap (λ x. less ⊕ x) (last k)
      ∙ sum_comm M less (minus A (u k) less)
      ∙ sum_assoc M (u k) (int (negsuc 0) ⊗ less) less
      ∙ ap (λ x. u k ⊕ x) (negative M D less)
      ∙ sum_zero M (u k)
    where
      v : Series A
      v = recurrence A (over_step A u w)

      less : carrier
      less = sum A (λ j. v j ⊗ w (k - j)) k

      none : (k : ℕ) → k - k ≡ 0
      none k = omega arith

      last : (k : ℕ) → v k ⊗ w 0 ≡ minus A (u k) (sum A (λ j. v j ⊗ w (k - j)) k)
      last k =
          ap (λ x. x ⊗ w 0) (recurrence_solves A (over_step A u w) (over_looks_below A u w) k)
          ∙ product_comm M _ (w 0)
          ∙ sym (product_assoc M (w 0) (int (pos 1) ⊘ w 0) _)
          ∙ ap (λ x. x ⊗ minus A (u k) (sum A (λ j. v j ⊗ w (k - j)) k)) (exact (int (pos 1)))
          ∙ one_product M _
