-- The book's theorems at this model, of accepted work: their hypotheses on k are met by each coefficient that an expansion can have, and those on u_0 and w_0 where these have an inverse.
-- Assumes nothing.
use mathlib.Core.Path.{◌≡◌, sym, ap, ◌∙◌}
use Prim.Native.Nat.{ℕ, suc, ◌-◌, ◌<◌}
use native.Mathlib.Omega.{arith}
use lib.IntN.{pos}
use Rattle.residue.specs.Residue.{fixed_modulus}
use Rattle.pool.specs.Pool.{Pool, done}
use Rattle.constructor_laws.specs.Keeps.{Keeps}
use Rattle.taylor.specs.Expansion.{Expansion, quotient, exponential, logarithm}
use Rattle.meaning.specs.Model.{Algebra}
use Rattle.meaning.specs.Value.{Values}
use Rattle.taylor_meaning.specs.Series.{minus, sum, Series, times_series, recurrence, over_step, exp_step, log_step}
use Rattle.taylor_meaning.specs.Book.{tilde}
use Rattle.taylor_meaning.specs.Coefficients.{Long, InPool, coefficient}
use Rattle.taylor_meaning.proofs.Sums.{sum_same}
use Rattle.taylor_meaning.proofs.Book.{exp_book_lem, log_book_lem, quotient_times_divisor}
use Rattle.taylor_meaning.proofs.Theorems.{exponential_means, logarithm_means, quotient_means}
use Rattle.dual_residues.specs.DualResidues.{dual_residues, HasInverse}
use Rattle.dual_residues.proofs.Inverses.{fixed_modulus_fits}
use Rattle.dual_residues.proofs.Model.{dual_residues_divide, not_trivial}

abbrev A : Algebra
A = dual_residues fixed_modulus fixed_modulus_fits

module _ (env : Values A) {P : Pool} (keeps : Keeps P) (n : ℕ) (s : Expansion) (hs : InPool P s) (ls : Long n s) where
  abbrev u : Series A
  u = coefficient A env P s

  -- k × v_k = Σ_(j=1..k) v_(k-j) × (j × u_j)
  pub exp_in_dual_residues :
      {e : Expansion} {Q : Pool} → exponential s P ≡ done e Q → (k : ℕ) → suc k < n → k < 24
      → tilde A (coefficient A env Q e) (suc k) ≡ sum A (λ i. A.times (coefficient A env Q e (k - i)) (tilde A (coefficient A env P s) (suc i))) (suc k)
  exp_in_dual_residues {e} {Q} eq k l h =
      let means = exponential_means not_trivial.laws env keeps n s hs ls eq in
      let v : Series A = recurrence A (exp_step A u) in
      let same : (j : ℕ) → j < n → coefficient A env Q e j ≡ v j = λ j m. means.coefficients j (means.long j m) in
      ap (λ x. A.times (A.int (pos (suc k))) x) (same (suc k) l)
      ∙ (exp_book_lem A u).each k (not_trivial.divides k h)
      ∙ sum_same A _ _ (suc k) (λ i m. ap (λ x. A.times x (tilde A u (suc i))) (sym (same (k - i) (omega arith))))

  -- u_0 × (k × v_k) = k × u_k - Σ_(j=1..k-1) u_(k-j) × (j × v_j)
  pub log_in_dual_residues :
      {e : Expansion} {Q : Pool} → logarithm s P ≡ done e Q → HasInverse fixed_modulus (coefficient A env P s 0).0.0 → (k : ℕ) → suc k < n → k < 24
      → A.times (coefficient A env P s 0) (tilde A (coefficient A env Q e) (suc k)) ≡ minus A (tilde A (coefficient A env P s) (suc k)) (sum A (λ i. A.times (coefficient A env P s (k - i)) (tilde A (coefficient A env Q e) (suc i))) k)
  log_in_dual_residues {e} {Q} eq inverse k l h =
      let means = logarithm_means not_trivial.laws env keeps n s hs ls eq in
      let v : Series A = recurrence A (log_step A u) in
      let same : (j : ℕ) → j < n → coefficient A env Q e j ≡ v j = λ j m. means.coefficients j (means.long j m) in
      ap (λ x. A.times (u 0) (A.times (A.int (pos (suc k))) x)) (same (suc k) l)
      ∙ (log_book_lem A u).each k (dual_residues_divide fixed_modulus fixed_modulus_fits (u 0).0 (u 0).1 inverse) (not_trivial.divides k h)
      ∙ ap (λ x. minus A (tilde A u (suc k)) x) (sum_same A _ _ k (λ i m. ap (λ x. A.times (u (k - i)) (A.times (A.int (pos (suc i))) x)) (sym (same (suc i) (omega arith)))))

  -- (u / w) × w = u
  pub quotient_in_dual_residues :
      (t : Expansion) → InPool P t → Long n t → {e : Expansion} {Q : Pool} → quotient s t P ≡ done e Q → HasInverse fixed_modulus (coefficient A env P t 0).0.0
      → (k : ℕ) → k < n → times_series A (coefficient A env Q e) (coefficient A env P t) k ≡ coefficient A env P s k
  unfolding times_series
  quotient_in_dual_residues t ht lt {e} {Q} eq inverse k l =
      let w : Series A = coefficient A env P t in
      let v : Series A = recurrence A (over_step A u w) in
      let means = quotient_means not_trivial.laws env keeps n s hs ls t ht lt not_trivial.ring not_trivial.fractions eq in
      sum_same A (λ j. A.times (coefficient A env Q e j) (w (k - j))) (λ j. A.times (v j) (w (k - j))) (suc k)
      (λ j m. ap (λ x. A.times x (w (k - j))) (means.coefficients j (means.long j (omega arith))))
      ∙ quotient_times_divisor A not_trivial.laws not_trivial.ring u w (dual_residues_divide fixed_modulus fixed_modulus_fits (w 0).0 (w 0).1 inverse) k
