-- Griewank and Walther's recurrences for Taylor coefficients (Evaluating Derivatives, second edition, tables 13.1 and 13.2) as equations, with no division by k: ũ_j = j × u_j, and j = i + 1 in the sums that begin at 1.
-- Assumes nothing.
use Rattle.std.specs.Prelude.{◌≡◌, ℕ, suc, ◌-◌, pos}
use Rattle.meaning.specs.Model.{Algebra}
use Rattle.taylor_meaning.specs.Series.{minus, sum, Series}

module _ (A : Algebra) where
  open A use {carrier, int, times as ◌⊗◌, over as ◌⊘◌, exp, log}

  infixl 30 ◌⊗◌ ◌⊘◌
  -- j × u_j
  abbrev pub tilde : Series A → Series A
  tilde u j = int (pos j) ⊗ u j

  -- v = u × w: v_k = Σ_(j=0..k) u_j × w_(k-j)
  pub record ProductBook (u w v : Series A) : Type 0 where
    pub each : (k : ℕ) → v k ≡ sum A (λ j. u j ⊗ w (k - j)) (suc k)

  -- v = u / w: v_k = (1/w_0) × (u_k - Σ_(j=0..k-1) v_j × w_(k-j))
  pub record QuotientBook (u w v : Series A) : Type 0 where
    pub each : (k : ℕ) → v k ≡ (int (pos 1) ⊘ w 0) ⊗ minus A (u k) (sum A (λ j. v j ⊗ w (k - j)) k)

  -- division by y is exact: y × (x / y) = x
  abbrev pub Divides : carrier → Type 0
  Divides y = (x : carrier) → y ⊗ (x ⊘ y) ≡ x

  -- v = exp u: ṽ_k = Σ_(j=1..k) v_(k-j) × ũ_j, where division by k is exact
  pub record ExpBook (u v : Series A) : Type 0 where
    pub first : v 0 ≡ exp (u 0)
    pub each : (k : ℕ) → Divides (int (pos (suc k))) → tilde v (suc k) ≡ sum A (λ i. v (k - i) ⊗ tilde u (suc i)) (suc k)

  -- v = ln u: u_0 × ṽ_k = ũ_k - Σ_(j=1..k-1) u_(k-j) × ṽ_j, where division by u_0 and by k is exact
  pub record LogBook (u v : Series A) : Type 0 where
    pub first : v 0 ≡ log (u 0)
    pub each : (k : ℕ) → Divides (u 0) → Divides (int (pos (suc k))) → u 0 ⊗ tilde v (suc k) ≡ minus A (tilde u (suc k)) (sum A (λ i. u (k - i) ⊗ tilde v (suc i)) k)
