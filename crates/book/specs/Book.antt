-- Griewank and Walther's recurrences for Taylor coefficients (Evaluating Derivatives, second edition, tables 13.1 and 13.2): coefficient k of v as a formula of the coefficients of u and w and of earlier ones of v.
-- Assumes nothing.
use Rattle.std.specs.Prelude.{List, ℕ, zero, suc, ◌-◌}
use Rattle.taylor.specs.Work.{at}
use Rattle.book.specs.Formula.{Formula, #, whole, ◌⊖◌, ◌⊗◌, ◌⊘◌, Exp, Log, sum}

-- the coefficients of an expansion, as formulas
abbrev pub Coefficients : Type 0
Coefficients = ℕ → Formula

-- of a list
abbrev pub list : List ℕ → Coefficients
list us j = # (at us j)

-- of a constant: itself, then 0
abbrev pub constant : ℕ → Coefficients
constant c zero = # c
constant c (suc j) = whole 0

-- Σ of n terms, from j = first on; of none it is 0
abbrev pub Σ : ℕ → ℕ → (ℕ → Formula) → Formula
Σ = sum (whole 0)

-- ũ_j = j × u_j
abbrev pub tilde : Coefficients → Coefficients
tilde u j = whole j ⊗ u j

-- v = u × w: v_k = Σ_(j=0..k) u_j × w_(k-j)
abbrev pub product_book : (u w : Coefficients) → ℕ → Formula
product_book u w k = Σ 0 (suc k) (λ j. u j ⊗ w (k - j))

-- v = c × u: v_k = c × u_k
abbrev pub scaled_book : (c : Formula) (u : Coefficients) → ℕ → Formula
scaled_book c u k = c ⊗ u k

-- v = u / w: v_k = (1/w_0) × (u_k - Σ_(j=0..k-1) v_j × w_(k-j))
abbrev pub quotient_book : (u w v : Coefficients) → ℕ → Formula
quotient_book u w v k = whole 1 ⊘ w 0 ⊗ (u k ⊖ Σ 0 k (λ j. v j ⊗ w (k - j)))

-- v = exp u: ṽ_k = Σ_(j=1..k) v_(k-j) × ũ_j, where ṽ_k is k × v_k, so v_k is the sum divided by k
abbrev pub exp_book : (u v : Coefficients) → ℕ → Formula
exp_book u v zero = Exp (u 0)
exp_book u v (suc k) = Σ 1 (suc k) (λ j. v (suc k - j) ⊗ tilde u j) ⊘ whole (suc k)

-- v = ln u: ṽ_k = (1/u_0) × (ũ_k - Σ_(j=1..k-1) u_(k-j) × ṽ_j), and v_k is that divided by k
abbrev pub log_book : (u v : Coefficients) → ℕ → Formula
log_book u v zero = Log (u 0)
log_book u v (suc k) = whole 1 ⊘ u 0 ⊗ (tilde u (suc k) ⊖ Σ 1 k (λ j. u (suc k - j) ⊗ tilde v j)) ⊘ whole (suc k)
