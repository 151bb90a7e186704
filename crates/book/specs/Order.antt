-- The recurrences as the Rust works them, and the laws of arithmetic that make them the book's.
-- Assumes nothing.
use Rattle.std.specs.Prelude.{List, ℕ, zero, suc, ◌-◌, ◌<◌, length, get_or}
use Rattle.taylor.specs.Work.{at}
use Rattle.book.specs.Formula.{Formula, #, whole, ◌⊕◌, ◌⊖◌, ◌⊗◌, ◌⊘◌, ◌⊟◌, Exp, Log, sum, less}
use Rattle.book.specs.Book.{Coefficients}

-- (0..=k).fold(zero, |sum, j| sum + us[j] * ws[k - j]): the sum begins with the literal z, one node for every k
abbrev pub product_ordered : (u w : Coefficients) → ℕ → ℕ → Formula
product_ordered u w z k = sum (# z) 0 (suc k) (λ j. u j ⊗ w (k - j))

-- *coeff *= c: the constant stands last
abbrev pub scaled_ordered : (c : Formula) (u : Coefficients) → ℕ → Formula
scaled_ordered c u k = u k ⊗ c

-- *coeff /= c: divided, where the book multiplies by 1/c
abbrev pub divided_ordered : (c : Formula) (u : Coefficients) → ℕ → Formula
divided_ordered c u k = u k ⊘ c

-- scale * (0..k).fold(us[k], |sum, j| sum - result[j] * ws[k - j]): 1/w_0 is one node for every k, and the terms are taken away from u_k one by one
abbrev pub quotient_ordered : (u w v : Coefficients) → ℕ → ℕ → Formula
quotient_ordered u w v scale k = # scale ⊗ less (u k) 0 k (λ j. v j ⊗ w (k - j))

-- of a constant: c * scale, with the factors the other way round; scale * (0..k).fold(zero, ..), from the literal z
abbrev pub constant_quotient_ordered : (c : ℕ) (w v : Coefficients) → ℕ → ℕ → ℕ → Formula
constant_quotient_ordered c w v z scale zero = # c ⊗ # scale
constant_quotient_ordered c w v z scale (suc k) = quotient_ordered (λ j. # z) w v scale (suc k)

-- (1..=k).fold(zero, |sum, j| sum + res[k - j] * coeffs[j] * T::from(j)) / T::from(k): the factor j stands last in its term
abbrev pub exp_ordered : (u v : Coefficients) → ℕ → ℕ → Formula
exp_ordered u v z zero = Exp (u 0)
exp_ordered u v z (suc k) = sum (# z) 1 (suc k) (λ j. v (suc k - j) ⊗ u j ⊗ whole j) ⊘ whole (suc k)

-- let sum = (1..k).fold(zero, |sum, j| sum + coeffs[k - j] * res[j] * T::from(j)); (coeffs[k] * T::from(k) - sum) / coeffs[0] / T::from(k):
-- the sum is worked first, factors j and k stand last, and the difference is divided by u_0 where the book multiplies by 1/u_0
abbrev pub log_ordered : (u v : Coefficients) → ℕ → ℕ → Formula
log_ordered u v z zero = Log (u 0)
log_ordered u v z (suc k) = (u (suc k) ⊗ whole (suc k) ⊟ sum (# z) 1 k (λ j. u (suc k - j) ⊗ v j ⊗ whole j)) ⊘ u 0 ⊘ whole (suc k)

-- two formulas that are equal by these laws of arithmetic and no others, where the formulas `shared` were worked once, to these nodes
module _ (shared : List Formula) (nodes : List ℕ) where
  infix 10 ◌≈◌
  pub data ◌≈◌ : Formula → Formula → Type 0 where
    itself : {f : Formula} → f ≈ f
    both : {f g h : Formula} → f ≈ g → g ≈ h → f ≈ h
    sums : {f g f' g' : Formula} → f ≈ f' → g ≈ g' → f ⊕ g ≈ f' ⊕ g'
    differences : {f g f' g' : Formula} → f ≈ f' → g ≈ g' → f ⊖ g ≈ f' ⊖ g'
    products : {f g f' g' : Formula} → f ≈ f' → g ≈ g' → f ⊗ g ≈ f' ⊗ g'
    quotients : {f g f' g' : Formula} → f ≈ f' → g ≈ g' → f ⊘ g ≈ f' ⊘ g'
    -- what was worked once is the node it gave
    once : (i : ℕ) → i < length shared → get_or shared i (whole 0) ≈ # (at nodes i)
    -- f × g = g × f, f × (g × h) = (f × g) × h
    product_comm : {f g : Formula} → f ⊗ g ≈ g ⊗ f
    product_assoc : {f g h : Formula} → f ⊗ (g ⊗ h) ≈ f ⊗ g ⊗ h
    -- f - 0 = f, f - (g + h) = (f - g) - h
    less_zero : {f : Formula} → f ⊖ whole 0 ≈ f
    less_sum : {f g h : Formula} → f ⊖ (g ⊕ h) ≈ f ⊖ g ⊖ h
    -- (1/g) × f = f/g
    as_quotient : {f g : Formula} → whole 1 ⊘ g ⊗ f ≈ f ⊘ g
    -- a difference is the same whichever part is worked first
    sum_first : {f g : Formula} → f ⊖ g ≈ f ⊟ g
