-- The recurrences in the Rust's order are the book's by the laws of arithmetic.
-- Assumes nothing.
use mathlib.Core.List.{List}
use Prim.Native.Nat.{ℕ, zero, suc, ◌+◌, ◌-◌}
use Rattle.book.specs.Formula.{Formula, #, whole, ◌⊖◌, ◌⊗◌, ◌⊘◌, chain, sum, less}
use Rattle.book.specs.Book.{Coefficients, constant, Σ, product_book, scaled_book, quotient_book, exp_book, log_book}
use Rattle.book.specs.Order.{product_ordered, scaled_ordered, divided_ordered, quotient_ordered, constant_quotient_ordered, exp_ordered, log_ordered}
use Rattle.book.specs.Order.{◌≈◌, itself, both, sums, differences, products, quotients, product_comm, product_assoc, less_zero, less_sum, as_quotient, sum_first}

module _ (shared : List Formula) (nodes : List ℕ) where
  abbrev ◌~◌ : Formula → Formula → Type 0
  ◌~◌ = ◌≈◌ shared nodes

  infix 10 ◌~◌
  same_sums : {start start' : Formula} (first n : ℕ) (t t' : ℕ → Formula) → start ~ start' → ((j : ℕ) → t j ~ t' j) → sum start first n t ~ sum start' first n t'
  unfolding chain
  same_sums first zero t t' s h = s
  same_sums first (suc n) t t' s h = sums (same_sums first n t t' s h) (h (first + n))

  -- a sum taken away is its terms taken away one by one
  one_by_one : {u u' : Formula} (first n : ℕ) (t : ℕ → Formula) → u ~ u' → u ⊖ Σ first n t ~ less u' first n t
  unfolding chain
  one_by_one first zero t s = both less_zero s
  one_by_one first (suc n) t s = both less_sum (differences (one_by_one first n t s) itself)

  -- the factor j moves to the end
  factor_last : {f g h : Formula} → f ⊗ (g ⊗ h) ~ f ⊗ h ⊗ g
  factor_last = both (products itself product_comm) product_assoc

  pub scaled_same : (c : Formula) (u : Coefficients) (k : ℕ) → scaled_book c u k ~ scaled_ordered c u k
  scaled_same c u k = product_comm

  pub divided_same : (c : Formula) (u : Coefficients) (k : ℕ) → scaled_book (whole 1 ⊘ c) u k ~ divided_ordered c u k
  divided_same c u k = as_quotient

  module _ {z : ℕ} (zero_is : whole 0 ~ # z) where
    pub product_same : (u w : Coefficients) (k : ℕ) → product_book u w k ~ product_ordered u w z k
    product_same u w k = same_sums 0 (suc k) (λ j. u j ⊗ w (k - j)) (λ j. u j ⊗ w (k - j)) zero_is (λ j. itself)

    pub exp_same : (u v : Coefficients) (k : ℕ) → exp_book u v k ~ exp_ordered u v z k
    exp_same u v zero = itself
    exp_same u v (suc k) = quotients (same_sums 1 (suc k) (λ j. v (suc k - j) ⊗ (whole j ⊗ u j)) (λ j. v (suc k - j) ⊗ u j ⊗ whole j) zero_is (λ j. factor_last)) itself

    pub log_same : (u v : Coefficients) (k : ℕ) → log_book u v k ~ log_ordered u v z k
    log_same u v zero = itself
    log_same u v (suc k) =
        quotients (both as_quotient (quotients (both (differences product_comm terms) sum_first) itself)) itself
      where
        terms : Σ 1 k (λ j. u (suc k - j) ⊗ (whole j ⊗ v j)) ~ sum (# z) 1 k (λ j. u (suc k - j) ⊗ v j ⊗ whole j)
        terms = same_sums 1 k (λ j. u (suc k - j) ⊗ (whole j ⊗ v j)) (λ j. u (suc k - j) ⊗ v j ⊗ whole j) zero_is (λ j. factor_last)

  module _ (w v : Coefficients) {scale : ℕ} (scale_is : whole 1 ⊘ w 0 ~ # scale) where
    pub quotient_same : (u : Coefficients) (k : ℕ) → quotient_book u w v k ~ quotient_ordered u w v scale k
    quotient_same u k = products scale_is (one_by_one 0 k (λ j. v j ⊗ w (k - j)) itself)

    pub constant_quotient_same : (c : ℕ) {z : ℕ} → whole 0 ~ # z → (k : ℕ) → quotient_book (constant c) w v k ~ constant_quotient_ordered c w v z scale k
    unfolding chain
    constant_quotient_same c zero_is zero = both (products scale_is less_zero) product_comm
    constant_quotient_same c zero_is (suc k) = products scale_is (one_by_one 0 (suc k) (λ j. v j ⊗ w (suc k - j)) zero_is)
