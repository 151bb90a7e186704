-- What follows from the laws of a model: each law from the other side, sums and products in any order, and powers.
-- Assumes nothing.
use mathlib.Core.Path.{◌≡◌, refl, sym, ap, ◌∙◌}
use Prim.Native.Nat.{ℕ, zero, suc, ◌+◌}
use native.Mathlib.Nat.{add-zero, add-suc}
use lib.IntN.{ℤ, pos, ◌+ℤ◌, ◌*ℤ◌}
use Rattle.meaning.specs.Model.{Algebra, Model, power}

module _ {A : Algebra} (M : Model A) where
  open A use {carrier, int, plus as ◌⊕◌, times as ◌⊗◌, over as ◌⊘◌, exp, log}

  infixl 20 ◌⊕◌
  infixl 30 ◌⊗◌ ◌⊘◌
  pub sum_comm : (x y : carrier) → x ⊕ y ≡ y ⊕ x
  sum_comm = M.plus_comm

  pub sum_assoc : (x y z : carrier) → (x ⊕ y) ⊕ z ≡ x ⊕ (y ⊕ z)
  sum_assoc = M.plus_assoc

  pub sum_swap : (x y z : carrier) → x ⊕ (y ⊕ z) ≡ y ⊕ (x ⊕ z)
  sum_swap x y z = sym (sum_assoc x y z) ∙ ap (λ w. w ⊕ z) (sum_comm x y) ∙ sum_assoc y x z

  pub sum_zero : (x : carrier) → x ⊕ int (pos 0) ≡ x
  sum_zero = M.plus_zero

  pub zero_sum : (x : carrier) → int (pos 0) ⊕ x ≡ x
  zero_sum x = sum_comm (int (pos 0)) x ∙ sum_zero x

  pub product_comm : (x y : carrier) → x ⊗ y ≡ y ⊗ x
  product_comm = M.times_comm

  pub product_assoc : (x y z : carrier) → (x ⊗ y) ⊗ z ≡ x ⊗ (y ⊗ z)
  product_assoc = M.times_assoc

  pub product_swap : (x y z : carrier) → x ⊗ (y ⊗ z) ≡ y ⊗ (x ⊗ z)
  product_swap x y z = sym (product_assoc x y z) ∙ ap (λ w. w ⊗ z) (product_comm x y) ∙ product_assoc y x z

  pub product_one : (x : carrier) → x ⊗ int (pos 1) ≡ x
  product_one = M.times_one

  pub one_product : (x : carrier) → int (pos 1) ⊗ x ≡ x
  one_product x = product_comm (int (pos 1)) x ∙ product_one x

  pub product_zero : (x : carrier) → x ⊗ int (pos 0) ≡ int (pos 0)
  product_zero = M.times_zero

  pub zero_product : (x : carrier) → int (pos 0) ⊗ x ≡ int (pos 0)
  zero_product x = product_comm (int (pos 0)) x ∙ product_zero x

  pub int_sum : (a b : ℤ) → int (a +ℤ b) ≡ int a ⊕ int b
  int_sum = M.int_plus

  pub int_product : (a b : ℤ) → int (a *ℤ b) ≡ int a ⊗ int b
  int_product = M.int_times

  pub exp_sum : (x y : carrier) → exp (x ⊕ y) ≡ exp x ⊗ exp y
  exp_sum = M.exp_plus

  -- sums and products in any order
  pub ruleset sums = (sum_comm, sum_assoc, sum_swap)

  pub ruleset products = (product_comm, product_assoc, product_swap)

  -- ---- powers

  pub power_none : (x : carrier) → power A x 0 ≡ int (pos 1)
  unfolding power
  power_none x = refl

  pub power_more : (x : carrier) (n : ℕ) → power A x (suc n) ≡ power A x n ⊗ x
  unfolding power
  power_more x n = refl

  pub power_one : (x : carrier) → power A x 1 ≡ x
  unfolding power
  power_one x = one_product x

  pub power_two : (x : carrier) → power A x 2 ≡ x ⊗ x
  unfolding power
  power_two x = ap (λ w. w ⊗ x) (one_product x)

  pub power_sum : (x : carrier) (m n : ℕ) → power A x (m + n) ≡ power A x m ⊗ power A x n
  power_sum x m zero = rw (add-zero m, power_none x) (sym (product_one (power A x m)))
  power_sum x m (suc n) = rw (add-suc m n, power_more x (m + n), power_sum x m n, power_more x n) (product_assoc (power A x m) (power A x n) x)

  pub power_next : (x : carrier) (n : ℕ) → power A x (n + 1) ≡ power A x n ⊗ x
  power_next x n = power_sum x n 1 ∙ ap (λ w. power A x n ⊗ w) (power_one x)

  pub power_of_one : (n : ℕ) → power A (int (pos 1)) n ≡ int (pos 1)
  power_of_one zero = power_none (int (pos 1))
  power_of_one (suc n) = power_more (int (pos 1)) n ∙ product_one (power A (int (pos 1)) n) ∙ power_of_one n

  pub power_of_zero : (n : ℕ) → power A (int (pos 0)) (suc n) ≡ int (pos 0)
  power_of_zero n = power_more (int (pos 0)) n ∙ product_zero (power A (int (pos 0)) n)
