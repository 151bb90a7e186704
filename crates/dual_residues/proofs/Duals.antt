-- Dual numbers over a ring with fractions where (1/y²) × y = 1/y: they have fractions, and division by a + b ε is exact where division by a is.
-- Assumes nothing.
use mathlib.Core.Path.{◌≡◌, sym, ap, ap₂, ◌∙◌}
use lib.IntN.{pos, negsuc}
use Rattle.meaning.specs.Model.{Algebra, Model, Distributive, power}
use Rattle.meaning.specs.Duals.{duals}
use Rattle.meaning.proofs.Laws.{product_zero, one_product, zero_sum, product_swap}
use Rattle.meaning.proofs.Limits.{negative}
use Rattle.taylor_meaning.specs.Series.{Fractions}
use Rattle.taylor_meaning.specs.Book.{Divides}

-- (1/y²) × y = 1/y
abbrev pub Squares : Algebra → Type 0
Squares A = (y : A.carrier) → A.times (A.over (A.int (pos 1)) (power A y 2)) y ≡ A.over (A.int (pos 1)) y

module _ {A : Algebra} (M : Model A) (D : Distributive A) (F : Fractions A) (squares : Squares A) where
  open A use {carrier, int, plus as ◌⊕◌, times as ◌⊗◌, over as ◌⊘◌}

  infixl 20 ◌⊕◌
  infixl 30 ◌⊗◌ ◌⊘◌
  -- -1, and 1/y²
  abbrev n : carrier
  n = int (negsuc 0)

  abbrev s : carrier → carrier
  s y = int (pos 1) ⊘ power A y 2

  -- the second part of 1/y
  inverse_part : (x y dy : carrier) → x ⊗ ((y ⊗ int (pos 0) ⊕ n ⊗ (int (pos 1) ⊗ dy)) ⊘ power A y 2) ≡ s y ⊗ (n ⊗ (x ⊗ dy))
  inverse_part x y dy =
      ap (λ z. x ⊗ (z ⊘ power A y 2)) (ap₂ ◌⊕◌ (product_zero M y) (ap (λ z. n ⊗ z) (one_product M dy)) ∙ zero_sum M (n ⊗ dy))
      ∙ ap (λ z. x ⊗ z) (F.as_product (n ⊗ dy) (power A y 2))
      ∙ product_swap M x (s y) (n ⊗ dy)
      ∙ ap (λ z. s y ⊗ z) (product_swap M x n dy)

  fraction_part :
      (x dx y dy : carrier)
      → (y ⊗ dx ⊕ n ⊗ (x ⊗ dy)) ⊘ power A y 2 ≡ (int (pos 1) ⊘ y) ⊗ dx ⊕ x ⊗ ((y ⊗ int (pos 0) ⊕ n ⊗ (int (pos 1) ⊗ dy)) ⊘ power A y 2)
  fraction_part x dx y dy =
      F.as_product (y ⊗ dx ⊕ n ⊗ (x ⊗ dy)) (power A y 2)
      ∙ D.distributes (s y) (y ⊗ dx) (n ⊗ (x ⊗ dy))
      ∙ ap₂ ◌⊕◌ (sym (M.times_assoc (s y) y dx) ∙ ap (λ z. z ⊗ dx) (squares y)) (sym (inverse_part x y dy))

  pub duals_fractions : Fractions (duals A)
  duals_fractions =
      record { as_product = λ x y. ap₂ (λ a b. (a, b)) (F.as_product x.0 y.0) (fraction_part x.0 x.1 y.0 y.1) }

  -- ---- division

  module _ (y : carrier) (exact : Divides A y) where
    undone : (z : carrier) → y ⊗ ((y ⊗ z) ⊘ power A y 2) ≡ z
    undone z =
        ap (λ a. y ⊗ a) (F.as_product (y ⊗ z) (power A y 2))
        ∙ product_swap M y (s y) (y ⊗ z)
        ∙ sym (M.times_assoc (s y) y (y ⊗ z))
        ∙ ap (λ a. a ⊗ (y ⊗ z)) (squares y)
        ∙ product_swap M (int (pos 1) ⊘ y) y z
        ∙ ap (λ a. y ⊗ a) (sym (F.as_product z y))
        ∙ exact z

    factored : (x dx dy : carrier) → y ⊗ dx ⊕ n ⊗ (x ⊗ dy) ≡ y ⊗ (dx ⊕ n ⊗ ((x ⊘ y) ⊗ dy))
    factored x dx dy =
        ap (λ a. y ⊗ dx ⊕ n ⊗ (a ⊗ dy)) (sym (exact x))
        ∙ ap (λ a. y ⊗ dx ⊕ a) (ap (λ a. n ⊗ a) (M.times_assoc y (x ⊘ y) dy) ∙ product_swap M n y ((x ⊘ y) ⊗ dy))
        ∙ sym (D.distributes y dx (n ⊗ ((x ⊘ y) ⊗ dy)))

    second_part : (x dx dy : carrier) → y ⊗ ((y ⊗ dx ⊕ n ⊗ (x ⊗ dy)) ⊘ power A y 2) ⊕ (x ⊘ y) ⊗ dy ≡ dx
    second_part x dx dy =
        ap (λ a. y ⊗ (a ⊘ power A y 2) ⊕ (x ⊘ y) ⊗ dy) (factored x dx dy)
        ∙ ap (λ a. a ⊕ (x ⊘ y) ⊗ dy) (undone (dx ⊕ n ⊗ ((x ⊘ y) ⊗ dy)))
        ∙ M.plus_assoc dx (n ⊗ ((x ⊘ y) ⊗ dy)) ((x ⊘ y) ⊗ dy)
        ∙ ap (λ a. dx ⊕ a) (negative M D ((x ⊘ y) ⊗ dy))
        ∙ M.plus_zero dx

    pub duals_divide : (dy : carrier) → Divides (duals A) (y, dy)
    duals_divide dy x = ap₂ (λ a b. (a, b)) (exact x.0) (second_part x.0 x.1 dy)
