-- The laws of arithmetic by which the Rust's order is the book's are sound: related formulas have one value in every model that is a ring with fractions. Each law of the relation is one of the model's.
-- Assumes nothing.
use mathlib.Core.Path.{◌≡◌, refl, sym, ap, ◌∙◌}
use mathlib.Core.List.{List}
use Prim.Native.Nat.{ℕ}
use lib.IntN.{pos, negsuc}
use Rattle.book.specs.Formula.{Formula}
use Rattle.book.specs.Order.{◌≈◌, itself, both, sums, differences, products, quotients, once, product_comm, product_assoc, less_zero, less_sum, as_quotient, sum_first}
use Rattle.meaning.specs.Model.{Algebra, Model, Distributive}
use Rattle.meaning.proofs.Values.{same_op}
use Rattle.taylor_meaning.specs.Series.{Fractions, minus}
use Rattle.book_meaning.specs.Value.{formula_value, Shared}

module _ {A : Algebra} (M : Model A) (D : Distributive A) (fractions : Fractions A) where
  open A use {carrier, int, plus as ◌+◌, times as ◌*◌}

  infixl 20 ◌+◌
  infixl 30 ◌*◌
  minus_zero : (x : carrier) → minus A x (int (pos 0)) ≡ x
  minus_zero x = ap (λ y. x + y) (M.times_zero (int (negsuc 0))) ∙ M.plus_zero x

  minus_sum : (x y z : carrier) → minus A x (y + z) ≡ minus A (minus A x y) z
  minus_sum x y z = ap (λ w. x + w) (D.distributes (int (negsuc 0)) y z) ∙ sym (M.plus_assoc x (int (negsuc 0) * y) (int (negsuc 0) * z))

  module _ (of : ℕ → carrier) {shared : List Formula} {nodes : List ℕ} (have : Shared A of shared nodes) where
    pub related_formulas_have_one_value : {f g : Formula} → ◌≈◌ shared nodes f g → formula_value A of f ≡ formula_value A of g
    unfolding formula_value
    related_formulas_have_one_value itself = refl
    related_formulas_have_one_value (both p q) = related_formulas_have_one_value p ∙ related_formulas_have_one_value q
    related_formulas_have_one_value (sums p q) = same_op A.plus (related_formulas_have_one_value p) (related_formulas_have_one_value q)
    related_formulas_have_one_value (differences p q) = same_op (minus A) (related_formulas_have_one_value p) (related_formulas_have_one_value q)
    related_formulas_have_one_value (products p q) = same_op A.times (related_formulas_have_one_value p) (related_formulas_have_one_value q)
    related_formulas_have_one_value (quotients p q) = same_op A.over (related_formulas_have_one_value p) (related_formulas_have_one_value q)
    related_formulas_have_one_value (once i l) = have.same i l
    related_formulas_have_one_value (product_comm {f} {g}) = M.times_comm (formula_value A of f) (formula_value A of g)
    related_formulas_have_one_value (product_assoc {f} {g} {h}) = sym (M.times_assoc (formula_value A of f) (formula_value A of g) (formula_value A of h))
    related_formulas_have_one_value (less_zero {f}) = minus_zero (formula_value A of f)
    related_formulas_have_one_value (less_sum {f} {g} {h}) = minus_sum (formula_value A of f) (formula_value A of g) (formula_value A of h)
    related_formulas_have_one_value (as_quotient {f} {g}) = sym (fractions.as_product (formula_value A of f) (formula_value A of g))
    related_formulas_have_one_value sum_first = refl
