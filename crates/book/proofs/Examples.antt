-- The recurrences at k = 2, written out: the book's, and the Rust's order. Worked out by hand from the book's tables and the Rust's text.
-- Assumes nothing.
use mathlib.Core.Path.{◌≡◌, refl}
use Prim.Native.Nat.{ℕ}
use Rattle.book.specs.Formula.{#, whole, ◌⊕◌, ◌⊖◌, ◌⊗◌, ◌⊘◌, ◌⊟◌, chain}
use Rattle.book.specs.Book.{Coefficients, product_book, quotient_book, exp_book, log_book}
use Rattle.book.specs.Order.{product_ordered, quotient_ordered, exp_ordered, log_ordered}

module _ (u w v : Coefficients) (z scale : ℕ) where
  product_in_the_book : product_book u w 2 ≡ whole 0 ⊕ u 0 ⊗ w 2 ⊕ u 1 ⊗ w 1 ⊕ u 2 ⊗ w 0
  unfolding chain
  product_in_the_book = refl

  product_in_order : product_ordered u w z 2 ≡ # z ⊕ u 0 ⊗ w 2 ⊕ u 1 ⊗ w 1 ⊕ u 2 ⊗ w 0
  unfolding chain
  product_in_order = refl

  quotient_in_the_book : quotient_book u w v 2 ≡ whole 1 ⊘ w 0 ⊗ (u 2 ⊖ (whole 0 ⊕ v 0 ⊗ w 2 ⊕ v 1 ⊗ w 1))
  unfolding chain
  quotient_in_the_book = refl

  quotient_in_order : quotient_ordered u w v scale 2 ≡ # scale ⊗ (u 2 ⊖ v 0 ⊗ w 2 ⊖ v 1 ⊗ w 1)
  unfolding chain
  quotient_in_order = refl

  exp_in_the_book : exp_book u v 2 ≡ (whole 0 ⊕ v 1 ⊗ (whole 1 ⊗ u 1) ⊕ v 0 ⊗ (whole 2 ⊗ u 2)) ⊘ whole 2
  unfolding chain
  exp_in_the_book = refl

  exp_in_order : exp_ordered u v z 2 ≡ (# z ⊕ v 1 ⊗ u 1 ⊗ whole 1 ⊕ v 0 ⊗ u 2 ⊗ whole 2) ⊘ whole 2
  unfolding chain
  exp_in_order = refl

  log_in_the_book : log_book u v 2 ≡ whole 1 ⊘ u 0 ⊗ (whole 2 ⊗ u 2 ⊖ (whole 0 ⊕ u 1 ⊗ (whole 1 ⊗ v 1))) ⊘ whole 2
  unfolding chain
  log_in_the_book = refl

  log_in_order : log_ordered u v z 2 ≡ (u 2 ⊗ whole 2 ⊟ (# z ⊕ u 1 ⊗ v 1 ⊗ whole 1)) ⊘ u 0 ⊘ whole 2
  unfolding chain
  log_in_order = refl
