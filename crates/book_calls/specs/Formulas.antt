-- The book's formula for each coefficient of an answer, by what was given; and what it is for an answer to have its value.
-- Assumes nothing.
use Rattle.std.specs.Prelude.{◌≡◌, ℕ, ◌<◌, length}
use Rattle.pool.specs.Pool.{Pool, node_at}
use Rattle.taylor.specs.Work.{at}
use Rattle.taylor.specs.Expansion.{Expansion}
use Rattle.taylor.specs.declared.expansion.Expansion.TheVariants.{Constant, Polynomial}
use Rattle.taylor_rules.specs.Kept.{nodes_of}
use Rattle.book.specs.Formula.{Formula, #, whole, ◌⊗◌, ◌⊘◌, Exp, Log}
use Rattle.book.specs.Book.{list, constant, product_book, scaled_book, quotient_book, exp_book, log_book}
use Rattle.meaning.specs.Model.{Algebra}
use Rattle.meaning.specs.Value.{Values, value}
use Rattle.book_meaning.specs.Value.{formula_value}

-- v = u × w
abbrev pub product_formula : (u w : Expansion) → ℕ → Formula
product_formula (Constant b) (Constant c) k = # b ⊗ # c
product_formula (Constant c) (Polynomial ws) k = scaled_book (# c) (list ws) k
product_formula (Polynomial us) (Constant c) k = scaled_book (# c) (list us) k
product_formula (Polynomial us) (Polynomial ws) k = product_book (list us) (list ws) k

-- v = u / w
abbrev pub quotient_formula : (u w v : Expansion) → ℕ → Formula
quotient_formula (Constant b) (Constant c) v k = # b ⊘ # c
quotient_formula (Constant c) (Polynomial ws) v k = quotient_book (constant c) (list ws) (list (nodes_of v)) k
quotient_formula (Polynomial us) (Constant c) v k = scaled_book (whole 1 ⊘ # c) (list us) k
quotient_formula (Polynomial us) (Polynomial ws) v k = quotient_book (list us) (list ws) (list (nodes_of v)) k

-- v = exp u
abbrev pub exp_formula : (u v : Expansion) → ℕ → Formula
exp_formula (Constant c) v k = Exp (# c)
exp_formula (Polynomial us) v k = exp_book (list us) (list (nodes_of v)) k

-- v = ln u
abbrev pub log_formula : (u v : Expansion) → ℕ → Formula
log_formula (Constant c) v k = Log (# c)
log_formula (Polynomial us) v k = log_book (list us) (list (nodes_of v)) k

-- coefficient k of v, in the pool Q, has the value of formula k, for each that there is
abbrev pub HasValues : (A : Algebra) → Values A → Pool → Expansion → (ℕ → Formula) → Type 0
HasValues A env Q v formula = (k : ℕ) → k < length (nodes_of v) → value A env (node_at Q) (at (nodes_of v) k) ≡ formula_value A (value A env (node_at Q)) (formula k)
