-- The value of a formula in an algebra, for given values of the nodes.
-- Assumes nothing.
use Rattle.std.specs.Prelude.{◌≡◌, List, ℕ, ◌<◌, pos, length, get_or}
use Rattle.taylor.specs.Work.{at}
use Rattle.book.specs.Formula.{Formula, #, whole, ◌⊕◌, ◌⊖◌, ◌⊗◌, ◌⊘◌, ◌⊟◌, Exp, Log}
use Rattle.meaning.specs.Model.{Algebra}
use Rattle.taylor_meaning.specs.Series.{minus}

module _ (A : Algebra) (of : ℕ → A.carrier) where
  unfoldable pub formula_value : Formula → A.carrier
  formula_value (# i) = of i
  formula_value (whole n) = A.int (pos n)
  formula_value (f ⊕ g) = A.plus (formula_value f) (formula_value g)
  formula_value (f ⊖ g) = minus A (formula_value f) (formula_value g)
  formula_value (f ⊗ g) = A.times (formula_value f) (formula_value g)
  formula_value (f ⊘ g) = A.over (formula_value f) (formula_value g)
  formula_value (f ⊟ g) = minus A (formula_value f) (formula_value g)
  formula_value (Exp f) = A.exp (formula_value f)
  formula_value (Log f) = A.log (formula_value f)

  -- the formulas that were worked once have the values of the nodes they were worked to
  pub record Shared (shared : List Formula) (nodes : List ℕ) : Type 0 where
    pub same : (i : ℕ) → i < length shared → formula_value (get_or shared i (whole 0)) ≡ of (at nodes i)
