-- A model whose exponentials and logarithms say something: the dual numbers a + b ε, ε × ε = 0, over a ring that is a model. b is a derivative, by the rules of the calculus.
-- Assumes nothing.
use Rattle.std.specs.Prelude.{pos, negsuc}
use Rattle.meaning.specs.Model.{Algebra, power}

module _ (A : Algebra) where
  open A use {carrier, int, plus as ◌⊕◌, times as ◌⊗◌, over as ◌⊘◌}

  infixl 20 ◌⊕◌
  infixl 30 ◌⊗◌ ◌⊘◌
  abbrev pub duals : Algebra
  duals =
      record {
        carrier = carrier × carrier;
        int = λ z. (int z, int (pos 0));
        plus = λ x y. (x.0 ⊕ y.0, x.1 ⊕ y.1);
        times = λ x y. (x.0 ⊗ y.0, x.0 ⊗ y.1 ⊕ y.0 ⊗ x.1);
        -- the calculus' sign: (b × a' - a × b') / b^2
        over = λ x y. (x.0 ⊘ y.0, (y.0 ⊗ x.1 ⊕ int (negsuc 0) ⊗ (x.0 ⊗ y.1)) ⊘ power A y.0 2);
        max = λ x y. (A.max x.0 y.0, int (pos 0));
        exp = λ x. (A.exp x.0, x.1 ⊗ A.exp x.0);
        log = λ x. (A.log x.0, x.1 ⊘ x.0);
      }
