-- A model that is there: the whole numbers, with every exponential 1, every logarithm 0, and a quotient and a maximum that are their first argument.
-- Assumes nothing.
use Rattle.std.specs.Prelude.{ℤ, pos, ◌+ℤ◌, ◌*ℤ◌}
use Rattle.meaning.specs.Model.{Algebra}

abbrev pub integers : Algebra
integers =
    record {
      carrier = ℤ;
      int = λ z. z;
      plus = λ x y. x +ℤ y;
      times = λ x y. x *ℤ y;
      over = λ x y. x;
      max = λ x y. x;
      exp = λ x. pos 1;
      log = λ x. pos 0;
    }
