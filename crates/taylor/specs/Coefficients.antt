-- "A list of 1 to 25 node numbers", coefficient 0 first.
-- Assumes nothing.
use Rattle.std.specs.Prelude.{List, ℕ, ◌+◌, get_or}

-- "An order is above 24" is refused: this is the greatest
abbrev pub greatest_order : ℕ
greatest_order = 24

-- one for each order from 0 on
abbrev pub terms : ℕ
terms = greatest_order + 1

-- coefficient i of a list; 0 past its end
abbrev pub at : List ℕ → ℕ → ℕ
at cs i = get_or cs i 0
