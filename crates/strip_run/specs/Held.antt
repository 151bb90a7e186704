-- The machine's places in the code: the two topmost values by themselves, the others in an array from its place 2 on.
-- Assumes nothing.
use Rattle.std.specs.Prelude.{List, [], ◌∷◌, ℕ, zero, suc, Float, get_or}
use Rattle.std.specs.Float.{nan}

-- the values of n places from place 2 on, the uppermost first
abbrev pub from_two : List Float → ℕ → List Float
from_two held zero = []
from_two held (suc n) = get_or held (suc (suc n)) nan ∷ from_two held n

-- the values of d places in use, the topmost first
abbrev pub in_use : Float → Float → List Float → ℕ → List Float
in_use top below held zero = []
in_use top below held (suc zero) = top ∷ []
in_use top below held (suc (suc n)) = top ∷ below ∷ from_two held n
