-- How the statement writes bytes: as hexadecimal digits, two to a byte.
-- Assumes nothing.
use Rattle.std.specs.Prelude.{cond, List, [], ◌∷◌, ℕ, ◌+◌, ◌-◌, ◌*◌, eqb, leb}
use Prim.Native.String as String
use Rattle.text.specs.Text.{bytes}

-- what '0' to '9' and 'A' to 'F' stand for
abbrev pub digit_value : ℕ → ℕ
digit_value c = cond (leb c 57) (c - 48) (c - 55)

-- two digits to a byte; a space is left out
abbrev pub bytes_of : List ℕ → List ℕ
bytes_of [] = []
bytes_of (c ∷ []) = []
bytes_of (c ∷ d ∷ more) = cond (eqb c 32) (bytes_of (d ∷ more)) ((16 * digit_value c + digit_value d) ∷ bytes_of more)

-- bytes as hexadecimal digits
abbrev pub hex : String.String → List ℕ
hex s = bytes_of (bytes s)
