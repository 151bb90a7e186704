-- Decimal numbers as document 01 prints them, and `Var`'s Display of src/ppl.rs, as bytes.
-- Assumes nothing.
use Rattle.std.specs.Prelude.{cond, List, [], ◌∷◌, ◌++◌, ℕ, zero, suc, ◌+◌, ◌/◌, ◌%◌, ltb, ℤ, pos, negsuc}
use Prim.Native.String as String
use Prim.Native.Char.{code}

-- the bytes of a text
abbrev pub bytes : String.String → List ℕ
bytes String.[] = []
bytes (String.◌∷◌ c s) = code c ∷ bytes s

-- the bytes of '-', 'a', 'x' and '_'
abbrev pub minus : ℕ
minus = 45

abbrev pub letter_a : ℕ
letter_a = 97

abbrev pub letter_x : ℕ
letter_x = 120

abbrev pub underscore : ℕ
underscore = 95

-- '0' to '9'
abbrev pub digit : ℕ → ℕ
digit d = 48 + d

-- the decimal digits of n, the highest first, where k of them are enough
unfoldable pub digits_within : ℕ → ℕ → List ℕ
digits_within zero n = []
digits_within (suc k) n =
    let higher = digits_within k (n / 10) in
    cond (ltb n 10) (digit n ∷ []) (higher ++ (digit (n % 10) ∷ []))

-- a number of 64 bits has at most 20 digits
abbrev pub most_digits : ℕ
most_digits = 20

unfoldable pub decimal : ℕ → List ℕ
decimal n = digits_within most_digits n

-- '-' and the size, where the number is negative
unfoldable pub signed_decimal : ℤ → List ℕ
signed_decimal (pos n) = decimal n
signed_decimal (negsuc n) = minus ∷ decimal (suc n)

-- how many variables have a letter for a name
abbrev pub letters : ℕ
letters = 26

-- if i < 26 { 'a' + i } else { "x_{i}" }
unfoldable pub display : ℕ → List ℕ
display v = cond (ltb v letters) ((letter_a + v) ∷ []) (letter_x ∷ underscore ∷ decimal v)

-- how many bytes a short text has room for
abbrev pub room : ℕ
room = 24
