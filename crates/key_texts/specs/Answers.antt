-- The line that the program `keys` prints of a double: its bits in 16 hexadecimal digits, with capitals as document 01 writes them, and `number` or `NaN`.
-- Assumes nothing.
use Rattle.std.specs.Prelude.{cond, List, [], ◌∷◌, ◌++◌, ℕ, zero, suc, ◌+◌, ◌/◌, ◌%◌, ltb, Float}
use Rattle.std.specs.Float.{binary64}
use Rattle.std.specs.Float.Ieee.{is_nan, to_bits}
use Rattle.text.specs.Text.{bytes}

-- '0' to '9', 'A' to 'F'
abbrev pub hex_digit : ℕ → ℕ
hex_digit d = cond (ltb d 10) (48 + d) (55 + d)

-- the k lowest hexadecimal digits, the highest first
unfoldable pub hex_text : ℕ → ℕ → List ℕ
hex_text zero n = []
hex_text (suc k) n = hex_text k (n / 16) ++ (hex_digit (n % 16) ∷ [])

-- the digits of 64 bits
abbrev pub bits_text : ℕ → List ℕ
bits_text bits = hex_text 16 bits

abbrev pub answer_line : Float → List ℕ
answer_line x = bits_text (to_bits binary64 x) ++ cond (is_nan x) (bytes " NaN\n") (bytes " number\n")
