-- The line of values that the program `keys` is given: one for each variable from 0 on, one space between, a line end or none.
-- Assumes nothing.
use Rattle.std.specs.Prelude.{Bool, true, false, ◌&&◌, cond, List, [], ◌∷◌, ◌++◌, ℕ, suc, ◌+◌, ◌-◌, ◌*◌, ◌^◌, leb, ltb, eqb, pos, Float, length, take, drop}
use Rattle.std.specs.Float.{binary64}
use Rattle.std.specs.Float.Ieee.{div, neg, of_int, of_bits}
use Rattle.std.specs.Prelude.{Option, Some, None}
use Rattle.std.specs.Option.{option_and_then}
use Rattle.sheet_text.specs.Line.{when, is_digit, digits_from, fields}
use Rattle.sheet_line.specs.Split.{first_at}

-- ---- a decimal

-- at most so many digits in all: such a number is exact as a double, and so is the power of ten
abbrev pub most_digits : ℕ
most_digits = 15

-- the bytes of '-' and '.'
abbrev pub minus : ℕ
minus = 45

abbrev pub point : ℕ
point = 46

abbrev pub signed : Bool → Float → Float
signed true x = neg x
signed false x = x

-- p / 10^k, rounded once; a minus is p's, so that -0 is minus zero
abbrev pub quotient_of : Bool → ℕ → ℕ → Float
quotient_of negative p k = div binary64 (signed negative (of_int binary64 (pos p))) (of_int binary64 (pos (10 ^ k)))

abbrev pub divided_by : Bool → ℕ → Option ℕ → Option Float
divided_by negative k None = None
divided_by negative k (Some p) = Some (quotient_of negative p k)

-- p are the digits before and behind the point as a whole number, k is how many stand behind it
unfoldable pub of_digits : Bool → List ℕ → List ℕ → Option Float
of_digits negative before behind =
    when (leb (length before + length behind) most_digits) (divided_by negative (length behind) (digits_from 0 (before ++ behind)))

-- digits, or digits on both sides of a point; zeros may stand in front
unfoldable pub unsigned_of : Bool → List ℕ → Option Float
unsigned_of negative bs =
    let at = first_at point bs in
    cond (ltb at (length bs))
    (when (ltb 0 at && ltb (suc at) (length bs)) (of_digits negative (take at bs) (drop (suc at) bs)))
    (when (ltb 0 at) (of_digits negative bs []))

-- with or without a minus in front
unfoldable pub decimal_of : List ℕ → Option Float
decimal_of [] = None
decimal_of (b ∷ bs) = cond (eqb b minus) (unsigned_of true bs) (unsigned_of false (b ∷ bs))

-- ---- bits

-- '0' to '9', 'A' to 'F', 'a' to 'f'
abbrev pub is_capital : ℕ → Bool
is_capital b = leb 65 b && leb b 70

abbrev pub is_small : ℕ → Bool
is_small b = leb 97 b && leb b 102

-- a digit's value
abbrev pub hex_digit : ℕ → Option ℕ
hex_digit b = cond (is_digit b) (Some (b - 48)) (cond (is_capital b) (Some (b - 55)) (cond (is_small b) (Some (b - 87)) None))

-- the number of hexadecimal digits, after those that gave n
unfoldable pub hex_from : ℕ → List ℕ → Option ℕ
hex_from n [] = Some n
hex_from n (b ∷ bs) = option_and_then (λ d. hex_from (16 * n + d) bs) (hex_digit b)

-- 64 bits
abbrev pub bits_digits : ℕ
bits_digits = 16

unfoldable pub bits_of : List ℕ → Option ℕ
bits_of bs = when (eqb (length bs) bits_digits) (hex_from 0 bs)

-- ---- a value, and the line

-- exactly 16 hexadecimal digits are the bits of the double, and all else is a decimal: no text is both (`bits_are_no_decimal` in proofs/)
abbrev pub value_from : Option ℕ → Option Float → Option Float
value_from (Some bits) decimal = Some (of_bits binary64 bits)
value_from None decimal = decimal

unfoldable pub value_of : List ℕ → Option Float
value_of bs = value_from (bits_of bs) (decimal_of bs)

abbrev pub and_then : Option Float → Option (List Float) → Option (List Float)
and_then None rest = None
and_then (Some x) None = None
and_then (Some x) (Some xs) = Some (x ∷ xs)

-- a value in each field
unfoldable pub each_of : List (List ℕ) → Option (List Float)
each_of [] = Some []
each_of (f ∷ fs) = and_then (value_of f) (each_of fs)

-- no field at all, or one that is empty, as of an empty line or input, is an empty table
abbrev pub values_in : List (List ℕ) → Option (List Float)
values_in [] = Some []
values_in ([] ∷ []) = Some []
values_in ((b ∷ f) ∷ fs) = each_of ((b ∷ f) ∷ fs)
values_in ([] ∷ g ∷ fs) = each_of ([] ∷ g ∷ fs)

unfoldable pub values_of : List ℕ → Option (List Float)
values_of line = values_in (fields line)
