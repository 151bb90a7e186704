-- Values and lines of values, computed from the definitions.
-- Assumes nothing.
use mathlib.Core.Path.{◌≡◌, refl}
use mathlib.Core.List.{[], ◌∷◌}
use lib.IntN.{pos}
use lib.Ieee.{binary64, div, neg, of_int, of_bits}
use Rattle.text.specs.Text.{bytes}
use Rattle.std.specs.Prelude.{Some, None}
use Rattle.sheet_text.specs.Line.{digits_from, fields}
use Rattle.sheet_line.specs.Split.{first_at}
use Rattle.key_values.specs.Values.{of_digits, unsigned_of, decimal_of, hex_from, bits_of, value_of, each_of, values_of}

-- one rounding of 1 / 10
pub a_tenth : value_of (bytes "0.1") ≡ Some (of_bits binary64 0x3FB9_9999_9999_999A)
unfolding value_of bits_of hex_from decimal_of unsigned_of first_at of_digits digits_from div of_int of_bits
a_tenth = refl

pub minus_zero : value_of (bytes "-0") ≡ Some (of_bits binary64 0x8000_0000_0000_0000)
unfolding value_of bits_of hex_from decimal_of unsigned_of first_at of_digits digits_from div neg of_int of_bits
minus_zero = refl

pub zeros_in_front : value_of (bytes "007") ≡ value_of (bytes "7")
unfolding value_of bits_of hex_from decimal_of unsigned_of first_at of_digits digits_from div of_int
zeros_in_front = refl

pub one_by_its_bits : value_of (bytes "3FF0000000000000") ≡ Some (of_int binary64 (pos 1))
unfolding value_of bits_of hex_from of_int of_bits
one_by_its_bits = refl

pub no_digit_in_front : value_of (bytes ".5") ≡ None
unfolding value_of bits_of hex_from decimal_of unsigned_of first_at of_digits
no_digit_in_front = refl

pub no_digit_behind : value_of (bytes "5.") ≡ None
unfolding value_of bits_of hex_from decimal_of unsigned_of first_at of_digits
no_digit_behind = refl

pub two_values : values_of (bytes "1 2\n") ≡ Some (of_int binary64 (pos 1) ∷ of_int binary64 (pos 2) ∷ [])
unfolding values_of fields each_of value_of bits_of hex_from decimal_of unsigned_of first_at of_digits digits_from div of_int
two_values = refl

pub two_spaces : values_of (bytes "1  2") ≡ None
unfolding values_of fields each_of value_of bits_of hex_from decimal_of unsigned_of first_at of_digits digits_from
two_spaces = refl

pub no_values_at_all : values_of (bytes "\n") ≡ Some []
unfolding values_of fields
no_values_at_all = refl
