-- Examples of document 01 on doubles, computed from the definitions.
-- Assumes nothing.
use mathlib.Core.Path.{◌≡◌, refl}
use lib.IntN.{pos}
use lib.Ieee.{Float, nan, binary64, div, mul, lt, is_nan, of_int, to_bits}
use Rattle.double.specs.Double.{pow_from, pow_of, max_of}

-- "1/3 as a double has bits 3FD5555555555555 (hexadecimal)."
pub a_third : to_bits binary64 (div binary64 (of_int binary64 (pos 1)) (of_int binary64 (pos 3))) ≡ 0x3FD5_5555_5555_5555
unfolding to_bits div of_int
a_third = refl

pub three_to_the_fifth : pow_of (of_int binary64 (pos 3)) 5 ≡ of_int binary64 (pos 243)
unfolding pow_of pow_from mul of_int
three_to_the_fifth = refl

pub any_to_the_zeroth : (x : Float) → pow_of x 0 ≡ of_int binary64 (pos 1)
unfolding pow_of pow_from
any_to_the_zeroth x = refl

pub max_with_nan_right : max_of (of_int binary64 (pos 1)) nan ≡ of_int binary64 (pos 1)
unfolding max_of lt is_nan of_int
max_with_nan_right = refl

pub max_with_nan_left : max_of nan (of_int binary64 (pos 1)) ≡ of_int binary64 (pos 1)
unfolding max_of lt is_nan of_int
max_with_nan_left = refl

-- one pattern of bits for every NaN
pub nan_bits : to_bits binary64 nan ≡ 0x7FF8_0000_0000_0000
unfolding to_bits
nan_bits = refl
