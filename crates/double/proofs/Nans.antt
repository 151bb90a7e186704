-- NaNs: there is one, and one pattern of bits for it.
-- Assumes nothing.
use mathlib.Core.Path.{◌≡◌, refl, ◌∙◌, sym, ap}
use mathlib.Core.Bool.{true, false, not, ◌&&◌}
use Prim.Native.Nat.{ℕ, ◌/◌, ◌%◌}
use lib.Dec.{eqb}
use lib.Ieee.{Float, nan, inf, fin, binary64, is_nan, nan_bits, of_bits, to_bits}
use lib.Ieee.Bits.{nan_bits_is}

nan_is : (x : Float) → is_nan x ≡ true → nan ≡ x
unfolding is_nan
nan_is nan t = refl
nan_is (inf s) t = let z : false ≡ true = t in cc
nan_is (fin s m e) t = let z : false ≡ true = t in cc

pub bits_of_nan : (x : Float) → is_nan x ≡ true → to_bits binary64 x ≡ 0x7FF8_0000_0000_0000
unfolding to_bits
bits_of_nan x t = ap (to_bits binary64) (sym (nan_is x t))

-- a pattern of a NaN: the exponent's field is all ones, and the digits' field is not 0
pub nan_bits_are : (b : ℕ) → nan_bits binary64 b ≡ (eqb (b % 0x8000_0000_0000_0000 / 0x10_0000_0000_0000) 2047 && not (eqb (b % 0x10_0000_0000_0000) 0))
unfolding nan_bits
nan_bits_are b = refl

-- every pattern of a NaN means the one NaN
pub nan_of_bits : (b : ℕ) → nan_bits binary64 b ≡ true → of_bits binary64 b ≡ of_bits binary64 0x7FF8_0000_0000_0000
unfolding of_bits
nan_of_bits b t = sym (nan_is (of_bits binary64 b) (sym (nan_bits_is binary64 b) ∙ t))
