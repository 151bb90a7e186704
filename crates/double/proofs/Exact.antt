-- Literals as doubles: each has one, and it is exactly that number, as every whole number up to 2^53 in size is.
-- Assumes nothing.
use Rattle.std.specs.Prelude.{Ok}
use mathlib.Core.Path.{◌≡◌}
use mathlib.Core.Bool.{true, false, false≢true}
use Prim.Native.Nat.{ℕ, suc, ◌*◌, ◌^◌, ◌≤◌}
use native.Mathlib.Omega.{arith}
use lib.Dec.{T, le→leb, lt→ltb}
use lib.IntN.{ℤ, pos, negsuc, nat_abs}
use lib.Ieee.{fin, binary64, prec, of_int, in_float}
use lib.Ieee.Back.{round_whole}
use borrow.Author.Tests.{leb-true}
use Rattle.literal.specs.Literal.{greatest, is_literal}
use Rattle.double.specs.Double.{double_of}
use Rattle.double.specs.Exact.{Is, GivesExactly}

pub has_double : (z : ℤ) → nat_abs z ≤ greatest → T (in_float binary64 z)
unfolding in_float
has_double (pos n) h = le→leb n (2 ^ prec binary64) (omega arith)
has_double (negsuc n) h = lt→ltb n (2 ^ prec binary64) (omega arith)

pub literal_has_double : (z : ℤ) → is_literal z ≡ true → T (in_float binary64 z)
literal_has_double z t = has_double z (leb-true (nat_abs z) greatest t)

pub literal_double : (z : ℤ) → is_literal z ≡ true → Ok (of_int binary64 z) ≡ double_of z
unfolding double_of
literal_double z t = rw t

-- ---- exactly

-- whole numbers up to 2^53 in size
pub whole_exact : (z : ℤ) → nat_abs z ≤ 2 ^ 53 → Is (of_int binary64 z) z
unfolding of_int
whole_exact (pos n) h = round_whole binary64 false n h
whole_exact (negsuc n) h = round_whole binary64 true (suc n) h

-- "Every literal is exact as a double"
pub literal_exact : (z : ℤ) → is_literal z ≡ true → GivesExactly (double_of z) z
unfolding double_of
literal_exact z t = rw t (whole_exact z (omega (arith, leb-true (nat_abs z) greatest t)))

-- a half is no whole number, and 2^53 + 1 is not exact
pub half_is_none : (z : ℤ) → Is (fin false 1 (negsuc 0)) z → ⊥
half_is_none (pos n) (s, e) = odd n e
  where
    odd : (n : ℕ) → ◌≡◌ {A = ℕ} 1 (n * 2) → ⊥
    odd n e = omega arith
half_is_none (negsuc n) (s, e) = false≢true s

pub one_past_is_not : Is (of_int binary64 (pos 9007199254740993)) (pos 9007199254740993) → ⊥
unfolding of_int
one_past_is_not (s, e) = omega arith
