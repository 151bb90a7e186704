-- Sizes of whole numbers: a number and its negative have one size.
-- Assumes nothing.
use mathlib.Core.Path.{◌≡◌, refl}
use Prim.Native.Nat.{zero, suc}
use lib.IntN.{ℤ, pos, negsuc, neg_ℤ, nat_abs}

pub size_negation : (z : ℤ) → nat_abs (neg_ℤ z) ≡ nat_abs z
size_negation (pos zero) = refl
size_negation (pos (suc n)) = refl
size_negation (negsuc n) = refl
