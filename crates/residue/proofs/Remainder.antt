-- The remainder that is not negative is the residue.
-- Assumes nothing.
use Rattle.std.specs.Int.{int_rem_euclid}
use mathlib.Core.Path.{◌≡◌, refl, ap}
use Prim.Native.Nat.{ℕ, suc, ◌+◌}
use native.Mathlib.Omega.{arith}
use lib.IntN.{ℤ, pos, negsuc, ◌+ℤ◌, neg_ℤ}
use borrow.Author.Tests.{lt-ltb}
use Rattle.residue.specs.Residue.{residue}

-- more is taken away than there is
pub below_zero : (a n b : ℕ) → b ≡ suc (a + n) → negsuc n ≡ pos a +ℤ neg_ℤ (pos b)
below_zero a n b e = rw (e, lt-ltb a (suc (a + n)) (omega arith)) (ap negsuc (omega arith))

pub remainder_is : (m : ℕ) (z : ℤ) → int_rem_euclid z (pos m) ≡ pos (residue m z)
unfolding residue
remainder_is m (pos n) = refl
remainder_is m (negsuc n) = refl
