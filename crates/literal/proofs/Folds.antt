-- Folding: in the range the number itself, outside of it the refusal.
-- Assumes nothing.
use Rattle.std.specs.Prelude.{Ok, Err}
use Rattle.std.proofs.lemmas.Int.{fits_signed_from_abs}
use mathlib.Core.Path.{◌≡◌}
use Prim.Native.Nat.{◌<◌, ◌≤◌}
use native.Mathlib.Omega.{arith}
use lib.IntN.{ℤ, nat_abs}
use borrow.Author.Tests.{le-leb, lt-leb}
use mir.Syntax.{w64}
use mir.Val.{SFits}
use Rattle.refusals.specs.Refusals.{out_of_range}
use Rattle.literal.specs.Literal.{greatest, folded}

pub folds : (z : ℤ) → nat_abs z ≤ greatest → Ok z ≡ folded z
unfolding folded
folds z h = rw (le-leb (nat_abs z) greatest h)

pub refuses : (z : ℤ) → greatest < nat_abs z → Err out_of_range ≡ folded z
unfolding folded
refuses z h = rw (lt-leb (nat_abs z) greatest h)

pub literal_fits : (z : ℤ) → nat_abs z ≤ greatest → SFits w64 z
literal_fits z h = fits_signed_from_abs w64 z (omega arith)
