-- What the definitions of literals promise: a word and its number go there and back, and a folded number is a literal.
-- Assumes nothing.
use mathlib.Core.Path.{◌≡◌, refl}
use mathlib.Core.Bool.{Bool, true, false, cond}
use Prim.Native.Nat.{ℕ, suc, ◌-◌, ◌^◌}
use lib.Dec.{ltb}
use lib.IntN.{ℤ, pos, negsuc, nat_abs}
use mir.Syntax.{w64}
use mir.Val.{Fits, SFits, sel}
use mir.ValLaws.{to_z-of_z, of_z-to_z}
use borrow.Author.Tests.{leb-true}
use Rattle.literal.specs.Literal.{greatest, is_literal, signed, word}
use Rattle.literal.proofs.Folds.{literal_fits}

-- two's complement as arithmetic: a word below 2^63 is itself, and a greater one 2^64 less; a negative number's word is 2^64 more
pub signed_is : (w : ℕ) → signed w ≡ cond (ltb w (2 ^ 63)) (pos w) (negsuc (2 ^ 64 - suc w))
signed_is w = go (ltb w (2 ^ 63))
  where
    go : (t : Bool) → sel t (pos w) (negsuc (2 ^ 64 - suc w)) ≡ cond t (pos w) (negsuc (2 ^ 64 - suc w))
    go true = refl
    go false = refl

pub word_of_natural : (n : ℕ) → word (pos n) ≡ n
word_of_natural n = refl

pub word_of_negative : (n : ℕ) → word (negsuc n) ≡ 2 ^ 64 - suc n
word_of_negative n = refl

pub number_of_word_of : (z : ℤ) → SFits w64 z → signed (word z) ≡ z
number_of_word_of z f = to_z-of_z w64 z f

pub word_of_number_of : (w : ℕ) → Fits w64 w → word (signed w) ≡ w
word_of_number_of w f = of_z-to_z w64 w f

pub literal_word_read : (z : ℤ) → is_literal z ≡ true → signed (word z) ≡ z
literal_word_read z l = number_of_word_of z (literal_fits z (leb-true (nat_abs z) greatest l))
