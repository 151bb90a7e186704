-- The forms that signed numbers and variables take: with a sign or without one, and a letter.
-- Assumes nothing.
use mathlib.Core.Path.{◌≡◌, refl}
use mathlib.Core.Bool.{true, false, true≢false}
use mathlib.Core.List.{[], ◌∷◌}
use Prim.Native.Nat.{ℕ, ◌+◌, ◌<◌}
use native.Mathlib.Omega.{arith}
use lib.IntN.{ℤ, pos, negsuc, nat_abs}
use lib.Signed.{lt_z}
use borrow.Author.Tests.{ltb-true, lt-ltb}
use Rattle.text.specs.Text.{minus, letters, letter_a, decimal, signed_decimal, display}

pub signed_below : (z : ℤ) → lt_z z (pos 0) ≡ true → minus ∷ decimal (nat_abs z) ≡ signed_decimal z
unfolding signed_decimal
signed_below (pos n) t = let never : n < 0 = ltb-true n 0 t in absurd (omega arith)
signed_below (negsuc n) t = refl

pub signed_else : (z : ℤ) → lt_z z (pos 0) ≡ false → decimal (nat_abs z) ≡ signed_decimal z
unfolding signed_decimal
signed_else (pos n) t = refl
signed_else (negsuc n) t = absurd (true≢false t)

pub a_letter : (v : ℕ) → v < letters → (letter_a + v) ∷ [] ≡ display v
unfolding display
a_letter v h = rw (lt-ltb v letters h)
