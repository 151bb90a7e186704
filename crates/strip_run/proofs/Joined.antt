-- A number of a width, read from the bytes from a place on, low byte first.
-- Assumes nothing.
use mathlib.Core.Path.{◌≡◌, refl}
use mathlib.Core.List.{List, [], ◌∷◌}
use Prim.Native.Nat.{ℕ, zero, suc, ◌+◌, ◌*◌, ◌^◌}
use native.Mathlib.Omega.{arith}
use lib.ListN.{take, drop}
use Rattle.std.specs.Int.{w16, w32, w64, from_le_bytes}
use Rattle.low_bytes.specs.LowBytes.{number_at}

two_first : (a b : ℕ) → a + b * 256 ^ 1 ≡ a + 256 * (b + 256 * 0)
two_first a b = omega arith

pub two_joined : (bs : List ℕ) (at : ℕ) → from_le_bytes w16 (take 2 (drop at bs)) ≡ number_at 2 bs at
two_joined [] zero = two_first 0 0
two_joined (a ∷ []) zero = two_first a 0
two_joined (a ∷ b ∷ bs) zero = two_first a b
two_joined [] (suc at) = refl
two_joined (a ∷ bs) (suc at) = two_joined bs at

four_first : (a b c d : ℕ) → a + b * 256 ^ 1 + c * 256 ^ 2 + d * 256 ^ 3 ≡ a + 256 * (b + 256 * (c + 256 * (d + 256 * 0)))
four_first a b c d = omega arith

pub four_joined : (bs : List ℕ) (at : ℕ) → from_le_bytes w32 (take 4 (drop at bs)) ≡ number_at 4 bs at
four_joined [] zero = four_first 0 0 0 0
four_joined (a ∷ []) zero = four_first a 0 0 0
four_joined (a ∷ b ∷ []) zero = four_first a b 0 0
four_joined (a ∷ b ∷ c ∷ []) zero = four_first a b c 0
four_joined (a ∷ b ∷ c ∷ d ∷ bs) zero = four_first a b c d
four_joined [] (suc at) = refl
four_joined (a ∷ bs) (suc at) = four_joined bs at

eight_first : (a b c d e f g h : ℕ) → a + b * 256 ^ 1 + c * 256 ^ 2 + d * 256 ^ 3 + e * 256 ^ 4 + f * 256 ^ 5 + g * 256 ^ 6 + h * 256 ^ 7 ≡ a + 256 * (b + 256 * (c + 256 * (d + 256 * (e + 256 * (f + 256 * (g + 256 * (h + 256 * 0)))))))
eight_first a b c d e f g h = omega arith

pub eight_joined : (bs : List ℕ) (at : ℕ) → from_le_bytes w64 (take 8 (drop at bs)) ≡ number_at 8 bs at
eight_joined [] zero = eight_first 0 0 0 0 0 0 0 0
eight_joined (a ∷ []) zero = eight_first a 0 0 0 0 0 0 0
eight_joined (a ∷ b ∷ []) zero = eight_first a b 0 0 0 0 0 0
eight_joined (a ∷ b ∷ c ∷ []) zero = eight_first a b c 0 0 0 0 0
eight_joined (a ∷ b ∷ c ∷ d ∷ []) zero = eight_first a b c d 0 0 0 0
eight_joined (a ∷ b ∷ c ∷ d ∷ e ∷ []) zero = eight_first a b c d e 0 0 0
eight_joined (a ∷ b ∷ c ∷ d ∷ e ∷ f ∷ []) zero = eight_first a b c d e f 0 0
eight_joined (a ∷ b ∷ c ∷ d ∷ e ∷ f ∷ g ∷ []) zero = eight_first a b c d e f g 0
eight_joined (a ∷ b ∷ c ∷ d ∷ e ∷ f ∷ g ∷ h ∷ bs) zero = eight_first a b c d e f g h
eight_joined [] (suc at) = refl
eight_joined (a ∷ bs) (suc at) = eight_joined bs at
