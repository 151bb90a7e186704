-- Hexadecimal digits as they are put: those of the sixteenth, then the lowest.
-- Assumes nothing.
use mathlib.Core.Path.{◌≡◌, refl}
use mathlib.Core.Bool.{Bool, true, false, cond}
use mathlib.Core.List.{[], ◌∷◌, ◌++◌}
use Prim.Native.Nat.{ℕ, zero, suc, ◌-◌, ◌/◌, ◌%◌, ◌≤◌}
use native.Mathlib.Omega.{arith}
use lib.Ieee.{Float, binary64, is_nan, to_bits}
use lib.ListN.{length, length-append}
use Rattle.text.specs.Text.{bytes}
use Rattle.key_texts.specs.Answers.{hex_digit, hex_text, bits_text, answer_line}
use Rattle.key_texts.specs.Lines.{line_room}

pub no_digits : (k n : ℕ) → k ≡ 0 → [] ≡ hex_text k n
unfolding hex_text
no_digits zero n e = refl
no_digits (suc k) n e = absurd (omega arith)

pub last_digit : (k n : ℕ) {b : ℕ} → (k ≡ 0 → ⊥) → b ≡ hex_digit (n % 16) → hex_text (k - 1) (n / 16) ++ (b ∷ []) ≡ hex_text k n
unfolding hex_text
last_digit zero n h e = absurd (h refl)
last_digit (suc k) n h e = let p : suc k - 1 ≡ k = omega arith in rw (p, e)

hex_length : (k n : ℕ) → length (hex_text k n) ≡ k
unfolding hex_text
hex_length zero n = refl
hex_length (suc k) n = omega (arith, length-append (hex_text k (n / 16)) (hex_digit (n % 16) ∷ []), hex_length k (n / 16))

pub answer_is_short : (x : Float) → length (answer_line x) ≤ line_room
answer_is_short x = go (is_nan x)
  where
    go : (t : Bool) → length (bits_text (to_bits binary64 x) ++ cond t (bytes " NaN\n") (bytes " number\n")) ≤ line_room
    go true = omega (arith, hex_length 16 (to_bits binary64 x), length-append (bits_text (to_bits binary64 x)) (bytes " NaN\n"))
    go false = omega (arith, hex_length 16 (to_bits binary64 x), length-append (bits_text (to_bits binary64 x)) (bytes " number\n"))
