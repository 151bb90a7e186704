-- Hexadecimal digits: a number read from left to right.
-- Assumes nothing.
use mathlib.Core.Path.{◌≡◌, refl, ap, sym, ◌∙◌}
use mathlib.Core.Bool.{Bool, true, false, ◌&&◌, cond}
use mathlib.Core.List.{List, ◌∷◌}
use Prim.Native.Nat.{ℕ, ◌+◌, ◌-◌, ◌*◌, ◌^◌, ◌≤◌, ◌<◌}
use native.Mathlib.Nat.{pow-succ', pow-le-pow_right}
use native.Mathlib.Numerals.{add-one}
use native.Mathlib.Omega.{arith}
use lib.Dec.{leb}
use lib.ListN.{length, get_or, drop, drop_of_length-le}
use lib.Seq.{drop-cons}
use borrow.Author.Tests.{leb-true}
use mir.Syntax.{w64}
use mir.Val.{bits}
use Rattle.std.specs.Prelude.{Option, Some, None}
use Rattle.std.specs.Option.{option_and_then}
use Rattle.key_values.specs.Values.{bits_digits, hex_digit, hex_from}

-- a digit's value is below 16
same : {m d : ℕ} → Some m ≡ Some d → m ≡ d
same e = cc

from_range : (low high b x d : ℕ) (r : Option ℕ) → (r ≡ Some d → d < 16) → (leb b high ≡ true → x < 16) → cond (leb low b && leb b high) (Some x) r ≡ Some d → d < 16
from_range low high b x d r later small e = go (leb low b) (leb b high) refl e
  where
    go : (s t : Bool) → leb b high ≡ t → cond (s && t) (Some x) r ≡ Some d → d < 16
    go true true k f = let q = small k in let g : x ≡ d = same f in omega arith
    go true false k f = later f
    go false t k f = later f

digit_below : (b d : ℕ) → hex_digit b ≡ Some d → d < 16
digit_below b d e =
    from_range 48 57 b (b - 48) d _
    (from_range 65 70 b (b - 55) d _
    (from_range 97 102 b (b - 87) d None (λ e. absurd cc) (λ k. omega (arith, leb-true b 102 k)))
    (λ k. omega (arith, leb-true b 70 k)))
    (λ k. omega (arith, leb-true b 57 k))
    e

-- the digits before i gave n, and those from i on go on from it
pub record Reading (bytes : List ℕ) (n i : ℕ) : Type 0 where
  pub small : n < 16 ^ i
  pub gives : hex_from n (drop i bytes) ≡ hex_from 0 bytes

pub starts : (bytes : List ℕ) → Reading bytes 0 0
starts bytes = record { small = omega arith; gives = refl }

module _ (bytes : List ℕ) (n i : ℕ) (r : Reading bytes n i) (h : i < length bytes) where
  next : (o : Option ℕ) → o ≡ hex_digit (get_or bytes i 0) → option_and_then (λ d. hex_from (16 * n + d) (drop (i + 1) bytes)) o ≡ hex_from 0 bytes
  unfolding hex_from
  next o e =
      ap (option_and_then (λ d. hex_from (16 * n + d) (drop (i + 1) bytes))) e
      ∙ ap (λ (j : ℕ). hex_from n (get_or bytes i 0 ∷ drop j bytes)) (add-one i)
      ∙ ap (hex_from n) (sym (drop-cons bytes i 0 h))
      ∙ r.gives

  pub no_digit : None ≡ hex_digit (get_or bytes i 0) → None ≡ hex_from 0 bytes
  no_digit e = next None e

  module _ {d : ℕ} (e : Some d ≡ hex_digit (get_or bytes i 0)) where
    pub turn : Reading bytes (16 * n + d) (i + 1)
    turn =
        let s = r.small in
        let k = digit_below (get_or bytes i 0) d (sym e) in
        record {
          small = rw (add-one i, pow-succ' 16 i) (omega arith);
          gives = next (Some d) e;
        }

    pub fits : length bytes ≡ bits_digits → 16 * n + d < 2 ^ bits w64
    fits whole =
        let s = turn.small in
        let room : i + 1 ≤ bits_digits = omega arith in
        let p : 16 ^ (i + 1) ≤ 16 ^ bits_digits = pow-le-pow_right (omega arith) room in
        omega arith

pub ends : (bytes : List ℕ) (n i : ℕ) → Reading bytes n i → length bytes ≤ i → Some n ≡ hex_from 0 bytes
unfolding hex_from
ends bytes n i r h = ap (hex_from n) (sym (drop_of_length-le bytes h)) ∙ r.gives
