-- Decimals read from left to right: what the digits passed have given, cut off, goes on to the same number, cut off.
-- Assumes nothing.
use mathlib.Core.Path.{◌≡◌, refl, ap, sym, ◌∙◌}
use mathlib.Core.Bool.{Bool, true, false, not, ◌&&◌}
use mathlib.Core.List.{List, [], ◌∷◌}
use Prim.Native.Nat.{ℕ, ◌+◌, ◌-◌, ◌*◌, ◌≤◌, ◌<◌}
use native.Mathlib.Numerals.{add-one}
use native.Mathlib.Omega.{arith}
use lib.Dec.{eqb}
use lib.ListN.{length, get_or, drop, drop_of_length-le}
use lib.Seq.{drop-cons}
use borrow.Author.Tests.{eq-eqb, ne_eqb}
use Rattle.sheet_text.specs.Line.{when, is_digit, digits_from, decimal_of}
use Rattle.std.specs.Prelude.{Option, Some, None}
use Rattle.sheet_line.specs.Cut.{cut_at, cut, cut_number}
use Rattle.sheet_line.proofs.Cutting.{cut_within, cut_below, cut_twice, cut_again}

-- digits go on from a number that was cut off as from the number itself
pub goes_on : (n : ℕ) (bs : List ℕ) → cut_number (digits_from (cut n) bs) ≡ cut_number (digits_from n bs)
unfolding digits_from
goes_on n [] = ap Some (cut_twice n)
goes_on n (b ∷ bs) =
    go (is_digit b) (digits_from (10 * cut n + (b - 48)) bs) (digits_from (10 * n + (b - 48)) bs)
    (sym (goes_on (10 * cut n + (b - 48)) bs)
    ∙ ap (λ (m : ℕ). cut_number (digits_from m bs)) (cut_again n (b - 48))
    ∙ goes_on (10 * n + (b - 48)) bs)
  where
    go : (t : Bool) (r s : Option ℕ) → cut_number r ≡ cut_number s → cut_number (when t r) ≡ cut_number (when t s)
    go true r s e = e
    go false r s e = refl

-- from a number on, the digits before i gave n, and those from i on go on from it
pub record Reading (before : ℕ) (bytes : List ℕ) (n i : ℕ) : Type 0 where
  pub within : i ≤ length bytes
  pub small : n ≤ cut_at
  pub gives : cut_number (digits_from n (drop i bytes)) ≡ cut_number (digits_from before bytes)

pub starts : (before : ℕ) (bytes : List ℕ) → before ≤ cut_at → Reading before bytes before 0
starts before bytes h = record { within = omega arith; small = h; gives = refl }

module _ (before : ℕ) (bytes : List ℕ) (n i : ℕ) (r : Reading before bytes n i) where
  next : (h : i < length bytes) (t : Bool) → is_digit (get_or bytes i 0) ≡ t → cut_number (when t (digits_from (10 * n + (get_or bytes i 0 - 48)) (drop (i + 1) bytes))) ≡ cut_number (digits_from before bytes)
  unfolding digits_from
  next h t e =
      ap (λ (s : Bool). cut_number (when s (digits_from (10 * n + (get_or bytes i 0 - 48)) (drop (i + 1) bytes)))) (sym e)
      ∙ ap (λ (j : ℕ). cut_number (digits_from n (get_or bytes i 0 ∷ drop j bytes))) (add-one i)
      ∙ ap (λ (l : List ℕ). cut_number (digits_from n l)) (sym (drop-cons bytes i 0 h))
      ∙ r.gives

  pub turn : i < length bytes → is_digit (get_or bytes i 0) ≡ true → Reading before bytes (cut (10 * n + (get_or bytes i 0 - 48))) (i + 1)
  turn h e =
      record {
        within = omega arith;
        small = cut_within (10 * n + (get_or bytes i 0 - 48));
        gives = goes_on (10 * n + (get_or bytes i 0 - 48)) (drop (i + 1) bytes) ∙ next h true e;
      }

  pub stops : i < length bytes → is_digit (get_or bytes i 0) ≡ false → None ≡ cut_number (digits_from before bytes)
  stops h e = next h false e

  pub ends : length bytes ≤ i → Some n ≡ cut_number (digits_from before bytes)
  unfolding digits_from
  ends h =
      ap Some (sym (cut_below n r.small))
      ∙ ap (λ (l : List ℕ). cut_number (digits_from n l)) (sym (drop_of_length-le bytes h))
      ∙ r.gives

-- decimals
from_zero : (b : ℕ) → 10 * 0 + (b - 48) ≡ b - 48
from_zero b = omega arith

pub no_digit : (bytes : List ℕ) → length bytes ≡ 0 → None ≡ cut_number (decimal_of bytes)
unfolding decimal_of
no_digit [] e = refl
no_digit (b ∷ bs) e = absurd (omega arith)

pub one_digit : (bytes : List ℕ) → length bytes ≡ 1 → digits_from 0 bytes ≡ decimal_of bytes
unfolding decimal_of digits_from
one_digit [] e = absurd (omega arith)
one_digit (b ∷ []) e = ap (λ (n : ℕ). when (is_digit b) (Some n)) (from_zero b)
one_digit (b ∷ c ∷ bs) e = absurd (omega arith)

not_both : (t s : Bool) → s ≡ true → t && not s ≡ false
not_both true s e = rw e
not_both false s e = refl

both : (t s : Bool) → s ≡ false → t && not s ≡ t
both true s e = rw e
both false s e = refl

pub leading_zero : (b : ℕ) (bs : List ℕ) → 0 < length bs → b ≡ 48 → None ≡ cut_number (decimal_of (b ∷ bs))
unfolding decimal_of
leading_zero b [] h e = absurd (omega arith)
leading_zero b (c ∷ bs) h e = ap (λ (t : Bool). cut_number (when t (digits_from (b - 48) (c ∷ bs)))) (sym (not_both (is_digit b) (eqb b 48) (eq-eqb b 48 e)))

pub more_digits : (b : ℕ) (bs : List ℕ) → 0 < length bs → (b ≡ 48 → ⊥) → digits_from 0 (b ∷ bs) ≡ decimal_of (b ∷ bs)
unfolding decimal_of digits_from
more_digits b [] h e = absurd (omega arith)
more_digits b (c ∷ bs) h e =
    ap (λ (n : ℕ). when (is_digit b) (digits_from n (c ∷ bs))) (from_zero b)
    ∙ ap (λ (t : Bool). when t (digits_from (b - 48) (c ∷ bs))) (sym (both (is_digit b) (eqb b 48) (ne_eqb b 48 e)))
