-- The two forms of a value do not meet: a text that is the bits of a double is no decimal.
-- Assumes nothing.
use mathlib.Core.Path.{◌≡◌, refl, ap}
use mathlib.Core.Bool.{Bool, true, false, cond}
use mathlib.Core.List.{List, [], ◌∷◌}
use Prim.Native.Nat.{ℕ, suc, ◌+◌, ◌*◌}
use native.Mathlib.Omega.{arith}
use lib.Dec.{eqb, ltb}
use lib.Ieee.{Float}
use lib.ListN.{length}
use borrow.Author.Tests.{eqb-true, ne_eqb, le-ltb, lt-leb}
use Rattle.std.specs.Prelude.{Option, Some, None}
use Rattle.std.specs.Option.{option_and_then}
use Rattle.sheet_text.specs.Line.{when}
use Rattle.sheet_line.specs.Split.{first_at}
use Rattle.key_values.specs.Values.{most_digits, minus, point, of_digits, unsigned_of, decimal_of, hex_digit, hex_from, bits_digits, bits_of}

-- neither a point nor a minus is a digit
no_point : (c d : ℕ) → hex_digit c ≡ Some d → c ≡ point → ⊥
no_point c d e q = let z : hex_digit point ≡ Some d = rw q at e in cc

no_minus : (c d : ℕ) → hex_digit c ≡ Some d → c ≡ minus → ⊥
no_minus c d e q = let z : hex_digit minus ≡ Some d = rw q at e in cc

-- digits have no point
point_past_digits : (n : ℕ) (bs : List ℕ) (b : ℕ) → hex_from n bs ≡ Some b → first_at point bs ≡ length bs
unfolding hex_from first_at
point_past_digits n [] b e = refl
point_past_digits n (c ∷ bs) b e = go (hex_digit c) refl e (λ d. point_past_digits (16 * n + d) bs b)
  where
    go :
        (r : Option ℕ)
        → hex_digit c ≡ r
        → option_and_then (λ d. hex_from (16 * n + d) bs) r ≡ Some b
        → ((d : ℕ) → hex_from (16 * n + d) bs ≡ Some b → first_at point bs ≡ length bs)
        → cond (eqb c point) 0 (suc (first_at point bs)) ≡ suc (length bs)
    go (Some d) is f later = rw (ne_eqb c point (no_point c d is)) (ap suc (later d f))
    go None is f later = absurd cc

-- so many digits are too many for a decimal
too_many_digits : (bs : List ℕ) → first_at point bs ≡ length bs → length bs ≡ bits_digits → unsigned_of false bs ≡ None
unfolding unsigned_of of_digits
too_many_digits bs e h =
    rw (e, le-ltb (length bs) (length bs) (omega arith), lt-leb (length bs + 0) most_digits (omega arith)) (go (ltb 0 (length bs)))
  where
    no_value : Option Float
    no_value = None

    go : (t : Bool) → when t no_value ≡ no_value
    go true = refl
    go false = refl

first_is_no_minus : (c : ℕ) (bs : List ℕ) (b : ℕ) → hex_from 0 (c ∷ bs) ≡ Some b → unsigned_of false (c ∷ bs) ≡ None → decimal_of (c ∷ bs) ≡ None
unfolding hex_from decimal_of
first_is_no_minus c bs b e none = go (hex_digit c) refl e
  where
    go : (r : Option ℕ) → hex_digit c ≡ r → option_and_then (λ d. hex_from (16 * 0 + d) bs) r ≡ Some b → cond (eqb c minus) (unsigned_of true bs) (unsigned_of false (c ∷ bs)) ≡ None
    go (Some d) is f = rw (ne_eqb c minus (no_minus c d is)) none
    go None is f = absurd cc

pub bits_are_no_decimal : (bs : List ℕ) (b : ℕ) → bits_of bs ≡ Some b → decimal_of bs ≡ None
unfolding bits_of decimal_of
bits_are_no_decimal [] b e = refl
bits_are_no_decimal (c ∷ bs) b e = go (eqb (length (c ∷ bs)) bits_digits) refl e
  where
    go : (t : Bool) → eqb (length (c ∷ bs)) bits_digits ≡ t → when t (hex_from 0 (c ∷ bs)) ≡ Some b → decimal_of (c ∷ bs) ≡ None
    go true d f = first_is_no_minus c bs b f (too_many_digits (c ∷ bs) (point_past_digits 0 (c ∷ bs) b f) (eqb-true (length (c ∷ bs)) bits_digits d))
    go false d f = absurd cc
