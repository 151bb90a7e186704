-- Decimals: powers of ten that fit, and the digits on both sides of a point read in turn.
-- Assumes nothing.
use mathlib.Core.Path.{◌≡◌, refl, ap, sym, ◌∙◌}
use mathlib.Core.Bool.{Bool, true, false, ◌&&◌, cond}
use mathlib.Core.List.{List, [], ◌∷◌, ◌++◌}
use Prim.Native.Nat.{ℕ, suc, ◌+◌, ◌-◌, ◌*◌, ◌^◌, ◌≤◌, ◌<◌}
use native.Mathlib.Nat.{pow-succ', pow-le-pow_right, mul-le-mul_right}
use native.Mathlib.Omega.{arith}
use lib.Dec.{leb, ltb, eqb}
use lib.Pointwise.{pointwise}
use lib.ListN.{length, take, drop, length-append, length-drop}
use lib.Seq.{length-take-le}
use borrow.Author.Tests.{le-leb, lt-leb, lt-ltb, le-ltb, leb-true}
use Rattle.literal.specs.Literal.{greatest}
use Rattle.std.specs.Prelude.{Option, Some, None}
use Rattle.sheet_text.specs.Line.{when, is_digit, digits_from}
use Rattle.sheet_line.specs.Cut.{cut, cut_number}
use Rattle.sheet_line.specs.Split.{first_at}
use Rattle.sheet_line.proofs.Asking.{no_value}
use Rattle.sheet_line.proofs.Numbers.{goes_on}
use Rattle.key_values.specs.Values.{most_digits, minus, point, quotient_of, divided_by, of_digits, unsigned_of, decimal_of}

-- ---- powers of ten

pub power_within : (k : ℕ) → k ≤ most_digits → 10 ^ k ≤ greatest
power_within k h = let p : 10 ^ k ≤ 10 ^ most_digits = pow-le-pow_right (omega arith) h in omega arith

-- ---- digits in turn

-- digits after those that were read, if they were
abbrev go_on : Option ℕ → List ℕ → Option ℕ
go_on None bs = None
go_on (Some n) bs = digits_from n bs

digits_joined : (n : ℕ) (xs bs : List ℕ) → digits_from n (xs ++ bs) ≡ go_on (digits_from n xs) bs
unfolding digits_from
digits_joined n [] bs = refl
digits_joined n (a ∷ xs) bs =
    go (is_digit a) (digits_from (10 * n + (a - 48)) (xs ++ bs)) (digits_from (10 * n + (a - 48)) xs) (digits_joined (10 * n + (a - 48)) xs bs)
  where
    go : (t : Bool) (r s : Option ℕ) → r ≡ go_on s bs → when t r ≡ go_on (when t s) bs
    go true r s e = e
    go false r s e = refl

pub none_joined : (xs bs : List ℕ) → None ≡ cut_number (digits_from 0 xs) → None ≡ cut_number (digits_from 0 (xs ++ bs))
none_joined xs bs e = rw (digits_joined 0 xs bs) (go (digits_from 0 xs) e)
  where
    go : (r : Option ℕ) → None ≡ cut_number r → None ≡ cut_number (go_on r bs)
    go None e = refl
    go (Some n) e = absurd (no_value (cut n) e)

pub some_joined : (xs bs : List ℕ) {n : ℕ} → Some n ≡ cut_number (digits_from 0 xs) → cut_number (digits_from n bs) ≡ cut_number (digits_from 0 (xs ++ bs))
some_joined xs bs {n} e = rw (digits_joined 0 xs bs) (go (digits_from 0 xs) e)
  where
    go : (r : Option ℕ) → Some n ≡ cut_number r → cut_number (digits_from n bs) ≡ cut_number (go_on r bs)
    go None e = absurd (no_value n (sym e))
    go (Some m) e = let f : n ≡ cut m = cc in ap (λ (k : ℕ). cut_number (digits_from k bs)) f ∙ goes_on m bs

at_most_nine : (b : ℕ) → is_digit b ≡ true → b - 48 ≤ 9
at_most_nine b e = go (leb 48 b) e
  where
    go : (t : Bool) → t && leb b 57 ≡ true → b - 48 ≤ 9
    go true f = omega (arith, leb-true b 57 f)
    go false f = absurd cc

-- so many digits make no greater number
digits_below : (n : ℕ) (bs : List ℕ) (p : ℕ) → digits_from n bs ≡ Some p → p < (n + 1) * 10 ^ length bs
unfolding digits_from
digits_below n [] p e = let f : n ≡ p = cc in omega arith
digits_below n (b ∷ bs) p e = go (is_digit b) refl e (digits_below (10 * n + (b - 48)) bs p)
  where
    go :
        (t : Bool)
        → is_digit b ≡ t
        → when t (digits_from (10 * n + (b - 48)) bs) ≡ Some p
        → (digits_from (10 * n + (b - 48)) bs ≡ Some p → p < (10 * n + (b - 48) + 1) * 10 ^ length bs)
        → p < (n + 1) * 10 ^ suc (length bs)
    go true d f below =
        let small = at_most_nine b d in
        let less = below f in
        let more : (10 * n + (b - 48) + 1) * 10 ^ length bs ≤ (10 * n + 10) * 10 ^ length bs = mul-le-mul_right (10 ^ length bs) (omega arith) in
        rw (pow-succ' 10 (length bs)) (omega arith)
    go false d f below = absurd cc

-- a number of so few digits is whole, and exact as a double
whole_number : (bs : List ℕ) {p : ℕ} → length bs ≤ most_digits → Some p ≡ cut_number (digits_from 0 bs) → (digits_from 0 bs ≡ Some p) × (p ≤ greatest)
whole_number bs {p} h e = go (digits_from 0 bs) refl e
  where
    go : (r : Option ℕ) → digits_from 0 bs ≡ r → Some p ≡ cut_number r → (digits_from 0 bs ≡ Some p) × (p ≤ greatest)
    go None d e = absurd (no_value p (sym e))
    go (Some m) d e =
        let f : p ≡ cut m = cc in
        let below = digits_below 0 bs m d in
        let room = power_within (length bs) h in
        let g : m ≡ p = omega arith in
        (d ∙ ap Some g, omega arith)

-- ---- the digits before and behind a point

module _ (negative : Bool) (before behind : List ℕ) where
  pub too_many : most_digits < length before + length behind → None ≡ (of_digits negative before behind)
  unfolding of_digits
  too_many h = rw (lt-leb (length before + length behind) most_digits h)

  pub no_number : None ≡ cut_number (digits_from 0 (before ++ behind)) → None ≡ (of_digits negative before behind)
  unfolding of_digits
  no_number e = go (leb (length before + length behind) most_digits) (digits_from 0 (before ++ behind)) e
    where
      go : (t : Bool) (r : Option ℕ) → None ≡ cut_number r → None ≡ (when t (divided_by negative (length behind) r))
      go false r e = refl
      go true None e = refl
      go true (Some n) e = absurd (no_value (cut n) e)

  module _ {p : ℕ} (h : length before + length behind ≤ most_digits) (e : Some p ≡ cut_number (digits_from 0 (before ++ behind))) where
    few : length (before ++ behind) ≤ most_digits
    few = rw (length-append before behind) h

    pub number_exact : p ≤ greatest
    number_exact = (whole_number (before ++ behind) few e).1

    pub number_divided : Some (quotient_of negative p (length behind)) ≡ (of_digits negative before behind)
    unfolding of_digits
    number_divided = rw (le-leb (length before + length behind) most_digits h, (whole_number (before ++ behind) few e).0)

-- ---- the point

empty : (l : List ℕ) → length l ≡ 0 → l ≡ []
empty [] h = refl
empty (b ∷ bs) h = absurd (omega arith)

module _ (negative : Bool) (bytes : List ℕ) where
  pub no_byte_there : length bytes ≡ 0 → None ≡ unsigned_of negative bytes
  unfolding unsigned_of first_at
  no_byte_there h = let none : bytes ≡ [] = empty bytes h in rw none refl

  pub no_point : length bytes ≤ first_at point bytes → (length bytes ≡ 0 → ⊥) → of_digits negative bytes [] ≡ unsigned_of negative bytes
  unfolding unsigned_of
  no_point h some = rw (le-ltb (first_at point bytes) (length bytes) h, lt-ltb 0 (first_at point bytes) (omega arith))

  module _ {before behind : List ℕ} (h : first_at point bytes < length bytes) (front : before ≡ take (first_at point bytes) bytes) (back : behind ≡ drop (suc (first_at point bytes)) bytes) where
    pub none_before : length before ≡ 0 → None ≡ unsigned_of negative bytes
    unfolding unsigned_of
    none_before e =
        let at : first_at point bytes ≡ 0 = omega (arith, ap length front, length-take-le (first_at point bytes) bytes (omega arith)) in
        rw (lt-ltb (first_at point bytes) (length bytes) h, at) refl

    pub none_behind : length behind ≡ 0 → None ≡ unsigned_of negative bytes
    unfolding unsigned_of
    none_behind e =
        let at : length bytes ≤ suc (first_at point bytes) = omega (arith, ap length back, length-drop (suc (first_at point bytes)) bytes) in
        rw (lt-ltb (first_at point bytes) (length bytes) h, le-ltb (suc (first_at point bytes)) (length bytes) at) (go (ltb 0 (first_at point bytes)))
      where
        go : (t : Bool) → None ≡ when (t && false) (of_digits negative (take (first_at point bytes) bytes) (drop (suc (first_at point bytes)) bytes))
        go true = refl
        go false = refl

    pub both_sides : (length before ≡ 0 → ⊥) → (length behind ≡ 0 → ⊥) → of_digits negative before behind ≡ unsigned_of negative bytes
    unfolding unsigned_of
    both_sides some more =
        let at : 0 < first_at point bytes = omega (arith, ap length front, length-take-le (first_at point bytes) bytes (omega arith)) in
        let end : suc (first_at point bytes) < length bytes = omega (arith, ap length back, length-drop (suc (first_at point bytes)) bytes) in
        rw (front, back, lt-ltb (first_at point bytes) (length bytes) h, lt-ltb 0 (first_at point bytes) at, lt-ltb (suc (first_at point bytes)) (length bytes) end) refl

-- ---- the minus

pub with_minus : (bytes : List ℕ) → pointwise eqb (take 1 bytes) (minus ∷ []) ≡ true → unsigned_of true (drop 1 bytes) ≡ decimal_of bytes
unfolding decimal_of
with_minus [] e = absurd cc
with_minus (b ∷ bs) e = go (eqb b minus) e
  where
    go : (t : Bool) → t && true ≡ true → unsigned_of true bs ≡ cond t (unsigned_of true bs) (unsigned_of false (b ∷ bs))
    go true k = refl
    go false k = absurd cc

pub without_minus : (bytes : List ℕ) → pointwise eqb (take 1 bytes) (minus ∷ []) ≡ false → unsigned_of false bytes ≡ decimal_of bytes
unfolding decimal_of unsigned_of first_at
without_minus [] e = refl
without_minus (b ∷ bs) e = go (eqb b minus) e
  where
    go : (t : Bool) → t && true ≡ false → unsigned_of false (b ∷ bs) ≡ cond t (unsigned_of true bs) (unsigned_of false (b ∷ bs))
    go true k = absurd cc
    go false k = refl
