-- The value of digits, read from left to right: what the digits passed have given, cut off at the greatest number, goes on to the same value, cut off.
-- Assumes nothing.
use mathlib.Core.Path.{◌≡◌, refl, ap, sym, ◌∙◌}
use mathlib.Core.Bool.{Bool, true, false, cond}
use mathlib.Core.List.{List, [], ◌∷◌}
use Prim.Native.Nat.{ℕ, ◌+◌, ◌*◌, ◌-◌, ◌≤◌, ◌<◌}
use native.Mathlib.Omega.{arith}
use native.Mathlib.Numerals.{add-one}
use borrow.Author.Tests.{leb-true, leb-false}
use lib.Dec.{leb}
use lib.ListN.{length, get_or, drop, drop_of_length-le}
use lib.Seq.{drop-cons}
use Rattle.std.proofs.Common.{min}
use Rattle.number_list.specs.Numbers.{greatest_number, is_digit, value, Reads}

abbrev pub cut : ℕ → ℕ
cut n = min n greatest_number

-- a number that was cut off is read as it should be
pub cut_reads : (n v : ℕ) → n ≡ cut v → Reads n v
cut_reads n v e = record { fits = λ h. omega arith; above = λ h. omega arith }

-- digits only make a number greater
grows : (n : ℕ) (bs : List ℕ) → n ≤ value n bs
unfolding value
grows n [] = omega arith
grows n (b ∷ bs) = go (is_digit b) (grows (10 * n + (b - 48)) bs)
  where
    go : (t : Bool) → 10 * n + (b - 48) ≤ value (10 * n + (b - 48)) bs → n ≤ cond t (value (10 * n + (b - 48)) bs) n
    go true h = omega arith
    go false h = omega arith

-- cutting off on the way changes nothing of the value that is cut off
pub cut_before : (n m : ℕ) (bs : List ℕ) → n ≡ cut m → cut (value n bs) ≡ cut (value m bs)
cut_before n m bs e = go (leb m greatest_number) refl
  where
    go : (t : Bool) → leb m greatest_number ≡ t → cut (value n bs) ≡ cut (value m bs)
    go true k = let h = leb-true m greatest_number k in let same : n ≡ m = omega arith in rw same refl
    go false k = let h = leb-false m greatest_number k in let a = grows n bs in let b = grows m bs in omega arith

-- what is left from a place on starts with the byte there
step : (bs : List ℕ) (i n : ℕ) (t : Bool) → i < length bs → is_digit (get_or bs i 0) ≡ t → value n (drop i bs) ≡ cond t (value (10 * n + (get_or bs i 0 - 48)) (drop (i + 1) bs)) n
unfolding value
step bs i n t h d =
    let here : drop i bs ≡ get_or bs i 0 ∷ drop (i + 1) bs = drop-cons bs i 0 h ∙ ap (λ (j : ℕ). get_or bs i 0 ∷ drop j bs) (sym (add-one i)) in
    ap (value n) here ∙ ap (λ (s : Bool). cond s (value (10 * n + (get_or bs i 0 - 48)) (drop (i + 1) bs)) n) d

-- the digits before i gave n, cut off, and those from i on go on from it
pub record Reading (bs : List ℕ) (n i : ℕ) : Type 0 where
  pub small : n ≤ greatest_number
  pub gives : cut (value n (drop i bs)) ≡ cut (value 0 bs)

pub starts : (bs : List ℕ) → Reading bs 0 0
starts bs = record { small = omega arith; gives = refl }

module _ (bs : List ℕ) (n i : ℕ) (r : Reading bs n i) where
  pub turn : {m : ℕ} → i < length bs → is_digit (get_or bs i 0) ≡ true → m ≡ cut (10 * n + (get_or bs i 0 - 48)) → Reading bs m (i + 1)
  turn {m} h d e =
      record {
        small = omega arith;
        gives = cut_before m (10 * n + (get_or bs i 0 - 48)) (drop (i + 1) bs) e ∙ ap cut (sym (step bs i n true h d)) ∙ r.gives;
      }

  pub stops : i < length bs → is_digit (get_or bs i 0) ≡ false → Reads n (value 0 bs)
  stops h d = let s = r.small in let k = r.gives in cut_reads n (value 0 bs) (let e : value n (drop i bs) ≡ n = step bs i n false h d in omega arith)

  pub ends : length bs ≤ i → Reads n (value 0 bs)
  unfolding value
  ends h = let s = r.small in let k = r.gives in cut_reads n (value 0 bs) (let e : value n (drop i bs) ≡ n = ap (value n) (drop_of_length-le bs h) in omega arith)
