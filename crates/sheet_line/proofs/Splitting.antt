-- The fields of a line are what its content is split into, and a split starts with what stands before the first space.
-- Assumes nothing.
use mathlib.Core.Path.{◌≡◌, refl, ap, sym, ◌∙◌}
use mathlib.Core.Bool.{Bool, true, false, not, ◌&&◌, ◌||◌, cond}
use mathlib.Core.List.{List, [], ◌∷◌}
use Prim.Native.Nat.{ℕ, suc, ◌+◌, ◌-◌, ◌≤◌, ◌<◌}
use native.Mathlib.Numerals.{add-one}
use native.Mathlib.Omega.{arith}
use lib.Dec.{eqb}
use lib.Pointwise.{pointwise}
use denote.Ref.{Bor}
use Rattle.std.specs.Option.{MatchOption, unwrap_or}
use lib.ListN.{length, take, drop, length-drop}
use Rattle.std.specs.List.{position, position_or_len}
use Rattle.std.specs.Prelude.{Option, Some, None}
use lib.Dec.{ltb}
use lib.Seq.{take_all}
use Rattle.std.specs.List.{list_any}
use borrow.Author.Tests.{ltb-true, ltb-false}
use Rattle.sheet_text.specs.Line.{fields, joined}
use Rattle.sheet_line.specs.Split.{content_length, first_at, first_space, split}

-- the content
pub split_content : (bytes : List ℕ) → fields bytes ≡ split (take (content_length bytes) bytes)
unfolding fields split content_length
split_content [] = refl
split_content (b ∷ []) = go (eqb b 10)
  where
    go : (t : Bool) → cond t ([] ∷ []) (cond (eqb b 32) ([] ∷ [] ∷ []) ((b ∷ []) ∷ [])) ≡ split (take (cond t 0 1) (b ∷ []))
    go true = refl
    go false = refl
split_content (b ∷ c ∷ bs) = ap (λ (l : List (List ℕ)). cond (eqb b 32) ([] ∷ l) (joined b l)) (split_content (c ∷ bs))

-- whether the last byte is a line end
abbrev ends_a_line : List ℕ → Bool
ends_a_line bytes = pointwise eqb (drop (length bytes - 1) bytes) (10 ∷ [])

content_by_last_byte : (bytes : List ℕ) → content_length bytes ≡ cond (ends_a_line bytes) (length bytes - 1) (length bytes)
unfolding content_length
content_by_last_byte [] = refl
content_by_last_byte (b ∷ []) = go (eqb b 10)
  where
    go : (t : Bool) → ◌≡◌ {A = ℕ} (cond t 0 1) (cond (t && true) 0 1)
    go true = refl
    go false = refl
content_by_last_byte (b ∷ c ∷ bs) =
    let shorter : length (b ∷ c ∷ bs) - 1 ≡ suc (length (c ∷ bs) - 1) = omega arith in
    rw shorter (ap suc (content_by_last_byte (c ∷ bs)) ∙ go (ends_a_line (c ∷ bs)))
  where
    go : (t : Bool) → suc (cond t (length (c ∷ bs) - 1) (length (c ∷ bs))) ≡ cond t (suc (length (c ∷ bs) - 1)) (length (b ∷ c ∷ bs))
    go true = refl
    go false = refl

-- the bytes without that line end, or all of them
pub content_of_whole : (bytes : List ℕ) (whole : Bor (List ℕ)) (r : Option (Bor (List ℕ))) → whole.now ≡ bytes → MatchOption r (ends_a_line bytes ≡ false) (λ x. (ends_a_line bytes ≡ true) × (x.now ≡ take (length bytes - 1) bytes) × (length x.now + 1 ≡ length bytes)) → (unwrap_or r whole).now ≡ take (content_length bytes) bytes
content_of_whole bytes whole None e h = rw (content_by_last_byte bytes, h) (e ∙ sym (take_all (length bytes) bytes (omega arith)))
content_of_whole bytes whole (Some x) e h = rw (content_by_last_byte bytes, h.0) h.1

-- the first byte that is the one wanted
pub first_is_position : (wanted : ℕ) (bytes : List ℕ) → first_at wanted bytes ≡ position_or_len (λ b. eqb b wanted) bytes
unfolding first_at
first_is_position wanted [] = refl
first_is_position wanted (b ∷ bs) = go (eqb b wanted) (first_is_position wanted bs)
  where
    go : (t : Bool) → first_at wanted bs ≡ position_or_len (λ b. eqb b wanted) bs → cond t 0 (suc (first_at wanted bs)) ≡ cond (not t) (1 + position_or_len (λ b. eqb b wanted) bs) 0
    go true e = refl
    go false e = omega arith

some_same : {m n : ℕ} → Some m ≡ Some n → m ≡ n
some_same e = cc

-- what is left from a place on, as a part of a slice has it
pub rest_of : (bytes : List ℕ) (a : ℕ) → take (length bytes - a) (drop a bytes) ≡ drop a bytes
rest_of bytes a = take_all (length bytes - a) (drop a bytes) (omega (arith, length-drop a bytes))

abbrev found : ℕ → List ℕ → Option ℕ
found wanted bytes = position (λ b. eqb b wanted) bytes

pub none_found : (wanted : ℕ) (bytes : List ℕ) → None ≡ found wanted bytes → length bytes ≤ first_at wanted bytes
none_found wanted bytes e = go (ltb (position_or_len (λ b. eqb b wanted) bytes) (length bytes)) refl e
  where
    go : (t : Bool) → ltb (position_or_len (λ b. eqb b wanted) bytes) (length bytes) ≡ t → None ≡ cond t (Some (position_or_len (λ b. eqb b wanted) bytes)) None → length bytes ≤ first_at wanted bytes
    go true k f = grind arith
    go false k f = omega (arith, ltb-false _ _ k, first_is_position wanted bytes)

pub one_found : (wanted : ℕ) (bytes : List ℕ) {at : ℕ} → Some at ≡ found wanted bytes → (first_at wanted bytes < length bytes) × (take at bytes ≡ take (first_at wanted bytes) bytes) × (take (length bytes - (at + 1)) (drop (at + 1) bytes) ≡ drop (suc (first_at wanted bytes)) bytes)
one_found wanted bytes {at} e = go (ltb (position_or_len (λ b. eqb b wanted) bytes) (length bytes)) refl e
  where
    go : (t : Bool) → ltb (position_or_len (λ b. eqb b wanted) bytes) (length bytes) ≡ t → Some at ≡ cond t (Some (position_or_len (λ b. eqb b wanted) bytes)) None → (first_at wanted bytes < length bytes) × (take at bytes ≡ take (first_at wanted bytes) bytes) × (take (length bytes - (at + 1)) (drop (at + 1) bytes) ≡ drop (suc (first_at wanted bytes)) bytes)
    go true k f =
        let same : at ≡ first_at wanted bytes = omega (arith, first_is_position wanted bytes, some_same f) in
        rw (rest_of bytes (at + 1), add-one at, same) (omega (arith, ltb-true _ _ k, first_is_position wanted bytes), refl, refl)
    go false k f = grind arith

-- what a split is
pub one_field : (bytes : List ℕ) → length bytes ≤ first_space bytes → split bytes ≡ bytes ∷ []
unfolding split first_at
one_field [] h = refl
one_field (b ∷ bs) h = go (eqb b 32) (one_field bs) h
  where
    go : (t : Bool) → (length bs ≤ first_space bs → split bs ≡ bs ∷ []) → suc (length bs) ≤ cond t 0 (suc (first_space bs)) → cond t ([] ∷ split bs) (joined b (split bs)) ≡ (b ∷ bs) ∷ []
    go true later k = absurd (omega arith)
    go false later k = ap (joined b) (later (omega arith))

pub first_field : (bytes : List ℕ) → first_space bytes < length bytes → split bytes ≡ take (first_space bytes) bytes ∷ split (drop (suc (first_space bytes)) bytes)
unfolding split first_at
first_field [] h = absurd (omega arith)
first_field (b ∷ bs) h = go (eqb b 32) (first_field bs) h
  where
    go : (t : Bool) → (first_space bs < length bs → split bs ≡ take (first_space bs) bs ∷ split (drop (suc (first_space bs)) bs)) → cond t 0 (suc (first_space bs)) < suc (length bs) → cond t ([] ∷ split bs) (joined b (split bs)) ≡ take (cond t 0 (suc (first_space bs))) (b ∷ bs) ∷ split (drop (suc (cond t 0 (suc (first_space bs)))) (b ∷ bs))
    go true later k = refl
    go false later k = ap (joined b) (later (omega arith))

pub some_field : (bytes : List ℕ) → 0 < length (split bytes)
unfolding split
some_field [] = omega arith
some_field (b ∷ bs) = go (eqb b 32) (split bs)
  where
    go : (t : Bool) (l : List (List ℕ)) → 0 < length (cond t ([] ∷ l) (joined b l))
    go true l = omega arith
    go false [] = omega arith
    go false (f ∷ fs) = omega arith

-- a space makes two fields, and no space one
pub two_fields : (bytes : List ℕ) → list_any (λ y. eqb y 32) bytes ≡ true → 1 < length (split bytes)
unfolding split
two_fields [] h = absurd cc
two_fields (b ∷ bs) h = go (eqb b 32) (some_field bs) (two_fields bs) h
  where
    go : (t : Bool) → 0 < length (split bs) → (list_any (λ y. eqb y 32) bs ≡ true → 1 < length (split bs)) → t || list_any (λ y. eqb y 32) bs ≡ true → 1 < length (cond t ([] ∷ split bs) (joined b (split bs)))
    go true k later e = omega arith
    go false k later e = onto (split bs) (later e)
      where
        onto : (l : List (List ℕ)) → 1 < length l → 1 < length (joined b l)
        onto [] j = absurd (omega arith)
        onto (f ∷ fs) j = omega arith

pub no_space_split : (bytes : List ℕ) → list_any (λ y. eqb y 32) bytes ≡ false → split bytes ≡ bytes ∷ []
unfolding split
no_space_split [] h = refl
no_space_split (b ∷ bs) h = go (eqb b 32) (no_space_split bs) h
  where
    go : (t : Bool) → (list_any (λ y. eqb y 32) bs ≡ false → split bs ≡ bs ∷ []) → t || list_any (λ y. eqb y 32) bs ≡ false → cond t ([] ∷ split bs) (joined b (split bs)) ≡ (b ∷ bs) ∷ []
    go true later e = absurd cc
    go false later e = ap (joined b) (later e)
