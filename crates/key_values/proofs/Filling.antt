-- The table of values, filled from a line field by field.
-- Assumes nothing.
use mathlib.Core.Path.{◌≡◌, refl, ap, sym, ◌∙◌}
use mathlib.Core.Bool.{Bool, true, false, cond}
use mathlib.Core.List.{List, [], ◌∷◌, ◌++◌, append_assoc, append-nil}
use Prim.Native.Nat.{ℕ, suc, ◌+◌, ◌-◌, ◌≤◌, ◌<◌}
use native.Mathlib.Numerals.{add-one}
use native.Mathlib.Omega.{arith}
use lib.Dec.{ltb, eqb}
use lib.Ieee.{Float}
use lib.ListN.{length, get_or, take, drop, set, length-set, drop_of_length-le}
use lib.Seq.{take-nil, take-suc-set, drop-cons}
use Rattle.std.specs.List.{slice_split, onto_first}
use Rattle.std.proofs.lemmas.List.Splits.{slice_split-cons_yes, slice_split-cons_no}
use borrow.Author.Tests.{ltb-true, ltb-false}
use denote.Param.Members.{Mut}
use denote.Ref.{Bor}
use Rattle.std.specs.Fn.{CalledAt}
use Rattle.std.specs.Slice.Iter.{split_rest, split_done, split_callee, split_steps}
use Rattle.std.proofs.lemmas.Iterator.{YieldsList}
use Rattle.std.proofs.lemmas.Iterator.Splits.{YieldsList-from_slice_split}
use Rattle.std.specs.Prelude.{Option, Some, None}
use Rattle.sheet_text.specs.Line.{joined, fields}
use Rattle.sheet_line.specs.Split.{content_length, split}
use Rattle.sheet_line.proofs.Splitting.{split_content, some_field}
use Rattle.key_values.specs.Values.{value_of, and_then, each_of, values_in, values_of}
use Rattle.key_values.specs.Filled.{at_most, Fills, kept, place_after}

-- ---- the fields

pub split_is : (text : List ℕ) → slice_split (λ b. eqb b 32) text ≡ split text
unfolding split
split_is [] = refl
split_is (b ∷ bs) = go (eqb b 32) refl (split_is bs)
  where
    same : (l : List (List ℕ)) → onto_first b l ≡ joined b l
    same [] = refl
    same (f ∷ fs) = refl

    go : (t : Bool) → eqb b 32 ≡ t → slice_split (λ x. eqb x 32) bs ≡ split bs → slice_split (λ x. eqb x 32) (b ∷ bs) ≡ cond t ([] ∷ split bs) (joined b (split bs))
    go true e h = slice_split-cons_yes (λ x. eqb x 32) b bs e ∙ ap (λ (l : List (List ℕ)). [] ∷ l) h
    go false e h = slice_split-cons_no (λ x. eqb x 32) b bs e ∙ ap (onto_first b) h ∙ same (split bs)

-- the fields of a text, as they are yielded one by one
pub fields_yielded :
    {F : Type 0} {s : _} (g : Mut F (Bor ℕ × Unit {0}) Bool) {f : F} (text : List ℕ)
    → split_rest s ≡ text
    → split_done s ≡ false
    → split_callee s ≡ f
    → ((x : ℕ) (b : Bool) (q : F) → CalledAt g f x b q → (q ≡ f) × (b ≡ eqb x 32))
    → YieldsList (split_steps g) (λ x. x.now) s (split text)
fields_yielded {s = s} g text rest done callee computes =
    rw (split_is text) at (YieldsList-from_slice_split {s = s} g (λ b. eqb b 32) text rest done callee computes)

-- ---- the table

-- what is kept, and of the rest as much as has room
abbrev pub joined_to : List Float → ℕ → Option (List Float) → Option (List Float)
joined_to xs room None = None
joined_to xs room (Some ys) = Some (xs ++ take room ys)

-- a value that finds a place, and one that finds none
one_more : (xs : List Float) (x : Float) {k m : ℕ} → m ≡ suc k → (r : Option (List Float)) → joined_to (xs ++ (x ∷ [])) k r ≡ joined_to xs m (and_then (Some x) r)
one_more xs x e None = refl
one_more xs x {k} e (Some ys) = rw e (ap Some (append_assoc xs (x ∷ []) (take k ys)))

no_more : (xs : List Float) (x : Float) {m : ℕ} → m ≡ 0 → (r : Option (List Float)) → joined_to xs m r ≡ joined_to xs m (and_then (Some x) r)
no_more xs x e None = refl
no_more xs x e (Some ys) = rw e refl

-- the first k fields gave the n values of the table, and those behind them go on
pub record Filling (all : List (List ℕ)) (table₀ table : List Float) (k n : ℕ) : Type 0 where
  pub long : length table ≡ length table₀
  pub within : n ≤ length table
  pub gives : joined_to (take n table) (length table - n) (each_of (drop k all)) ≡ at_most (length table) (each_of all)

pub starts : (all : List (List ℕ)) (table : List Float) → Filling all table table 0 0
starts all table =
    record {
      long = refl;
      within = omega arith;
      gives =
          let whole : length table - 0 ≡ length table = omega arith in
          rw whole (go (each_of all));
    }
  where
    go : (r : Option (List Float)) → joined_to [] (length table) r ≡ at_most (length table) r
    go None = refl
    go (Some xs) = refl

module _
    (all : List (List ℕ)) (table₀ table : List Float) (k n : ℕ) (f : Filling all table₀ table k n)
    (field : List ℕ) (h : k < length all) (is : field ≡ get_or all k field)
  where
    abbrev rest : Option (List Float)
    rest = each_of (drop (k + 1) all)

    -- the value of the field and those of the others
    here : joined_to (take n table) (length table - n) (and_then (value_of field) rest) ≡ at_most (length table) (each_of all)
    unfolding each_of
    here =
        let first : drop k all ≡ field ∷ drop (k + 1) all =
        drop-cons all k field h ∙ ap (λ (j : ℕ). get_or all k field ∷ drop j all) (sym (add-one k)) ∙ ap (λ (x : List ℕ). x ∷ drop (k + 1) all) (sym is) in
        ap (λ (l : List (List ℕ)). joined_to (take n table) (length table - n) (each_of l)) (sym first) ∙ f.gives

    pub no_value_there : None ≡ value_of field → Fills None table (each_of all)
    no_value_there v = record { gives = rw (sym v) at here; within = omega arith }

    value_there : {x : Float} → Some x ≡ value_of field → joined_to (take n table) (length table - n) (and_then (Some x) rest) ≡ at_most (length table) (each_of all)
    value_there {x} v = rw (sym v) at here

    pub turn :
        {x : Float} {after : List Float} {m : ℕ}
        → Some x ≡ value_of field
        → m ≡ place_after n table
        → after ≡ kept table n x
        → Filling all table₀ after (k + 1) m
    unfolding kept place_after
    turn {x} {after} {m} v p q = go (ltb n (length table)) refl
      where
        go : (t : Bool) → ltb n (length table) ≡ t → Filling all table₀ after (k + 1) m
        go true more =
            let room : n < length table = ltb-true n (length table) more in
            let stored : after ≡ set table n x = q ∙ rw more in
            let count : m ≡ n + 1 = omega (arith, p) in
            let long : length after ≡ length table = ap length stored ∙ length-set table n x in
            record {
              long = long ∙ f.long;
              within = omega arith;
              gives = rw (long, count, stored, add-one n, take-suc-set table n x room) (one_more (take n table) x {m = length table - n} (omega arith) rest ∙ value_there v);
            }
        go false full =
            let none : length table ≤ n = ltb-false n (length table) full in
            let same : after ≡ table = q ∙ rw full in
            let w = f.within in
            let count : m ≡ n = omega (arith, p) in
            record {
              long = ap length same ∙ f.long;
              within = rw (same, count) w;
              gives = rw (same, count) (no_more (take n table) x {m = length table - n} (omega arith) rest ∙ value_there v);
            }

pub ends : (all : List (List ℕ)) (table₀ table : List Float) (k n : ℕ) → Filling all table₀ table k n → k ≡ length all → Fills (Some n) table (each_of all)
unfolding each_of
ends all table₀ table k n f h =
    record {
      gives =
          ap (λ (l : List Float). Some l) (sym (append-nil (take n table)) ∙ ap (λ (l : List Float). take n table ++ l) (sym (take-nil (length table - n))))
          ∙ ap (λ (l : List (List ℕ)). joined_to (take n table) (length table - n) (each_of l)) (sym (drop_of_length-le all (omega arith)))
          ∙ f.gives;
      within = f.within;
    }

-- ---- the line

pub no_values : (line content : List ℕ) (table : List Float) → content ≡ take (content_length line) line → length content ≡ 0 → Fills (Some 0) table (values_of line)
unfolding values_of split
no_values line content table e h =
    record {
      gives =
          let empty : content ≡ [] = length-zero content h in
          let given : values_in (fields line) ≡ Some [] = ap values_in (split_content line ∙ ap split (sym e ∙ empty)) in
          rw given (ap Some (sym (take-nil (length table))));
      within = omega arith;
    }
  where
    length-zero : (l : List ℕ) → length l ≡ 0 → l ≡ []
    length-zero [] h = refl
    length-zero (b ∷ bs) h = absurd (omega arith)

-- where something is given, each field has a value
each_field : (bytes : List ℕ) → 0 < length bytes → each_of (split bytes) ≡ values_in (split bytes)
unfolding split
each_field [] h = absurd (omega arith)
each_field (b ∷ bs) h = go (eqb b 32) (split bs) (some_field bs)
  where
    go : (t : Bool) (l : List (List ℕ)) → 0 < length l → each_of (cond t ([] ∷ l) (joined b l)) ≡ values_in (cond t ([] ∷ l) (joined b l))
    go true [] k = absurd (omega arith)
    go true (f ∷ fs) k = refl
    go false [] k = refl
    go false (f ∷ fs) k = refl

pub values_given : (line content : List ℕ) → content ≡ take (content_length line) line → (length content ≡ 0 → ⊥) → each_of (split content) ≡ values_of line
unfolding values_of
values_given line content e some = each_field content (omega arith) ∙ ap (λ (l : List ℕ). values_in (split l)) e ∙ ap values_in (sym (split_content line))
