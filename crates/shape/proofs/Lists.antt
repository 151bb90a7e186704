-- Lists of numbers: what stands in them, and what holds of each. Membership is the test `has` of the definitions throughout.
-- Assumes nothing.
use mathlib.Core.Path.{◌≡◌, refl, sym, ap, ap₂, ◌∙◌, subst, subst⁻¹}
use mathlib.Core.Logic.{◌⊎◌, inl, inr, ⊎_elim}
use mathlib.Core.Bool.{Bool, true, false, ◌||◌, true≢false, false≢true}
use mathlib.Core.List.{List, [], ◌∷◌, ◌++◌, map, reverse, reverse-cons}
use Prim.Native.Nat.{ℕ, ◌<◌, ◌≤◌}
use lib.Dec.{eqb, ltb}
use borrow.Author.Tests.{eq-eqb, eqb-true, eqb-false, ltb-true, ltb-false}
use Rattle.shape.specs.Shape.{has}

-- tests
pub or_left : (a b : Bool) → a ≡ true → (a || b) ≡ true
or_left a b e = rw e

pub or_right : (a b : Bool) → b ≡ true → (a || b) ≡ true
or_right true b e = refl
or_right false b e = e

pub or_either : (a b : Bool) → (a || b) ≡ true → (a ≡ true) ⊎ (b ≡ true)
or_either true b e = inl refl
or_either false b e = inr e

pub true_or_false : (t : Bool) → (t ≡ true) ⊎ (t ≡ false)
true_or_false true = inl refl
true_or_false false = inr refl

pub not_both : {t : Bool} → t ≡ true → t ≡ false → ⊥
not_both e f = true≢false (sym e ∙ f)

pub not_true_false : (t : Bool) → (t ≡ true → ⊥) → t ≡ false
not_true_false true h = absurd (h refl)
not_true_false false h = refl

pub same_tests : (s t : Bool) → (s ≡ true → t ≡ true) → (t ≡ true → s ≡ true) → s ≡ t
same_tests true t f g = sym (f refl)
same_tests false true f g = g refl
same_tests false false f g = refl

pub same_or_not : (i j : ℕ) → (i ≡ j) ⊎ (i ≡ j → ⊥)
same_or_not i j = go (eqb i j) refl
  where
    go : (t : Bool) → eqb i j ≡ t → (i ≡ j) ⊎ (i ≡ j → ⊥)
    go true e = inl (eqb-true i j e)
    go false e = inr (eqb-false i j e)

pub below_or_not : (m n : ℕ) → (m < n) ⊎ (n ≤ m)
below_or_not m n = go (ltb m n) refl
  where
    go : (t : Bool) → ltb m n ≡ t → (m < n) ⊎ (n ≤ m)
    go true e = inl (ltb-true m n e)
    go false e = inr (ltb-false m n e)

-- membership
pub here : (i : ℕ) (xs : List ℕ) → has (i ∷ xs) i ≡ true
here i xs = or_left (eqb i i) (has xs i) (eq-eqb i i refl)

pub further : (j : ℕ) (xs : List ℕ) (i : ℕ) → has xs i ≡ true → has (j ∷ xs) i ≡ true
further j xs i h = or_right (eqb i j) (has xs i) h

pub here_or_further : (j : ℕ) (xs : List ℕ) (i : ℕ) → has (j ∷ xs) i ≡ true → (i ≡ j) ⊎ (has xs i ≡ true)
here_or_further j xs i h = ⊎_elim (λ e. inl (eqb-true i j e)) (λ m. inr m) (or_either (eqb i j) (has xs i) h)

-- what holds of each number of a list
abbrev pub All : (ℕ → Type 0) → List ℕ → Type 0
All P xs = (i : ℕ) → has xs i ≡ true → P i

pub all_none : (P : ℕ → Type 0) → All P []
all_none P i h = absurd (false≢true h)

pub all_first : (P : ℕ → Type 0) (j : ℕ) (xs : List ℕ) → All P (j ∷ xs) → P j
all_first P j xs h = h j (here j xs)

pub all_rest : (P : ℕ → Type 0) (j : ℕ) (xs : List ℕ) → All P (j ∷ xs) → All P xs
all_rest P j xs h i m = h i (further j xs i m)

pub all_with : (P : ℕ → Type 0) (j : ℕ) (xs : List ℕ) → P j → All P xs → All P (j ∷ xs)
all_with P j xs f r i h = ⊎_elim (λ e. subst⁻¹ P e f) (λ m. r i m) (here_or_further j xs i h)

-- membership in a renamed list
pub has_map : (f : ℕ → ℕ) (xs : List ℕ) (i : ℕ) → has xs i ≡ true → has (map f xs) (f i) ≡ true
has_map f [] = all_none (λ i. has [] (f i) ≡ true)
has_map f (x ∷ xs) =
    all_with (λ i. has (map f (x ∷ xs)) (f i) ≡ true) x xs (here (f x) (map f xs)) (λ i m. further (f x) (map f xs) (f i) (has_map f xs i m))

pub of_map : (f : ℕ → ℕ) (xs : List ℕ) (j : ℕ) → has (map f xs) j ≡ true → (i : ℕ) × (has xs i ≡ true) × (f i ≡ j)
of_map f [] j h = absurd (false≢true h)
of_map f (x ∷ xs) j h =
    ⊎_elim (λ e. (x, here x xs, sym e)) (λ m. let r = of_map f xs j m in (r.0, further x xs r.0 r.1, r.2)) (here_or_further (f x) (map f xs) j h)

pub all_map : (P : ℕ → Type 0) (f : ℕ → ℕ) (xs : List ℕ) → All (λ i. P (f i)) xs → All P (map f xs)
all_map P f xs h j m = let r = of_map f xs j m in subst P r.2 (h r.0 r.1)

pub map_alike : {B : Type 0} (f g : ℕ → B) (xs : List ℕ) → All (λ i. f i ≡ g i) xs → map f xs ≡ map g xs
map_alike f g [] h = refl
map_alike {B} f g (x ∷ xs) h = ap₂ {C = List B} (λ y ys. y ∷ ys) (all_first (λ i. f i ≡ g i) x xs h) (map_alike f g xs (all_rest (λ i. f i ≡ g i) x xs h))

pub map_same : (f : ℕ → ℕ) (xs : List ℕ) → All (λ i. f i ≡ i) xs → map f xs ≡ xs
map_same f [] h = refl
map_same f (x ∷ xs) h = ap₂ {C = List ℕ} (λ y ys. y ∷ ys) (all_first (λ i. f i ≡ i) x xs h) (map_same f xs (all_rest (λ i. f i ≡ i) x xs h))

-- reversed lists
pub of_append : (xs ys : List ℕ) (i : ℕ) → has (xs ++ ys) i ≡ true → (has xs i ≡ true) ⊎ (has ys i ≡ true)
of_append [] ys i h = inr h
of_append (x ∷ xs) ys i h =
    ⊎_elim
    (λ e. inl (or_left (eqb i x) (has xs i) (eq-eqb i x e)))
    (λ m. ⊎_elim (λ m. inl (further x xs i m)) (λ m. inr m) (of_append xs ys i m))
    (here_or_further x (xs ++ ys) i h)

pub of_reverse : (xs : List ℕ) (i : ℕ) → has (reverse xs) i ≡ true → has xs i ≡ true
of_reverse [] i h = h
of_reverse (x ∷ xs) i h =
    ⊎_elim
    (λ m. further x xs i (of_reverse xs i m))
    (λ m. all_with (λ j. has (x ∷ xs) j ≡ true) x [] (here x xs) (all_none (λ j. has (x ∷ xs) j ≡ true)) i m)
    (of_append (reverse xs) (x ∷ []) i (subst (λ ys. has ys i ≡ true) (reverse-cons x xs) h))

pub map_append : {A B : Type 0} (f : A → B) (xs ys : List A) → map f (xs ++ ys) ≡ map f xs ++ map f ys
map_append f [] ys = refl
map_append {B = B} f (x ∷ xs) ys = ap {B = List B} (λ r. f x ∷ r) (map_append f xs ys)

pub map_reverse : {A B : Type 0} (f : A → B) (xs : List A) → map f (reverse xs) ≡ reverse (map f xs)
map_reverse f [] = refl
map_reverse f (x ∷ xs) =
    ap (map f) (reverse-cons x xs) ∙ map_append f (reverse xs) (x ∷ []) ∙ ap (λ ys. ys ++ (f x ∷ [])) (map_reverse f xs) ∙ sym (reverse-cons (f x) (map f xs))
