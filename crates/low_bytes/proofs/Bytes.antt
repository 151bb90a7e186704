-- Numbers as bytes, low byte first: what is written reads back, and what is read is what stands there.
-- Assumes nothing.
use mathlib.Core.Path.{◌≡◌, refl, sym, ap, ap₂, ◌∙◌, subst, subst⁻¹}
use mathlib.Core.List.{List, [], ◌∷◌, ◌++◌}
use Prim.Native.Nat.{ℕ, zero, suc, ◌+◌, ◌*◌, ◌/◌, ◌%◌, ◌^◌, ◌<◌, ◌≤◌}
use native.Mathlib.Nat.{pow-suc, suc-add, zero-add}
use native.Mathlib.Omega.{arith}
use lib.ListN.{length, get_or, take, drop}
use lib.Seq.{drop-cons}
use Rattle.low_bytes.specs.LowBytes.{low_bytes, number_at, AreBytes}

pub length_bytes : (k x : ℕ) → length (low_bytes k x) ≡ k
length_bytes zero x = refl
length_bytes (suc k) x = ap suc (length_bytes k (x / 256))

-- a number is read behind what stands before it
number_after_one : (k b : ℕ) (bs : List ℕ) (i : ℕ) → number_at k (b ∷ bs) (suc i) ≡ number_at k bs i
number_after_one zero b bs i = refl
number_after_one (suc k) b bs i = ap (λ x. get_or bs i 0 + 256 * x) (number_after_one k b bs (suc i))

pub number_after_lem : (k : ℕ) (xs bs : List ℕ) (i : ℕ) → number_at k (xs ++ bs) (length xs + i) ≡ number_at k bs i
number_after_lem k [] bs i = ap (number_at k bs) (zero-add i)
number_after_lem k (x ∷ xs) bs i = ap (number_at k (x ∷ (xs ++ bs))) (suc-add (length xs) i) ∙ number_after_one k x (xs ++ bs) (length xs + i) ∙ number_after_lem k xs bs i

pub number_of_bytes : (k x : ℕ) (bs : List ℕ) → x < 256 ^ k → number_at k (low_bytes k x ++ bs) 0 ≡ x
number_of_bytes zero x bs l = omega arith
number_of_bytes (suc k) x bs l =
    let fits : x < 256 ^ k * 256 = subst (λ y. x < y) (pow-suc 256 k) l in
    let rest : number_at k (x % 256 ∷ (low_bytes k (x / 256) ++ bs)) 1 ≡ x / 256 =
    number_after_one k (x % 256) (low_bytes k (x / 256) ++ bs) 0 ∙ number_of_bytes k (x / 256) bs (omega arith) in
    ap (λ y. x % 256 + 256 * y) rest ∙ joined x
  where
    joined : (x : ℕ) → x % 256 + 256 * (x / 256) ≡ x
    joined x = omega arith

pub number_fits : (k : ℕ) (bs : List ℕ) → AreBytes bs → (i : ℕ) → number_at k bs i < 256 ^ k
number_fits zero bs b i = omega arith
number_fits (suc k) bs b i =
    let first : get_or bs i 0 < 256 = b i in
    let rest : number_at k bs (suc i) < 256 ^ k = number_fits k bs b (suc i) in
    subst⁻¹ (λ y. get_or bs i 0 + 256 * number_at k bs (suc i) < y) (pow-suc 256 k) (omega arith)

pub bytes_of_number : (k : ℕ) (bs : List ℕ) → AreBytes bs → (i : ℕ) → i + k ≤ length bs → low_bytes k (number_at k bs i) ≡ take k (drop i bs)
bytes_of_number zero bs b i l = refl
bytes_of_number (suc k) bs b i l =
    ap₂ {C = List ℕ} (λ x xs. x ∷ xs)
    (low (get_or bs i 0) (number_at k bs (suc i)) (b i))
    (ap (low_bytes k) (high (get_or bs i 0) (number_at k bs (suc i)) (b i)) ∙ bytes_of_number k bs b (suc i) (omega arith))
    ∙ sym (ap (take (suc k)) (drop-cons bs i 0 (omega arith)))
  where
    low : (x y : ℕ) → x < 256 → (x + 256 * y) % 256 ≡ x
    low x y l = omega arith

    high : (x y : ℕ) → x < 256 → (x + 256 * y) / 256 ≡ y
    high x y l = omega arith

pub bytes_append : (xs ys : List ℕ) → AreBytes xs → AreBytes ys → AreBytes (xs ++ ys)
bytes_append [] ys a b i = b i
bytes_append (x ∷ xs) ys a b zero = a 0
bytes_append (x ∷ xs) ys a b (suc i) = bytes_append xs ys (λ j. a (suc j)) b i

pub bytes_are_bytes : (k x : ℕ) → AreBytes (low_bytes k x)
bytes_are_bytes zero x i = omega arith
bytes_are_bytes (suc k) x zero = omega arith
bytes_are_bytes (suc k) x (suc i) = bytes_are_bytes k (x / 256) i
