-- A strip cut at a place: the key that stands there, and the rest.
-- Assumes nothing.
use mathlib.Core.Path.{◌≡◌, refl, sym, ap, ap₂, ◌∙◌, subst}
use mathlib.Core.Bool.{cond}
use mathlib.Core.List.{List, [], ◌∷◌}
use Prim.Native.Nat.{ℕ, zero, suc, ◌+◌, ◌-◌, ◌*◌, ◌^◌, ◌≤◌, ◌<◌}
use native.Mathlib.Omega.{arith}
use lib.Dec.{leb}
use lib.ListN.{length, get_or, drop, length-drop}
use lib.Seq.{drop-cons, drop-drop, get_or-drop, drop-length}
use borrow.Author.Tests.{le-leb, lt-leb}
use Rattle.low_bytes.specs.LowBytes.{number_at, AreBytes}
use Rattle.low_bytes.proofs.Bytes.{number_fits}
use Rattle.pool.specs.Nodes.{greatest_variable}
use Rattle.pool.specs.declared.node.Node.{Node}
use Rattle.pool.specs.declared.node.Node.TheVariants.{Empty, Variable}
use Rattle.key_strip.specs.Machine.{following, key_of, keys_within, keys_of}
use Rattle.key_strip.proofs.Taking.{enough}
use Rattle.strip_run.specs.Keys.{KeyAt}
use Rattle.strip_run.proofs.Codes.{few_follow, no_width, no_code, variable_key}

number_in_drop : (k n : ℕ) (s : List ℕ) (i : ℕ) → number_at k (drop n s) i ≡ number_at k s (n + i)
number_in_drop zero n s i = refl
number_in_drop (suc k) n s i =
    ap₂ (λ x y. x + 256 * y) (get_or-drop n s i 0) (number_in_drop k n s (suc i) ∙ ap (number_at k s) (next n i))
  where
    next : (n i : ℕ) → n + suc i ≡ suc (n + i)
    next n i = omega arith

keys_of_cons : (code : ℕ) (bs : List ℕ)
    → keys_of (code ∷ bs) ≡ cond (leb (following code) (length bs)) (key_of code (number_at (following code) bs 0) ∷ keys_within (length bs) (drop (following code) bs)) (Empty ∷ [])
unfolding keys_within
keys_of_cons code bs = refl

module _ (s : List ℕ) (at : ℕ) (l : at < length s) where
  pub key_there : following (get_or s at 0) ≤ length s - (at + 1)
      → keys_of (drop at s) ≡ key_of (get_or s at 0) (number_at (following (get_or s at 0)) s (at + 1)) ∷ keys_of (drop (at + 1 + following (get_or s at 0)) s)
  key_there fits =
      let k = following (get_or s at 0) in
      let bs = drop (suc at) s in
      let long : length bs ≡ length s - suc at = length-drop (suc at) s in
      let here : k ≤ length bs = omega arith in
      let more : suc at + k ≡ at + 1 + k = omega arith in
      let place : suc at + 0 ≡ at + 1 = omega arith in
      ap keys_of (drop-cons s at 0 l)
      ∙ keys_of_cons (get_or s at 0) bs
      ∙ ap (λ t. cond t (key_of (get_or s at 0) (number_at k bs 0) ∷ keys_within (length bs) (drop k bs)) (Empty ∷ [])) (le-leb k (length bs) here)
      ∙ ap₂ {C = List Node} (λ n rest. n ∷ rest)
      (ap (key_of (get_or s at 0)) (number_in_drop k (suc at) s 0 ∙ ap (number_at k s) place))
      (enough (length bs) (length (drop k bs)) (drop k bs) (omega (arith, length-drop k bs)) (omega arith)
      ∙ ap keys_of (drop-drop k (suc at) s ∙ ap (λ n. drop n s) more))

  pub key_cut : length s - (at + 1) < following (get_or s at 0) → keys_of (drop at s) ≡ Empty ∷ keys_of (drop (length s) s)
  unfolding keys_within
  key_cut short =
      let k = following (get_or s at 0) in
      let bs = drop (suc at) s in
      let long : length bs ≡ length s - suc at = length-drop (suc at) s in
      let here : length bs < k = omega arith in
      ap keys_of (drop-cons s at 0 l)
      ∙ keys_of_cons (get_or s at 0) bs
      ∙ ap (λ t. cond t (key_of (get_or s at 0) (number_at k bs 0) ∷ keys_within (length bs) (drop k bs)) (Empty ∷ [])) (lt-leb k (length bs) here)
      ∙ ap (λ rest. Empty ∷ rest) (sym (ap keys_of (drop-length s)))

-- what key_at answers
module _ (s : List ℕ) (at : ℕ) (l : at < length s) {k : ℕ} (wide : k ≡ following (get_or s at 0)) where
  pub cut_off : length s - (at + 1) < k → KeyAt s at (record { node = Empty; next = length s })
  cut_off short = record { later = l; within = omega arith; first = key_cut s at l (rw wide at short) }

  pub fits_there : k ≤ length s - (at + 1) → (k ≤ 8) × (at + 1 + k ≤ length s)
  fits_there fits = (rw wide (few_follow (get_or s at 0)), omega arith)

  pub number_small : AreBytes s → {x : ℕ} → x ≡ number_at k s (at + 1) → x < 256 ^ following (get_or s at 0)
  number_small are e = rw (e, wide) (number_fits (following (get_or s at 0)) s are (at + 1))

  pub found : k ≤ length s - (at + 1) → {x : ℕ} → x ≡ number_at k s (at + 1) → {n : Node} → n ≡ key_of (get_or s at 0) x → KeyAt s at (record { node = n; next = at + 1 + k })
  found fits {x} e {n} is =
      record {
        later = omega arith;
        within = omega arith;
        first =
            key_there s at l (rw wide at fits)
            ∙ ap₂ {C = List Node} (λ m rest. m ∷ rest)
            (sym (is ∙ ap (key_of (get_or s at 0)) (e ∙ ap (λ j. number_at j s (at + 1)) wide)))
            (ap (λ j. keys_of (drop (at + 1 + j) s)) (sym wide));
      }

-- the same where the code is known
module _ (s : List ℕ) (at : ℕ) (l : at < length s) {m : ℕ} (is : get_or s at 0 ≡ m) where
  pub key_of_code : following m ≤ length s - (at + 1) → keys_of (drop at s) ≡ key_of m (number_at (following m) s (at + 1)) ∷ keys_of (drop (at + 1 + following m) s)
  key_of_code = subst (λ c. following c ≤ length s - (at + 1) → keys_of (drop at s) ≡ key_of c (number_at (following c) s (at + 1)) ∷ keys_of (drop (at + 1 + following c) s)) is (key_there s at l)

  pub code_cut : length s - (at + 1) < following m → keys_of (drop at s) ≡ Empty ∷ keys_of (drop (length s) s)
  code_cut = subst (λ c. length s - (at + 1) < following c → keys_of (drop at s) ≡ Empty ∷ keys_of (drop (length s) s)) is (key_cut s at l)

  -- a code that nothing follows
  pub code_alone : following m ≡ 0 → keys_of (drop at s) ≡ key_of m 0 ∷ keys_of (drop (at + 1) s)
  code_alone none = (rw none at key_of_code) (omega arith) ∙ ap (λ i. key_of m 0 ∷ keys_of (drop i s)) here
    where
      here : at + 1 + 0 ≡ at + 1
      here = omega arith

-- a variable's number is never too great, having two bytes; and a code that is none of the seven is no key
module _ (s : List ℕ) (at : ℕ) (l : at < length s) where
  pub variable_first : get_or s at 0 ≡ 1 → AreBytes s → 2 ≤ length s - (at + 1) → keys_of (drop at s) ≡ Variable (number_at 2 s (at + 1)) ∷ keys_of (drop (at + 1 + 2) s)
  unfolding following
  variable_first is bytes fits =
      let x = number_at 2 s (at + 1) in
      let small : x ≤ greatest_variable = omega (arith, number_fits 2 s bytes (at + 1)) in
      key_of_code s at l is fits ∙ ap (λ key. key ∷ keys_of (drop (at + 1 + 2) s)) (variable_key x small)

  pub unknown_first : (get_or s at 0 ≡ 1 → ⊥) → (get_or s at 0 ≡ 2 → ⊥) → (get_or s at 0 ≡ 8 → ⊥) → (get_or s at 0 ≡ 3 → ⊥) → (get_or s at 0 ≡ 4 → ⊥) → (get_or s at 0 ≡ 5 → ⊥) → (get_or s at 0 ≡ 9 → ⊥)
      → keys_of (drop at s) ≡ Empty ∷ keys_of (drop (at + 1 + following (get_or s at 0)) s)
  unknown_first a b c d e f g =
      let k = following (get_or s at 0) in
      let none : 0 ≡ k = no_width (get_or s at 0) a b c in
      key_there s at l (omega arith) ∙ ap (λ key. key ∷ keys_of (drop (at + 1 + k) s)) (sym (no_code (get_or s at 0) _ a b c d e f g))
