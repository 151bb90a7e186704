-- What is written for a key is taken off the front of a strip as that key, whatever follows: the code says how many bytes are its own.
-- Assumes nothing.
use mathlib.Core.Path.{◌≡◌, refl, ap, ap₂, ◌∙◌, subst⁻¹}
use mathlib.Core.Logic.{⊎_elim}
use mathlib.Core.Bool.{true, ◌||◌, cond}
use mathlib.Core.List.{List, [], ◌∷◌, ◌++◌}
use Prim.Native.Nat.{ℕ, zero, suc, ◌^◌, ◌≤◌, ◌<◌}
use native.Mathlib.Nat.{not-suc-le-zero}
use native.Mathlib.Omega.{arith}
use lib.Dec.{leb, eqb}
use lib.IntN.{ℤ}
use lib.ListN.{length, drop, length-append, length-drop}
use lib.Seq.{drop_at}
use borrow.Author.Tests.{le-leb, eqb-true}
use Rattle.literal.specs.Literal.{is_literal, word}
use Rattle.low_bytes.specs.LowBytes.{low_bytes, number_at}
use Rattle.low_bytes.proofs.Bytes.{length_bytes, number_of_bytes}
use Rattle.pool.specs.Nodes.{decode, is_node, greatest_variable, least_exponent, greatest_exponent}
use Rattle.pool.specs.declared.node.Node.{Node}
use Rattle.pool.specs.declared.node.Node.TheVariants.{Empty, Variable, Lit, Pow}
use Rattle.shape.proofs.Lists.{or_either}
use Rattle.shape.proofs.TableOfKinds.{decode_own, word_fits}
use Rattle.key_strip.specs.Strip.{combines}
use Rattle.key_strip.specs.Machine.{following, key_of, keys_within, keys_of, taken}

-- any bound that is not less than the length gives the same keys
pub enough : (k m : ℕ) (bs : List ℕ) → length bs ≤ k → length bs ≤ m → keys_within k bs ≡ keys_within m bs
unfolding keys_within
enough zero zero bs h l = refl
enough zero (suc m) [] h l = refl
enough zero (suc m) (c ∷ bs) h l = absurd (not-suc-le-zero h)
enough (suc k) zero [] h l = refl
enough (suc k) zero (c ∷ bs) h l = absurd (not-suc-le-zero l)
enough (suc k) (suc m) [] h l = refl
enough (suc k) (suc m) (c ∷ bs) h l =
    let shorter = length-drop (following c) bs in
    ap (λ more. cond (leb (following c) (length bs)) (key_of c (number_at (following c) bs 0) ∷ more) (Empty ∷ []))
    (enough k m (drop (following c) bs) (omega (arith, shorter)) (omega (arith, shorter)))

-- these bytes are one key
pub record Takes (own : List ℕ) (key : Node) : Type 0 where
  pub takes : (rest : List ℕ) → keys_of (own ++ rest) ≡ key ∷ keys_of rest
  pub is_key : is_node key ≡ true

-- a code with the bytes of a number that fits
taken_off :
    (code k x : ℕ) (key : Node) (rest : List ℕ) → following code ≡ k → x < 256 ^ k → key_of code x ≡ key → keys_of ((code ∷ low_bytes k x) ++ rest) ≡ key ∷ keys_of rest
unfolding keys_within
taken_off code k x key rest wide fits is =
    let own = low_bytes k x in
    let long = length-append own rest in
    rw wide
    (rw (le-leb k (length (own ++ rest)) (omega (arith, long, length_bytes k x)))
    (ap₂ {C = List Node} (λ n more. n ∷ more)
    (ap (key_of code) (number_of_bytes k x rest fits) ∙ is)
    (ap (keys_within (length (own ++ rest))) (drop_at own rest k (length_bytes k x)) ∙ enough (length (own ++ rest)) (length rest) rest (omega (arith, long)) (omega arith))))

-- the four ways in which a key is written
pub variable_taken : (v : ℕ) → v ≤ greatest_variable → Takes (1 ∷ low_bytes 2 v) (Variable v)
unfolding following key_of
variable_taken v l =
    record {
      takes = λ rest. taken_off 1 2 v (Variable v) rest refl (omega arith) (decode_own (Variable v) l);
      is_key = refl;
    }

pub literal_taken : (z : ℤ) → is_literal z ≡ true → Takes (2 ∷ low_bytes 8 (word z)) (Lit z)
unfolding following key_of
literal_taken z l =
    record {
      takes = λ rest. taken_off 2 8 (word z) (Lit z) rest refl (word_fits (Lit z) l) (decode_own (Lit z) l);
      is_key = refl;
    }

pub exponent_taken : (e : ℕ) → least_exponent ≤ e → e ≤ greatest_exponent → Takes (8 ∷ low_bytes 4 e) (Pow 0 e)
unfolding following key_of
exponent_taken e l m =
    record {
      takes = λ rest. taken_off 8 4 e (Pow 0 e) rest refl (omega arith) (decode_own (Pow 0 e) (omega arith, omega arith, l));
      is_key = refl;
    }

-- "3, 4, 5 and 9": what holds of each of the four
pub of_the_four : (P : ℕ → Type 0) → P 3 → P 4 → P 5 → P 9 → (code : ℕ) → combines code ≡ true → P code
of_the_four P three four five nine code is =
    ⊎_elim (at 3 three) (λ r.
    ⊎_elim (at 4 four) (λ r. ⊎_elim (at 5 five) (at 9 nine) (or_either (eqb code 5) (eqb code 9) r)) (or_either (eqb code 4) (eqb code 5 || eqb code 9) r))
    (or_either (eqb code 3) (eqb code 4 || (eqb code 5 || eqb code 9)) is)
  where
    at : (n : ℕ) → P n → eqb code n ≡ true → P code
    at n p e = subst⁻¹ P (eqb-true code n e) p

-- the key of a code that nothing follows
abbrev pub key_alone : ℕ → Node
key_alone code = key_of code 0

abbrev TakesTwo : ℕ → Type 0
TakesTwo code = Takes (code ∷ []) (key_alone code) × (taken (key_alone code) ≡ 2)

pub code_taken : (code : ℕ) → combines code ≡ true → TakesTwo code
unfolding decode key_of following
code_taken = of_the_four TakesTwo (two 3 refl refl refl) (two 4 refl refl refl) (two 5 refl refl refl) (two 9 refl refl refl)
  where
    two : (code : ℕ) → following code ≡ 0 → is_node (key_alone code) ≡ true → taken (key_alone code) ≡ 2 → TakesTwo code
    two code wide key takes =
        (record { takes = λ rest. taken_off code 0 0 (key_alone code) rest wide (omega arith) refl; is_key = key }, takes)
