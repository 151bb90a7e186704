-- The test of one key in the code decides as the definition does: by the places in use, and by what follows the code.
-- Assumes nothing.
use Rattle.std.specs.Prelude.{Option, None}
use mathlib.Core.Path.{◌≡◌, refl, sym, ap, ◌∙◌}
use mathlib.Core.Bool.{Bool, true, false, cond}
use mathlib.Core.List.{List, ◌∷◌}
use Prim.Native.Nat.{ℕ, ◌+◌, ◌-◌, ◌≤◌, ◌<◌}
use native.Mathlib.Omega.{arith}
use lib.Dec.{eqb, ltb}
use lib.ListN.{length, get_or, drop, drop_of_length-le}
use borrow.Author.Tests.{ltb-true, ltb-false, eqb-true, eqb-false}
use Rattle.low_bytes.specs.LowBytes.{number_at, AreBytes}
use Rattle.literal.specs.Literal.{is_literal, signed}
use Rattle.pool.specs.Nodes.{is_node, least_exponent}
use Rattle.pool.specs.declared.node.Node.{Node}
use Rattle.pool.specs.declared.node.Node.TheVariants.{Empty, Variable, Lit, Pow}
use Rattle.key_strip.specs.Strip.{most_places}
use Rattle.key_strip.specs.Machine.{following, key_of, keys_within, keys_of, taken, accepts, is_strip}
use Rattle.strip_run.specs.Testing.{Testing, TestedTo, on, one_place_more, one_place_less, literal_tested, exponent_tested}
use Rattle.strip_run.specs.declared.testing.Passed.{Passed}
use Rattle.strip_run.proofs.Codes.{literal_key, no_literal_key, power_key, no_power_key, combining_codes}
use Rattle.strip_run.proofs.Cut.{key_of_code, code_cut, code_alone, variable_first, unknown_first}
use Rattle.strip_run.proofs.Accepting.{no_key_refused, missing_refused, full_refused, key_accepted}

pub testing_starts : (s : List ℕ) → Testing s 0 0
testing_starts s = record { within = omega arith; small = omega arith; rest = refl }

pub testing_ends : {s : List ℕ} {at d : ℕ} → Testing s at d → length s ≤ at → eqb d 1 ≡ is_strip s
unfolding accepts keys_within
testing_ends {s} {at} {d} t l = sym (t.rest ∙ ap (λ bs. accepts d (keys_of bs)) (drop_of_length-le s l))

-- a key stands at the place, and the rest of the strip after it
module _ {s : List ℕ} {at d : ℕ} (t : Testing s at d) (key : Node) (next : ℕ) (first : keys_of (drop at s) ≡ key ∷ keys_of (drop next s)) where
  decided : (v : Bool) → accepts d (key ∷ keys_of (drop next s)) ≡ v → is_strip s ≡ v
  decided v e = t.rest ∙ ap (accepts d) first ∙ e

  no_key_here : is_node key ≡ false → is_strip s ≡ false
  no_key_here e = decided false (no_key_refused d key (keys_of (drop next s)) e)

  module _ (is : is_node key ≡ true) (later : at < next) (within : next ≤ length s) where
    goes_on : (e : ℕ) → taken key ≤ d → e ≡ d - taken key + 1 → e ≤ most_places → TestedTo s at (on next e)
    goes_on e enough after room = (
      later,
      record {
        within = within;
        small = room;
        rest = t.rest ∙ ap (accepts d) first ∙ key_accepted d key (keys_of (drop next s)) is enough (rw after at room) ∙ ap (λ n. accepts n (keys_of (drop next s))) (sym after);
      },
    )

    leaf_tested : taken key ≡ 0 → TestedTo s at (one_place_more d next)
    unfolding one_place_more
    leaf_tested none = go (ltb d most_places) refl
      where
        go : (b : Bool) → ltb d most_places ≡ b → TestedTo s at (cond b (on next (d + 1)) None)
        go true e = let room = ltb-true d most_places e in goes_on (d + 1) (omega arith) (omega arith) (omega arith)
        go false e = let full = ltb-false d most_places e in decided false (full_refused d key (keys_of (drop next s)) (omega arith))

    pair_tested : taken key ≡ 2 → TestedTo s at (one_place_less d next)
    unfolding one_place_less
    pair_tested two = go (ltb d 2) refl
      where
        go : (b : Bool) → ltb d 2 ≡ b → TestedTo s at (cond b None (on next (d - 1)))
        go true e = let few = ltb-true d 2 e in decided false (missing_refused d key (keys_of (drop next s)) (omega arith))
        go false e = let enough = ltb-false d 2 e in goes_on (d - 1) (omega arith) (omega arith) (omega (arith, t.small))

    base_tested : taken key ≡ 1 → TestedTo s at (cond (eqb d 0) None (on next d))
    base_tested one = go (eqb d 0) refl
      where
        go : (b : Bool) → eqb d 0 ≡ b → TestedTo s at (cond b None (on next d))
        go true e = let none = eqb-true d 0 e in decided false (missing_refused d key (keys_of (drop next s)) (omega arith))
        go false e = let some = eqb-false d 0 e in goes_on d (omega arith) (omega arith) t.small

-- the answers of the code, one by one
module _ {s : List ℕ} {at d : ℕ} (t : Testing s at d) (l : at < length s) where
  pub cut_tested : {m : ℕ} → get_or s at 0 ≡ m → length s - (at + 1) < following m → is_strip s ≡ false
  cut_tested is short = no_key_here t Empty (length s) (code_cut s at l is short) refl

  pub variable_tested : get_or s at 0 ≡ 1 → AreBytes s → 2 ≤ length s - (at + 1) → {r : Option Passed} → r ≡ one_place_more d (at + 1 + 2) → TestedTo s at r
  variable_tested is bytes fits e =
      rw e (leaf_tested t (Variable (number_at 2 s (at + 1))) (at + 1 + 2) (variable_first s at l is bytes fits) refl (omega arith) (omega arith) refl)

  pub literal_tested_there : get_or s at 0 ≡ 2 → 8 ≤ length s - (at + 1) → {w : ℕ} → w ≡ number_at 8 s (at + 1) → {r : Option Passed} → r ≡ literal_tested w d (at + 1 + 8) → TestedTo s at r
  unfolding following literal_tested
  literal_tested_there is fits {w} read {r} e = rw e (go (is_literal (signed w)) refl)
    where
      first : (key : Node) → key_of 2 w ≡ key → keys_of (drop at s) ≡ key ∷ keys_of (drop (at + 1 + 8) s)
      first key k = key_of_code s at l is fits ∙ ap (λ n. n ∷ keys_of (drop (at + 1 + 8) s)) (ap (key_of 2) (sym read) ∙ k)

      go : (b : Bool) → is_literal (signed w) ≡ b → TestedTo s at (cond b (one_place_more d (at + 1 + 8)) None)
      go true h = leaf_tested t (Lit (signed w)) (at + 1 + 8) (first _ (literal_key w h)) refl (omega arith) (omega arith) refl
      go false h = no_key_here t Empty (at + 1 + 8) (first _ (no_literal_key w h)) refl

  pub exponent_tested_there : get_or s at 0 ≡ 8 → 4 ≤ length s - (at + 1) → {x : ℕ} → x ≡ number_at 4 s (at + 1) → {r : Option Passed} → r ≡ exponent_tested x d (at + 1 + 4) → TestedTo s at r
  unfolding following exponent_tested
  exponent_tested_there is fits {x} read {r} e = rw e (go (ltb x least_exponent) refl)
    where
      first : (key : Node) → key_of 8 x ≡ key → keys_of (drop at s) ≡ key ∷ keys_of (drop (at + 1 + 4) s)
      first key k = key_of_code s at l is fits ∙ ap (λ n. n ∷ keys_of (drop (at + 1 + 4) s)) (ap (key_of 8) (sym read) ∙ k)

      go : (b : Bool) → ltb x least_exponent ≡ b → TestedTo s at (cond b None (cond (eqb d 0) None (on (at + 1 + 4) d)))
      go true h = no_key_here t Empty (at + 1 + 4) (first _ (no_power_key x (ltb-true x least_exponent h))) refl
      go false h = base_tested t (Pow 0 x) (at + 1 + 4) (first _ (power_key x (ltb-false x least_exponent h))) refl (omega arith) (omega arith) refl

  -- a code that combines
  pub code_tested : {m : ℕ} → get_or s at 0 ≡ m → following m ≡ 0 → is_node (key_of m 0) ≡ true → taken (key_of m 0) ≡ 2 → {r : Option Passed} → r ≡ one_place_less d (at + 1) → TestedTo s at r
  code_tested {m} is none node two e = rw e (pair_tested t (key_of m 0) (at + 1) (code_alone s at l is none) node (omega arith) (omega arith) two)

  unknown_tested : (get_or s at 0 ≡ 1 → ⊥) → (get_or s at 0 ≡ 2 → ⊥) → (get_or s at 0 ≡ 8 → ⊥) → (get_or s at 0 ≡ 3 → ⊥) → (get_or s at 0 ≡ 4 → ⊥) → (get_or s at 0 ≡ 5 → ⊥) → (get_or s at 0 ≡ 9 → ⊥) → is_strip s ≡ false
  unknown_tested a b c d e f g = no_key_here t Empty (at + 1 + following (get_or s at 0)) (unknown_first s at l a b c d e f g) refl

  pub zero_tested : get_or s at 0 ≡ 0 → is_strip s ≡ false
  zero_tested z = unknown_tested (λ e. omega arith) (λ e. omega arith) (λ e. omega arith) (λ e. omega arith) (λ e. omega arith) (λ e. omega arith) (λ e. omega arith)

  pub above_tested : 6 ≤ get_or s at 0 → (get_or s at 0 ≡ 8 → ⊥) → (get_or s at 0 ≡ 9 → ⊥) → is_strip s ≡ false
  above_tested high no_eight no_nine = unknown_tested (λ e. omega arith) (λ e. omega arith) no_eight (λ e. omega arith) (λ e. omega arith) (λ e. omega arith) no_nine

  pub between_tested : 3 ≤ get_or s at 0 → get_or s at 0 < 6 → {r : Option Passed} → r ≡ one_place_less d (at + 1) → TestedTo s at r
  between_tested low high e =
      let known = combining_codes (get_or s at 0) low high in
      code_tested refl known.0 known.1.0 known.1.1 e
