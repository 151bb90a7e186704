-- The machine's test of a tree's strip, whatever stands below its place and whatever follows: it asks for the tree's places, and goes on with one value more.
-- Assumes nothing.
use mathlib.Core.Path.{◌≡◌, refl, sym, ap, ◌∙◌}
use mathlib.Core.Bool.{Bool, ◌&&◌, and-true}
use mathlib.Core.List.{List, [], ◌++◌, append_assoc, append-nil}
use Prim.Native.Nat.{ℕ, ◌+◌, ◌-◌, ◌≤◌, ◌<◌, max}
use native.Mathlib.Nat.{zero-add}
use native.Mathlib.Omega.{arith}
use native.Mathlib.Decide.{dec_lt}
use lib.Dec.{leb}
use borrow.Author.Tests.{le-leb, lt-leb}
use Rattle.pool.specs.declared.node.Node.{Node}
use Rattle.key_strip.specs.Strip.{most_places}
use Rattle.key_strip.specs.Machine.{keys_within, keys_of, taken, accepts, is_strip}
use Rattle.key_strip.specs.Trees.{StripOfTree, variable, literal, combined, raised}
use Rattle.key_strip.proofs.Taking.{Takes, variable_taken, literal_taken, exponent_taken, code_taken}

-- these bytes need n places and leave one value
pub record Needs (n : ℕ) (bs : List ℕ) : Type 0 where
  pub needs : (d : ℕ) (rest : List ℕ) → accepts d (keys_of (bs ++ rest)) ≡ (leb (d + n) most_places && accepts (d + 1) (keys_of rest))
  pub some : 1 ≤ n

-- a key that takes t values, where these are there
key_tested : {own : List ℕ} {key : Node} → Takes own key → (t d : ℕ) → taken key ≡ t → (rest : List ℕ)
    → accepts (d + t) (keys_of (own ++ rest)) ≡ (leb (d + 1) most_places && accepts (d + 1) (keys_of rest))
unfolding accepts
key_tested key t d takes rest =
    let left : d + t - t + 1 ≡ d + 1 = omega arith in
    ap (accepts (d + t)) (key.takes rest) ∙ rw (key.is_key, takes, le-leb t (d + t) (omega arith), left)

-- of two tests the first is the stronger one
stronger : (a b m : ℕ) (t : Bool) → b ≤ a → (leb a m && (leb b m && t)) ≡ (leb a m && t)
stronger a b m t h = go (dec_lt m a)
  where
    go : Dec (m < a) → (leb a m && (leb b m && t)) ≡ (leb a m && t)
    go (yes l) = rw (lt-leb a m l)
    go (no n) = rw (le-leb a m (omega arith), le-leb b m (omega arith))

-- two tests are that of the greater number
greater : (a b m : ℕ) (t : Bool) → (leb a m && (leb b m && t)) ≡ (leb (max a b) m && t)
greater a b m t = go (dec_lt m a) (dec_lt m b)
  where
    go : Dec (m < a) → Dec (m < b) → (leb a m && (leb b m && t)) ≡ (leb (max a b) m && t)
    go (yes l) u = rw (lt-leb a m l, lt-leb (max a b) m (omega arith))
    go (no n) (yes l) = rw (le-leb a m (omega arith), lt-leb b m l, lt-leb (max a b) m (omega arith))
    go (no n) (no l) = rw (le-leb a m (omega arith), le-leb b m (omega arith), le-leb (max a b) m (omega arith))

leaf_needs : {own : List ℕ} {key : Node} → Takes own key → taken key ≡ 0 → Needs 1 own
leaf_needs {own} key takes =
    record {
      needs = λ d rest. ap (λ n. accepts n (keys_of (own ++ rest))) (plain d) ∙ key_tested key 0 d takes rest;
      some = omega arith;
    }
  where
    plain : (d : ℕ) → d ≡ d + 0
    plain d = omega arith

raised_needs : {own base : List ℕ} {key : Node} {n : ℕ} → Takes own key → taken key ≡ 1 → Needs n base → Needs n (base ++ own)
raised_needs {own} {base} {n = n} key takes part =
    record {
      needs = λ d rest.
          let below : d + 1 ≤ d + n = omega (arith, part.some) in
          ap (λ bs. accepts d (keys_of bs)) (append_assoc base own rest)
          ∙ part.needs d (own ++ rest)
          ∙ ap (λ t. leb (d + n) most_places && t) (key_tested key 1 d takes rest)
          ∙ stronger (d + n) (d + 1) most_places (accepts (d + 1) (keys_of rest)) below;
      some = part.some;
    }

-- the right part runs above the left one's value
combined_needs :
    {own left right : List ℕ} {key : Node} {m n : ℕ} → Takes own key → taken key ≡ 2 → Needs m left → Needs n right → Needs (max m (n + 1)) (left ++ (right ++ own))
combined_needs {own} {left} {right} {m = m} {n} key takes first second =
    record {
      needs = λ d rest.
          let below : d + 1 ≤ d + 1 + n = omega arith in
          let two : d + 1 + 1 ≡ d + 2 = omega arith in
          let both : max (d + m) (d + 1 + n) ≡ d + max m (n + 1) = omega arith in
          let after : Bool = accepts (d + 1) (keys_of rest) in
          ap (λ bs. accepts d (keys_of bs)) (append_assoc left (right ++ own) rest ∙ ap (λ bs. left ++ bs) (append_assoc right own rest))
          ∙ first.needs d (right ++ (own ++ rest))
          ∙ ap (λ t. leb (d + m) most_places && t)
          (second.needs (d + 1) (own ++ rest)
          ∙ ap (λ t. leb (d + 1 + n) most_places && t) (ap (λ p. accepts p (keys_of (own ++ rest))) two ∙ key_tested key 2 d takes rest)
          ∙ stronger (d + 1 + n) (d + 1) most_places after below)
          ∙ greater (d + m) (d + 1 + n) most_places after
          ∙ ap (λ p. leb p most_places && after) both;
      some = omega arith;
    }

pub tree_needs : {n : ℕ} {bs : List ℕ} → StripOfTree n bs → Needs n bs
tree_needs (variable v l) = leaf_needs (variable_taken v l) refl
tree_needs (literal z l) = leaf_needs (literal_taken z l) refl
tree_needs (combined code m n left right is first second) =
    let key = code_taken code is in combined_needs key.0 key.1 (tree_needs first) (tree_needs second)
tree_needs (raised e n base l m part) = raised_needs (exponent_taken e l m) refl (tree_needs part)

-- a tree's strip is accepted where its places are there
pub tree_is_tested : {n : ℕ} {bs : List ℕ} → StripOfTree n bs → is_strip bs ≡ leb n most_places
unfolding accepts keys_within
tree_is_tested {n} {bs} tree =
    ap is_strip (sym (append-nil bs)) ∙ (tree_needs tree).needs 0 [] ∙ and-true (leb (0 + n) most_places) ∙ ap (λ m. leb m most_places) (zero-add n)
