-- What follows of the numbering, on tables whose parts fall: parts before their node, what the root's left part reaches before what only its right part reaches, and the root last. (That the reachable nodes are numbered, each once, is `numbered_are_the_reachable`.)
-- Assumes nothing.
use mathlib.Core.Path.{◌≡◌, refl, sym, ap, ◌∙◌, subst, subst⁻¹}
use mathlib.Core.Logic.{⊎_elim}
use mathlib.Core.Bool.{true}
use mathlib.Core.List.{List, [], ◌∷◌, ◌++◌, append_assoc}
use Prim.Native.Nat.{ℕ, ◌+◌, ◌<◌, ◌≤◌}
use native.Mathlib.Omega.{arith}
use lib.ListN.{length, length-append}
use Rattle.pool.specs.Nodes.{parts}
use Rattle.pool.specs.Pool.{limit}
use Rattle.pool.specs.declared.node.Node.{Node}
use Rattle.shape.specs.Shape.{has, Reach, root, part}
use Rattle.shape.specs.Order.{numbered, num}
use Rattle.shape.specs.Walked.{Falls}
use Rattle.shape.specs.Demand.{Distinct}
use Rattle.shape.proofs.Lists.{here, further, here_or_further, of_append, not_both}
use Rattle.shape.proofs.Numbers.{num_last, num_before, num_below, num_part}
use Rattle.shape.proofs.Entries.{numbered_built, numbered_distinct, numbered_reached, reached_numbered}
use Rattle.shape.proofs.Entries as entries
use Rattle.shape.proofs.Walked.{numbered_from_one, walk_not_done}
use Rattle.writing.specs.Numbering.{LeftRight, Numbers, old, leaf, one, two, InOrder}
use Rattle.writing.proofs.Sides.{only_parts, both_parts}
use Rattle.writing.proofs.Numbering.{one_numbering, walk_numbers, numbered_numbers}

-- a walk only puts nodes before those that are there
pub numbers_more : {p : ℕ → Node} {before after : List ℕ} {i : ℕ} → Numbers p before i after → (new : List ℕ) × (after ≡ new ++ before)
numbers_more (old h) = ([], refl)
numbers_more {i = i} (leaf n s) = (i ∷ [], refl)
numbers_more {i = i} (one n s a) = let (new, e) = numbers_more a in (i ∷ new, ap (λ o. i ∷ o) e)
numbers_more {before = before} {i = i} (two n s a b) =
    let (new, e) = numbers_more a in
    let (newer, f) = numbers_more b in
    (i ∷ (newer ++ new), ap (λ o. i ∷ o) (f ∙ ap (λ o. newer ++ o) e ∙ sym (append_assoc newer new before)))

-- numbers do not change, and later nodes have greater ones
module _ (o : List ℕ) where
  rest_distinct : (new : List ℕ) → Distinct (new ++ o) → Distinct o
  rest_distinct [] d = d
  rest_distinct (x ∷ new) d = rest_distinct new d.1

  further_on : (new : List ℕ) (i : ℕ) → has o i ≡ true → has (new ++ o) i ≡ true
  further_on [] i h = h
  further_on (x ∷ new) i h = further x (new ++ o) i (further_on new i h)

  earlier : (new : List ℕ) → Distinct (new ++ o) → (i : ℕ) → has o i ≡ true → num (new ++ o) i ≡ num o i
  earlier [] d i h = refl
  earlier (x ∷ new) d i h = num_before x (new ++ o) i d.0 (further_on new i h) ∙ earlier new d.1 i h

  later : (new : List ℕ) → Distinct (new ++ o) → (i : ℕ) → has new i ≡ true → length o ≤ num (new ++ o) i
  later [] d i h = absurd (not_both h refl)
  later (x ∷ new) d i h =
      ⊎_elim
      (λ e. subst⁻¹ (λ j. length o ≤ num (x ∷ (new ++ o)) j) e (rw (num_last x (new ++ o), length-append new o) (omega arith)))
      (λ m. rw (num_before x (new ++ o) i d.0 (in_front new i m)) (later new d.1 i m))
      (here_or_further x new i h)
    where
      in_front : (new : List ℕ) (i : ℕ) → has new i ≡ true → has (new ++ o) i ≡ true
      in_front [] i h = absurd (not_both h refl)
      in_front (x ∷ new) i h = ⊎_elim (λ e. subst⁻¹ (λ j. has (x ∷ (new ++ o)) j ≡ true) e (here x (new ++ o))) (λ m. further x (new ++ o) i (in_front new i m)) (here_or_further x new i h)

module _ (p : ℕ → Node) (falls : Falls p) (r : ℕ) (l : r < limit) where
  abbrev order : List ℕ
  order = numbered p (r ∷ [])

  part_before : (i j : ℕ) → Reach p (r ∷ []) i → has (parts (p i)) j ≡ true → num order j < num order i
  part_before i j q h = num_part p order (numbered_built p falls (r ∷ []) (entries.only r l)) i (reached_numbered p falls (r ∷ []) (entries.only r l) q) j h

  order_distinct : Distinct order
  order_distinct = numbered_distinct p falls (r ∷ []) (entries.only r l)

  root_first : (rest : List ℕ) × (order ≡ r ∷ rest)
  root_first = (_, numbered_from_one p r ∙ walk_not_done p falls limit [] r l refl)

  module _ (a b : ℕ) (s : LeftRight (p r) a b) where
    a_fits : a < limit
    a_fits = let h : a < r = falls r a (rw (both_parts s) (here a (b ∷ []))) in omega arith

    b_fits : b < limit
    b_fits = let h : b < r = falls r b (rw (both_parts s) (further a (b ∷ []) b (here b []))) in omega arith

    -- the left part's own order is the beginning
    left_begins : (new : List ℕ) × (order ≡ new ++ numbered p (a ∷ []))
    left_begins =
        let left = numbered_numbers p falls a a_fits in
        let right = walk_numbers p falls limit (numbered p (a ∷ [])) b b_fits in
        let (new, e) = numbers_more right in
        (r ∷ new, one_numbering p (numbered_numbers p falls r l) (two refl s left right) ∙ ap (λ o. r ∷ o) e)

    left_then_right : (x y : ℕ) → Reach p (a ∷ []) x → Reach p (b ∷ []) y → (Reach p (a ∷ []) y → ⊥) → num order x < num order y
    left_then_right x y qx qy not =
        let alone : List ℕ = numbered p (a ∷ []) in
        let (new, e) = left_begins in
        let d : Distinct (new ++ alone) = subst Distinct e order_distinct in
        let hx : has alone x ≡ true = reached_numbered p falls (a ∷ []) (entries.only a a_fits) qx in
        let hy : has (new ++ alone) y ≡ true = subst (λ o. has o y ≡ true) e (reached_numbered p falls (r ∷ []) (entries.only r l) (from_right qy)) in
        let less : num alone x < length alone = num_below alone (rest_distinct alone new d) x hx in
        let same : num (new ++ alone) x ≡ num alone x = earlier alone new d x hx in
        let more : length alone ≤ num (new ++ alone) y =
        ⊎_elim (λ h. later alone new d y h) (λ h. absurd (not (numbered_reached p falls (a ∷ []) (entries.only a a_fits) y h))) (of_append new alone y hy) in
        subst⁻¹ (λ o. num o x < num o y) e (omega arith)
      where
        from_right : {y : ℕ} → Reach p (b ∷ []) y → Reach p (r ∷ []) y
        from_right (root {i = i} h) =
            ⊎_elim (λ e. subst⁻¹ (Reach p (r ∷ [])) e (part {i = r} (root (here r [])) (rw (both_parts s) (further a (b ∷ []) b (here b []))))) (λ m. absurd (not_both m refl)) (here_or_further b [] i h)
        from_right (part q h) = part (from_right q) h

  numbered_in_order : InOrder p r order
  numbered_in_order =
      record {
        only_before = λ i a q s. part_before i a q (rw (only_parts s) (here a []));
        left_before = λ i a b q s. part_before i a q (rw (both_parts s) (here a (b ∷ [])));
        right_before = λ i a b q s. part_before i b q (rw (both_parts s) (further a (b ∷ []) b (here b [])));
        left_first_lem = λ a b x y s. left_then_right a b s x y;
        root_last = let (rest, e) = root_first in subst⁻¹ (λ o. num o r + 1 ≡ length o) e (rw (num_last r rest) (omega arith));
      }

  pub numbers_in_order : {o : List ℕ} → Numbers p [] r o → InOrder p r o
  numbers_in_order n = subst (InOrder p r) (one_numbering p (numbered_numbers p falls r l) n) numbered_in_order
