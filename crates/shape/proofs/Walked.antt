-- For the code that walks: the walk's equations with no bound to count down, and the two tables that stand for the nodes done, number[j] and order[m].
-- Assumes nothing.
use mathlib.Core.Path.{◌≡◌, refl, sym, ap, ◌∙◌, subst⁻¹}
use mathlib.Core.Logic.{⊎_elim}
use mathlib.Core.Bool.{Bool, true, false, cond, ◌||◌, true≢false, false≢true}
use mathlib.Core.List.{List, [], ◌∷◌}
use Prim.Native.Nat.{ℕ, zero, suc, ◌+◌, ◌<◌, ◌≤◌}
use native.Mathlib.Nat.{not-suc-le-zero}
use native.Mathlib.Omega.{arith}
use lib.Dec.{eqb}
use lib.ListN.{length, get_or, set, length-set}
use lib.Seq.{get_or-set_same, get_or-set_other}
use borrow.Author.Tests.{eq-eqb, ne_eqb}
use Rattle.pool.specs.Nodes.{parts}
use Rattle.pool.specs.Pool.{limit}
use Rattle.pool.specs.declared.node.Node.{Node}
use Rattle.shape.specs.Shape.{has}
use Rattle.shape.specs.Order.{in_turn, walk, numbered, num}
use Rattle.shape.specs.Walked.{Falls, node_numbered, mark, Walked}
use Rattle.shape.proofs.Lists.{All, all_with, all_first, all_rest, map_same, same_or_not, true_or_false}
use Rattle.shape.proofs.Renaming.{rename_same}
use Rattle.shape.proofs.Walks.{walk_none, walk_old, walk_new, turn_does, parts_miss}
use Rattle.shape.proofs.Along.{walk_along}
use Rattle.shape.proofs.Pigeonhole.{distinct_fit}
use Rattle.shape.proofs.Numbers.{built_distinct, numbered_last, numbered_before}

-- any bound above the node does
Every : ℕ → Type 0
Every i = Unit {0}

module _ (p : ℕ → Node) (falls : Falls p) where
  pub walk_any_bound : (k m : ℕ) (o : List ℕ) (i : ℕ) → i < k → i < m → walk p k o i ≡ walk p m o i
  unfolding Every
  walk_any_bound k m o i l n =
      sym (map_same (λ j. j) (walk p k o i) (λ j h. refl))
      ∙ sym (walk_along (λ j. j) Every (λ j x a b e. e) p p (λ j c x h. tt) (λ j c. sym (rename_same (λ x. x) (p j) (λ x h. refl))) falls falls k m o (λ j h. tt) i tt l n)
      ∙ ap (λ done. walk p m done i) (map_same (λ j. j) o (λ j h. refl))

  pub turn_any_bound : (k m : ℕ) (o is : List ℕ) → All (λ i. i < k) is → All (λ i. i < m) is → in_turn (walk p k) o is ≡ in_turn (walk p m) o is
  turn_any_bound k m o [] l n = refl
  turn_any_bound k m o (i ∷ is) l n =
      ap (λ done. in_turn (walk p k) done is) (walk_any_bound k m o i (all_first (λ j. j < k) i is l) (all_first (λ j. j < m) i is n))
      ∙ turn_any_bound k m (walk p m o i) is (all_rest (λ j. j < k) i is l) (all_rest (λ j. j < m) i is n)

  -- a node that is not done: its parts in turn, then itself
  pub walk_not_done : (k : ℕ) (o : List ℕ) (i : ℕ) → i < k → has o i ≡ false → walk p k o i ≡ i ∷ in_turn (walk p k) o (parts (p i))
  walk_not_done zero o i l h = absurd (not-suc-le-zero l)
  walk_not_done (suc k) o i l h =
      walk_new p k o i h
      ∙ ap (λ done. i ∷ done) (turn_any_bound k (suc k) o (parts (p i)) (λ j m. below j (falls i j m)) (λ j m. above j (falls i j m)))
    where
      below : (j : ℕ) → j < i → j < k
      below j m = omega arith

      above : (j : ℕ) → j < i → j < suc k
      above j m = omega arith

pub walk_done : (p : ℕ → Node) (k : ℕ) (o : List ℕ) (i : ℕ) → has o i ≡ true → walk p k o i ≡ o
walk_done p zero o i h = walk_none p o i
walk_done p (suc k) o i h = walk_old p k o i h

pub numbered_from_one : (p : ℕ → Node) (r : ℕ) → numbered p (r ∷ []) ≡ walk p limit [] r
unfolding numbered
numbered_from_one p r = refl

-- marks
pub mark_of_done : (o : List ℕ) (i : ℕ) → has o i ≡ true → mark o i ≡ suc (num o i)
mark_of_done [] i h = absurd (false≢true h)
mark_of_done (j ∷ o) i h = go (eqb i j) h (mark_of_done o i)
  where
    go : (t : Bool) → (t || has o i) ≡ true → (has o i ≡ true → mark o i ≡ suc (num o i)) → cond t (suc (length o)) (mark o i) ≡ suc (cond t (length o) (num o i))
    go true h rest = refl
    go false h rest = rest h

pub mark_of_others : (o : List ℕ) (i : ℕ) → has o i ≡ false → mark o i ≡ 0
mark_of_others [] i h = refl
mark_of_others (j ∷ o) i h = go (eqb i j) h (mark_of_others o i)
  where
    go : (t : Bool) → (t || has o i) ≡ false → (has o i ≡ false → mark o i ≡ 0) → cond t (suc (length o)) (mark o i) ≡ 0
    go true h rest = absurd (true≢false h)
    go false h rest = rest h

-- so a mark tells whether its node is done
pub done_of_mark : (o : List ℕ) (i : ℕ) → (mark o i ≡ 0 → ⊥) → has o i ≡ true
done_of_mark o i n = ⊎_elim (λ h. h) (λ h. absurd (n (mark_of_others o i h))) (true_or_false (has o i))

pub not_done_of_mark : (o : List ℕ) (i : ℕ) → mark o i ≡ 0 → has o i ≡ false
not_done_of_mark o i e = ⊎_elim (λ h. absurd (some (mark o i) (num o i) e (mark_of_done o i h))) (λ h. h) (true_or_false (has o i))
  where
    some : (m n : ℕ) → m ≡ 0 → m ≡ suc n → ⊥
    some m n e f = omega arith

-- one more node done: two stores
mark_stored : (number o : List ℕ) (i d : ℕ) → i < length number → length o ≡ d → ((j : ℕ) → get_or number j 0 ≡ mark o j) → (j : ℕ) → get_or (set number i (d + 1)) j 0 ≡ mark (i ∷ o) j
mark_stored number o i d l c h j =
    ⊎_elim
    (λ e. subst⁻¹ (λ x. get_or (set number i (d + 1)) x 0 ≡ mark (i ∷ o) x) e (get_or-set_same number i (d + 1) 0 l ∙ sym (first ∙ more)))
    (λ n. get_or-set_other number i j (d + 1) 0 n ∙ h j ∙ sym (other n))
    (same_or_not j i)
  where
    first : mark (i ∷ o) i ≡ suc (length o)
    first = rw (eq-eqb i i refl)

    more : suc (length o) ≡ d + 1
    more = omega arith

    other : (j ≡ i → ⊥) → mark (i ∷ o) j ≡ mark o j
    other n = rw (ne_eqb j i n)

order_stored : (order o : List ℕ) (i d : ℕ) → d < length order → length o ≡ d → ((m : ℕ) → m < d → get_or order m 0 ≡ node_numbered o m)
    → (m : ℕ) → m < d + 1 → get_or (set order d i) m 0 ≡ node_numbered (i ∷ o) m
order_stored order o i d l c h m k =
    ⊎_elim
    (λ e. subst⁻¹ (λ x. get_or (set order d i) x 0 ≡ node_numbered (i ∷ o) x) e (get_or-set_same order d i 0 l ∙ sym (ap (node_numbered (i ∷ o)) (sym c) ∙ numbered_last i o)))
    (λ n. get_or-set_other order d m i 0 n ∙ h m (omega arith) ∙ sym (numbered_before i o m (omega arith)))
    (same_or_not m d)

-- before the first visit
pub walked_none : (p : ℕ → Node) (number order : List ℕ) → length number ≡ limit → length order ≡ limit → ((j : ℕ) → get_or number j 0 ≡ 0) → Walked p [] number order 0
walked_none p number order n m zeros =
    record {
      built = tt;
      below = λ i h. absurd (false≢true h);
      counted = refl;
      number_long = n;
      order_long = m;
      marked = zeros;
      placed = λ i l. absurd (not-suc-le-zero l);
    }

module _ (p : ℕ → Node) (o number order : List ℕ) (d : ℕ) (w : Walked p o number order d) where
  -- a node that is not done has a place
  pub walked_room : (i : ℕ) → i < limit → has o i ≡ false → d < limit
  walked_room i l n =
      let fit : length (i ∷ o) ≤ limit = distinct_fit limit (i ∷ o) (n, built_distinct p o w.built) (all_with (λ j. j < limit) i o l w.below) in
      let counted : length o ≡ d = w.counted in
      omega arith

  -- a node whose parts are done is done
  pub walked_next : (i : ℕ) → i < limit → has o i ≡ false → All (λ j. has o j ≡ true) (parts (p i)) → Walked p (i ∷ o) (set number i (d + 1)) (set order d i) (d + 1)
  walked_next i l n parts_done_lem =
      let counted : length o ≡ d = w.counted in
      record {
        built = (n, parts_done_lem, w.built);
        below = all_with (λ j. j < limit) i o l w.below;
        counted = omega arith;
        number_long = length-set number i (d + 1) ∙ w.number_long;
        order_long = length-set order d i ∙ w.order_long;
        marked = mark_stored number o i d (subst⁻¹ (λ k. i < k) w.number_long l) counted w.marked;
        placed = order_stored order o i d (subst⁻¹ (λ k. d < k) w.order_long (walked_room i l n)) counted w.placed;
      }

  -- what a mark tells
  pub walked_done : (i : ℕ) → (get_or number i 0 ≡ 0 → ⊥) → has o i ≡ true
  walked_done i n = done_of_mark o i (λ e. n (w.marked i ∙ e))

  pub walked_not_done : (i : ℕ) → get_or number i 0 ≡ 0 → has o i ≡ false
  walked_not_done i e = not_done_of_mark o i (sym (w.marked i) ∙ e)

  pub walked_number : (i : ℕ) → has o i ≡ true → get_or number i 0 ≡ suc (num o i)
  walked_number i h = w.marked i ∙ mark_of_done o i h

-- the step of the walk: the parts of i have been visited, and i is not done
module _ (p : ℕ → Node) (falls : Falls p) (o : List ℕ) (i : ℕ) (l : i < limit) (n : has o i ≡ false) where
  below_limit : All (λ j. j < limit) (parts (p i))
  below_limit j h = let f : j < i = falls i j h in omega arith

  module _ (number order : List ℕ) (d : ℕ) (w : Walked p (in_turn (walk p limit) o (parts (p i))) number order d) where
    pub visit_room : d < limit
    visit_room = walked_room p (in_turn (walk p limit) o (parts (p i))) number order d w i l (parts_miss p falls limit o i n)

    pub visit_stored : Walked p (walk p limit o i) (set number i (d + 1)) (set order d i) (d + 1)
    visit_stored =
        subst⁻¹ (λ done. Walked p done (set number i (d + 1)) (set order d i) (d + 1)) (walk_not_done p falls limit o i l n)
        (walked_next p (in_turn (walk p limit) o (parts (p i))) number order d w i l (parts_miss p falls limit o i n) (turn_does p limit o (parts (p i)) below_limit))
