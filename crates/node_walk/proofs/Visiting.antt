-- A visit of the code, step by step: its parts in turn, then the node's own number.
-- Assumes nothing.
use mathlib.Core.Path.{◌≡◌, refl, ap, ◌∙◌, subst, subst⁻¹}
use mathlib.Core.Logic.{⊎_elim}
use mathlib.Core.List.{List, [], ◌∷◌, ◌++◌}
use Prim.Native.Nat.{ℕ, zero, suc, ◌+◌, ◌<◌, ◌≤◌}
use native.Mathlib.Nat.{not-suc-le-zero}
use native.Mathlib.Numerals.{add-one}
use native.Mathlib.Omega.{arith}
use lib.ListN.{length, get_or, take, replicate, length-replicate, get_or-replicate, get_or-eq_default}
use lib.Seq.{take-suc, take_all}
use Rattle.pool.specs.Nodes.{parts}
use Rattle.pool.specs.Pool.{limit}
use Rattle.pool.specs.declared.node.Node.{Node}
use Rattle.shape.specs.Order.{in_turn, walk, numbered}
use Rattle.shape.specs.Walked.{Falls}
use Rattle.shape.specs.Demand.{Below}
use Rattle.shape.proofs.Lists.{all_first, all_rest, below_or_not}
use Rattle.shape.proofs.Walked.{walk_done, walked_none, walked_done, walked_not_done, visit_room, visit_stored}
use Rattle.node_walk.specs.Visits.{StandsFor, Stands, Visits, Turns, Fresh, Stored}
use Rattle.node_walk.specs.declared.Numbering.{Numbering}
use Rattle.node_walk.proofs.EachPart.{of_left, of_right}

-- a node that has its number stays as it is
pub visited_before : (p : ℕ → Node) (i : ℕ) {N : Numbering} → (get_or N.number i 0 ≡ 0 → ⊥) → Visits p i N N
visited_before p i {N} n o w =
    subst⁻¹ (λ after. StandsFor p after N) (walk_done p limit o i (walked_done p o N.number N.order N.done w i n)) w

-- after a visit the tables stand for some nodes done again
pub stands_after : (p : ℕ → Node) (i : ℕ) {N M : Numbering} → Visits p i N M → Stands p N → Stands p M
stands_after p i v (o, w) = (walk p limit o i, v o w)

module _ (p : ℕ → Node) (i : ℕ) where
  pub left_is_below : Falls p → {a : ℕ} {more : List ℕ} → parts (p i) ≡ a ∷ more → a < i
  left_is_below falls e = of_left (λ j. j < i) e (falls i)

  pub right_is_below : Falls p → {a b : ℕ} → parts (p i) ≡ a ∷ b ∷ [] → b < i
  right_is_below falls e = of_right (λ j. j < i) e (falls i)

-- node i has no number yet, and its parts are visited
module _ (p : ℕ → Node) (falls : Falls p) (i : ℕ) (l : i < limit) {N M : Numbering} (none : get_or N.number i 0 ≡ 0) (turns : Turns p (parts (p i)) N M) where
  pub has_a_place : Stands p N → M.done < limit
  has_a_place (o, w) = visit_room p falls o i l (walked_not_done p o N.number N.order N.done w i none) M.number M.order M.done (turns o w)

  pub numbered_next : {L : Numbering} → Stored M i L → Visits p i N L
  numbered_next s o w =
      rw (s.numbers, s.orders, s.counts)
      (visit_stored p falls o i l (walked_not_done p o N.number N.order N.done w i none) M.number M.order M.done (turns o w))

-- the walk over roots in turn: the first i of them are visited
pub record RootsVisited (p : ℕ → Node) (roots : List ℕ) (i : ℕ) (N : Numbering) : Type 0 where
  pub few : i ≤ length roots
  pub walked : StandsFor p (in_turn (walk p limit) [] (take i roots)) N

pub none_visited : (p : ℕ → Node) (roots : List ℕ) {N : Numbering} → Fresh N → RootsVisited p roots 0 N
none_visited p roots {N} f = record { few = omega arith; walked = rw f.none_done (walked_none p N.number N.order f.number_long f.order_long f.none) }

turn_then : (visit : List ℕ → ℕ → List ℕ) (o is : List ℕ) (i : ℕ) → in_turn visit o (is ++ (i ∷ [])) ≡ visit (in_turn visit o is) i
turn_then visit o [] i = refl
turn_then visit o (j ∷ is) i = turn_then visit (visit o j) is i

-- each of the roots is below the bound
pub root_below : (m : ℕ) (roots : List ℕ) → Below m roots → (i : ℕ) → i < length roots → get_or roots i 0 < m
root_below m [] b i l = absurd (not-suc-le-zero l)
root_below m (r ∷ roots) b zero l = all_first (λ j. j < m) r roots b
root_below m (r ∷ roots) b (suc i) l = root_below m roots (all_rest (λ j. j < m) r roots b) i (omega arith)

module _ {p : ℕ → Node} {roots : List ℕ} {i : ℕ} {N : Numbering} (h : RootsVisited p roots i N) where
  pub root_visited : i < length roots → {M : Numbering} → Visits p (get_or roots i 0) N M → RootsVisited p roots (i + 1) M
  root_visited l {M} v =
      record {
        few = omega arith;
        walked = subst⁻¹ (λ o. StandsFor p o M) one_more (v (in_turn (walk p limit) [] (take i roots)) h.walked);
      }
    where
      one_more : in_turn (walk p limit) [] (take (i + 1) roots) ≡ walk p limit (in_turn (walk p limit) [] (take i roots)) (get_or roots i 0)
      one_more =
          ap (λ k. in_turn (walk p limit) [] (take k roots)) (add-one i)
          ∙ ap (in_turn (walk p limit) []) (take-suc roots i 0 l)
          ∙ turn_then (walk p limit) [] (take i roots) (get_or roots i 0)

  pub all_visited : length roots ≤ i → StandsFor p (numbered p roots) N
  unfolding numbered
  all_visited l = subst (λ is. StandsFor p (in_turn (walk p limit) [] is) N) (take_all i roots l) h.walked

-- tables of zeros stand for no node done
pub zeros_are_fresh : {N : Numbering} → N.number ≡ replicate limit 0 → N.order ≡ replicate limit 0 → N.done ≡ 0 → Fresh N
zeros_are_fresh e f g =
    record {
      number_long = ap length e ∙ length-replicate {A = ℕ} limit 0;
      order_long = ap length f ∙ length-replicate {A = ℕ} limit 0;
      none = λ j.
          ap (λ t. get_or t j 0) e
          ∙ ⊎_elim (λ l. get_or-replicate limit j 0 0 l) (λ l. get_or-eq_default (replicate limit 0) 0 (subst⁻¹ (λ k. k ≤ j) (length-replicate {A = ℕ} limit 0) l)) (below_or_not j limit);
      none_done = g;
    }
