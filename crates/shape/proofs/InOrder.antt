-- A table in the writing order: the test of 9 says that the walk numbers the entries 0, .., n - 1 at their places, and then writing gives the table back.
-- Assumes nothing.
use mathlib.Core.Path.{◌≡◌, ap, ◌∙◌, subst⁻¹}
use mathlib.Core.Bool.{true, ◌&&◌}
use mathlib.Core.List.{List, map}
use Prim.Native.Nat.{ℕ, ◌<◌, ◌≤◌}
use native.Mathlib.Omega.{arith}
use lib.Dec.{eqb}
use borrow.Author.Tests.{eq-eqb, eqb-true}
use Rattle.pool.specs.Pool.{limit}
use Rattle.pool.specs.declared.node.Node.{Node}
use Rattle.shape.specs.Shape.{has, rename}
use Rattle.shape.specs.Table.{up_to}
use Rattle.shape.specs.Order.{num, entries, numbered, written, written_roots}
use Rattle.shape.specs.File.{are_in_order}
use Rattle.shape.specs.Walked.{Falls}
use Rattle.shape.specs.Demand.{Below}
use Rattle.shape.proofs.Lists.{map_same}
use Rattle.shape.proofs.Renaming.{rename_same}
use Rattle.shape.proofs.Numbers.{down, has_down, num_down, in_place}
use Rattle.shape.proofs.Tables.{map_up}
use Rattle.shape.proofs.Entries.{numbered_distinct, numbered_below}
use Rattle.shape.proofs.Tests.{and_left, and_right, and_both, each_holds, each_of}

module _ (q : ℕ → Node) (roots : List ℕ) (n : ℕ) where
  pub order_passes : numbered q roots ≡ down n → are_in_order q roots n ≡ true
  unfolding are_in_order
  order_passes e =
      each_of n _ (λ i l.
      subst⁻¹ (λ o. (has o i && eqb (num o i) i) ≡ true) e
      (and_both (has (down n) i) (eqb (num (down n) i) i) (has_down n i l) (eq-eqb (num (down n) i) i (num_down n i l))))

  module _ (falls : Falls q) (small : n ≤ limit) (below : Below n roots) (passes : are_in_order q roots n ≡ true) where
    below_limit : Below limit roots
    below_limit i h = let l : i < n = below i h in omega arith

    holds : (i : ℕ) → i < n → (has (numbered q roots) i && eqb (num (numbered q roots) i) i) ≡ true
    unfolding are_in_order
    holds = each_holds n _ passes

    pub in_order_numbered : numbered q roots ≡ down n
    in_order_numbered =
        in_place (numbered q roots) n (numbered_distinct q falls roots below_limit) (numbered_below q falls roots below_limit n below)
        (λ i l. and_left (has (numbered q roots) i) (eqb (num (numbered q roots) i) i) (holds i l))
        (λ i l. eqb-true (num (numbered q roots) i) i (and_right (has (numbered q roots) i) (eqb (num (numbered q roots) i) i) (holds i l)))

    pub in_order_written : written q roots ≡ up_to n q
    unfolding written
    in_order_written =
        ap (entries q) in_order_numbered
        ∙ map_up (λ i. rename (num (down n)) (q i)) q n (λ i l. rename_same (num (down n)) (q i) (λ j m. num_down n j (let b : j < i = falls i j m in omega arith)))

    pub in_order_roots : written_roots q roots ≡ roots
    unfolding written_roots
    in_order_roots = ap (λ o. map (num o) roots) in_order_numbered ∙ map_same (num (down n)) roots (λ i h. num_down n i (below i h))
