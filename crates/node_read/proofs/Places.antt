-- The test of 9 by marks: a mark is the place + 1 exactly where the walk has numbered the entry by its place.
-- Assumes nothing.
use mathlib.Core.Path.{◌≡◌, sym, ap, ◌∙◌, fun_ext}
use mathlib.Core.Logic.{⊎_elim}
use mathlib.Core.Bool.{Bool, ◌&&◌}
use Rattle.std.specs.Prelude.{IsTrue, ◌↔◌}
use mathlib.Core.List.{List}
use Prim.Native.Nat.{ℕ, suc, ◌+◌, ◌<◌}
use native.Mathlib.Omega.{arith}
use lib.Dec.{eqb}
use lib.ListN.{get_or}
use borrow.Author.Tests.{eq-eqb, ne_eqb, eqb-true}
use Rattle.pool.specs.Pool.{each}
use Rattle.pool.specs.declared.node.Node.{Node}
use Rattle.shape.specs.Shape.{has}
use Rattle.shape.specs.Order.{numbered, num}
use Rattle.shape.specs.File.{are_in_order}
use Rattle.shape.specs.Walked.{Walked}
use Rattle.shape.proofs.Lists.{same_tests, true_or_false}
use Rattle.shape.proofs.Tests.{each_holds, each_of}
use Rattle.shape.proofs.Walked.{mark_of_others, walked_number}

next_place : (m i : ℕ) → eqb (suc m) (i + 1) ≡ eqb m i
next_place m i = same_tests (eqb (suc m) (i + 1)) (eqb m i) (λ h. eq-eqb m i (down m i (eqb-true (suc m) (i + 1) h))) (λ h. eq-eqb (suc m) (i + 1) (up m i (eqb-true m i h)))
  where
    down : (m i : ℕ) → suc m ≡ i + 1 → m ≡ i
    down m i e = omega arith

    up : (m i : ℕ) → m ≡ i → suc m ≡ i + 1
    up m i e = omega arith

never_zero : (i : ℕ) → 0 ≡ i + 1 → ⊥
never_zero i e = omega arith

module _ (p : ℕ → Node) (o number order : List ℕ) (d : ℕ) (w : Walked p o number order d) where
  mark_tells : (i : ℕ) → eqb (get_or number i 0) (i + 1) ≡ (has o i && eqb (num o i) i)
  mark_tells i =
      ⊎_elim
      (λ h. ap (λ m. eqb m (i + 1)) (walked_number p o number order d w i h) ∙ next_place (num o i) i ∙ sym (ap (λ t. t && eqb (num o i) i) h))
      (λ h. ap (λ m. eqb m (i + 1)) (w.marked i ∙ mark_of_others o i h) ∙ ne_eqb 0 (i + 1) (never_zero i) ∙ sym (ap (λ t. t && eqb (num o i) i) h))
      (true_or_false (has o i))

pub in_order_by_marks : (p : ℕ → Node) (roots : List ℕ) (n : ℕ) {number order : List ℕ} {d : ℕ} → Walked p (numbered p roots) number order d
    → each n (λ i. eqb (get_or number i 0) (i + 1)) ≡ are_in_order p roots n
unfolding are_in_order
in_order_by_marks p roots n {number} {order} {d} w = ap (each n) (fun_ext (mark_tells p (numbered p roots) number order d w))

-- marks that are all the place + 1 pass the test
pub marks_pass : (number : List ℕ) (n : ℕ) {r : Bool} → IsTrue r ↔ ((i : ℕ) → i < n → get_or number i 0 ≡ i + 1) → r ≡ each n (λ i. eqb (get_or number i 0) (i + 1))
marks_pass number n {r} told =
    same_tests r (each n (λ i. eqb (get_or number i 0) (i + 1)))
    (λ h. each_of n (λ i. eqb (get_or number i 0) (i + 1)) (λ i l. eq-eqb (get_or number i 0) (i + 1) (told.0 h i l)))
    (λ h. told.1 (λ i l. eqb-true (get_or number i 0) (i + 1) (each_holds n (λ j. eqb (get_or number j 0) (j + 1)) h i l)))
