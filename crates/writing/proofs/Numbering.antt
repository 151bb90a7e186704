-- The walk of the definitions numbers the nodes by 01's sentence, and the sentence leaves no choice: so every node file is the file of that numbering.
-- Assumes nothing.
use mathlib.Core.Path.{◌≡◌, refl, ap, subst⁻¹}
use mathlib.Core.Logic.{⊎_elim}
use mathlib.Core.Bool.{false}
use mathlib.Core.List.{List, [], ◌∷◌}
use Prim.Native.Nat.{ℕ, zero, suc, ◌<◌}
use native.Mathlib.Nat.{not-suc-le-zero}
use native.Mathlib.Omega.{arith}
use Rattle.pool.specs.Nodes.{parts}
use Rattle.pool.specs.Pool.{limit, Pool, node_at}
use Rattle.pool.specs.declared.node.Node.{Node}
use Rattle.shape.specs.Shape.{has}
use Rattle.shape.specs.Order.{in_turn, walk, numbered, entries, written}
use Rattle.shape.specs.File.{file_of, written_file, file_from}
use Rattle.shape.specs.Walked.{Falls}
use Rattle.shape.specs.Demand.{KeepsRules}
use Rattle.shape.proofs.Lists.{All, here, further, true_or_false, not_both}
use Rattle.shape.proofs.Walks.{walk_old, walk_new}
use Rattle.shape.proofs.Walked.{numbered_from_one}
use Rattle.shape.proofs.Pools.{rules_of, falls_in}
use Rattle.writing.specs.Numbering.{Numbers, old, leaf, one, two}
use Rattle.writing.proofs.Sides.{Sides, none, only, both, sides, only_once, left_once, right_once, none_or_only, none_or_both, only_or_both}

-- the walk of the definitions goes by it
module _ (p : ℕ → Node) where
  visit_numbers :
      (k : ℕ) → ((o : List ℕ) (j : ℕ) → j < k → Numbers p o j (walk p k o j))
      → (o : List ℕ) (i : ℕ) → has o i ≡ false → Sides (p i) → All (λ j. j < k) (parts (p i)) → Numbers p o i (i ∷ in_turn (walk p k) o (parts (p i)))
  visit_numbers k ih o i n (none s e) l = rw e (leaf n s)
  visit_numbers k ih o i n (only a s e) l = rw e (one n s (ih o a (l a (rw e (here a [])))))
  visit_numbers k ih o i n (both a b s e) l =
      rw e (two n s (ih o a (l a (rw e (here a (b ∷ []))))) (ih (walk p k o a) b (l b (rw e (further a (b ∷ []) b (here b []))))))

  pub walk_numbers : Falls p → (k : ℕ) (o : List ℕ) (i : ℕ) → i < k → Numbers p o i (walk p k o i)
  walk_numbers falls zero o i l = absurd (not-suc-le-zero l)
  walk_numbers falls (suc k) o i l =
      ⊎_elim
      (λ h. subst⁻¹ (Numbers p o i) (walk_old p k o i h) (old h))
      (λ h. subst⁻¹ (Numbers p o i) (walk_new p k o i h) (visit_numbers k (walk_numbers falls k) o i h (sides (p i)) (λ j m. below j (falls i j m))))
      (true_or_false (has o i))
    where
      below : (j : ℕ) → j < i → j < k
      below j m = omega arith

  pub numbered_numbers : Falls p → (r : ℕ) → r < limit → Numbers p [] r (numbered p (r ∷ []))
  numbered_numbers falls r l = subst⁻¹ (Numbers p [] r) (numbered_from_one p r) (walk_numbers falls limit [] r l)

-- it leaves no choice
pub one_numbering : (p : ℕ → Node) {before : List ℕ} {i : ℕ} {x y : List ℕ} → Numbers p before i x → Numbers p before i y → x ≡ y
one_numbering p (old h) (old k) = refl
one_numbering p (old h) (leaf n s) = absurd (not_both h n)
one_numbering p (old h) (one n s a) = absurd (not_both h n)
one_numbering p (old h) (two n s a b) = absurd (not_both h n)
one_numbering p (leaf n s) (old h) = absurd (not_both h n)
one_numbering p (leaf n s) (leaf m t) = refl
one_numbering p (leaf n s) (one m t a) = absurd (none_or_only s t)
one_numbering p (leaf n s) (two m t a b) = absurd (none_or_both s t)
one_numbering p (one n s a) (old h) = absurd (not_both h n)
one_numbering p (one n s a) (leaf m t) = absurd (none_or_only t s)
one_numbering p {before} {i} (one n s a) (one {then = then} m t c) = ap (λ o. i ∷ o) (one_numbering p a (subst⁻¹ (λ j. Numbers p before j then) (only_once s t) c))
one_numbering p (one n s a) (two m t c d) = absurd (only_or_both s t)
one_numbering p (two n s a b) (old h) = absurd (not_both h n)
one_numbering p (two n s a b) (leaf m t) = absurd (none_or_both t s)
one_numbering p (two n s a b) (one m t c) = absurd (only_or_both t s)
one_numbering p {before} {i} (two {b = right} n s a b) (two {then = then} {after = after} m t c d) =
    let first = one_numbering p a (subst⁻¹ (λ j. Numbers p before j then) (left_once s t) c) in
    ap (λ o. i ∷ o) (one_numbering p b (subst⁻¹ (λ o. Numbers p o right after) first (subst⁻¹ (λ j. Numbers p then j after) (right_once s t) d)))

-- so every node file is the file of that numbering
module _ (P : Pool) (k : KeepsRules P) (r : ℕ) (l : r < P.count) where
  in_limit : r < limit
  in_limit = omega (arith, (rules_of P k).count_fits)

  pub root_is_numbered : Numbers (node_at P) [] r (numbered (node_at P) (r ∷ []))
  root_is_numbered = numbered_numbers (node_at P) (falls_in P k) r in_limit

  pub file_of_the_numbering : {o : List ℕ} → Numbers (node_at P) [] r o → file_from P r ≡ file_of (entries (node_at P) o)
  unfolding written_file written
  file_of_the_numbering n = ap (λ o. file_of (entries (node_at P) o)) (one_numbering (node_at P) root_is_numbered n)
