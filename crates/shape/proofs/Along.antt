-- The key law: a renaming of nodes that is one to one on a closed set, and under which two tables agree there, takes the walk, the numbers and the entries along with it.
-- The walks have a bound each, so nothing else has to be said about bounds. Assumes nothing.
use mathlib.Core.Path.{◌≡◌, refl, sym, ap, ◌∙◌, subst}
use mathlib.Core.Logic.{⊎_elim}
use mathlib.Core.Bool.{Bool, true, cond}
use mathlib.Core.List.{List, [], ◌∷◌, map, reverse, map-map}
use Prim.Native.Nat.{ℕ, zero, suc, ◌<◌}
use native.Mathlib.Nat.{not-suc-le-zero}
use native.Mathlib.Omega.{arith}
use lib.Dec.{eqb}
use lib.ListN.{length-map}
use borrow.Author.Tests.{eq-eqb, eqb-true}
use Rattle.pool.specs.Nodes.{parts}
use Rattle.pool.specs.declared.node.Node.{Node}
use Rattle.shape.specs.Shape.{has, rename}
use Rattle.shape.specs.Order.{in_turn, walk, num, entries}
use Rattle.shape.specs.Walked.{Falls}
use Rattle.shape.proofs.Lists.{All, all_first, all_rest, same_tests, has_map, of_map, of_reverse, map_alike, map_reverse, true_or_false}
use Rattle.shape.proofs.Renaming.{rename_rename, parts_rename, rename_alike}
use Rattle.shape.proofs.Walks.{Closed, walk_old, walk_new, adds}

cond_alike : {s t : Bool} {a b c d : ℕ} → s ≡ t → a ≡ b → c ≡ d → cond s a c ≡ cond t b d
cond_alike e f g = λ k. cond (e k) (f k) (g k)

module _ (f : ℕ → ℕ) (C : ℕ → Type 0) (one : (i j : ℕ) → C i → C j → f i ≡ f j → i ≡ j) where
  pub has_along : (o : List ℕ) → All C o → (i : ℕ) → C i → has (map f o) (f i) ≡ has o i
  has_along o a i c =
      same_tests (has (map f o) (f i)) (has o i)
      (λ h. let r = of_map f o (f i) h in subst (λ j. has o j ≡ true) (one r.0 i (a r.0 r.1) c r.2) r.1)
      (has_map f o i)

  pub num_along : (o : List ℕ) → All C o → (i : ℕ) → C i → num (map f o) (f i) ≡ num o i
  num_along [] a i c = refl
  num_along (j ∷ o) a i c =
      cond_alike
      (same_tests (eqb (f i) (f j)) (eqb i j) (λ e. eq-eqb i j (one i j c (all_first C j o a) (eqb-true (f i) (f j) e))) (λ e. eq-eqb (f i) (f j) (ap f (eqb-true i j e))))
      (length-map o f)
      (num_along o (all_rest C j o a) i c)

  module _ (p q : ℕ → Node) (closed : Closed p C) (agree : (i : ℕ) → C i → q (f i) ≡ rename f (p i)) where
    pub entries_along : (o : List ℕ) → All C o → entries q (map f o) ≡ entries p o
    entries_along o a =
        ap (map (λ i. rename (num (map f o)) (q i))) (sym (map_reverse f o))
        ∙ map-map (λ i. rename (num (map f o)) (q i)) f (reverse o)
        ∙ map_alike (λ i. rename (num (map f o)) (q (f i))) (λ i. rename (num o) (p i)) (reverse o) (λ i h. same i (a i (of_reverse o i h)))
      where
        same : (i : ℕ) → C i → rename (num (map f o)) (q (f i)) ≡ rename (num o) (p i)
        same i c =
            ap (rename (num (map f o))) (agree i c)
            ∙ rename_rename f (num (map f o)) (p i)
            ∙ rename_alike (λ j. num (map f o) (f j)) (num o) (p i) (λ j h. num_along o a j (closed i c j h))

    parts_along : (i : ℕ) → C i → parts (q (f i)) ≡ map f (parts (p i))
    parts_along i c = ap parts (agree i c) ∙ parts_rename f (p i)

    all_done : (k : ℕ) (o : List ℕ) → All C o → (i : ℕ) → C i → All C (walk p k o i)
    all_done k o a i c j h = ⊎_elim (λ m. a j m) (λ d. d) (adds p C closed k o i c j h)

    pub turn_along : (k m : ℕ)
        → ((o : List ℕ) → All C o → (i : ℕ) → C i → i < k → f i < m → walk q m (map f o) (f i) ≡ map f (walk p k o i))
        → (o is : List ℕ) → All C o → All C is → All (λ i. i < k) is → All (λ i. f i < m) is
        → in_turn (walk q m) (map f o) (map f is) ≡ map f (in_turn (walk p k) o is)
    turn_along k m step o [] a c l n = refl
    turn_along k m step o (i ∷ is) a c l n =
        ap (λ done. in_turn (walk q m) done (map f is)) (step o a i (all_first C i is c) (all_first (λ j. j < k) i is l) (all_first (λ j. f j < m) i is n))
        ∙ turn_along k m step (walk p k o i) is (all_done k o a i (all_first C i is c)) (all_rest C i is c) (all_rest (λ j. j < k) i is l) (all_rest (λ j. f j < m) i is n)

    module _ (falls_p : Falls p) (falls_q : Falls q) where
      pub walk_along : (k m : ℕ) (o : List ℕ) → All C o → (i : ℕ) → C i → i < k → f i < m → walk q m (map f o) (f i) ≡ map f (walk p k o i)
      walk_along zero m o a i c l n = absurd (not-suc-le-zero l)
      walk_along (suc k) zero o a i c l n = absurd (not-suc-le-zero n)
      walk_along (suc k) (suc m) o a i c l n =
          ⊎_elim
          (λ h. walk_old q m (map f o) (f i) (has_along o a i c ∙ h) ∙ sym (ap (map f) (walk_old p k o i h)))
          (λ h.
          walk_new q m (map f o) (f i) (has_along o a i c ∙ h)
          ∙ ap (λ is. f i ∷ in_turn (walk q m) (map f o) is) (parts_along i c)
          ∙ ap (λ done. f i ∷ done) (turn_along k m (walk_along k m) o (parts (p i)) a (closed i c) below_p below_q)
          ∙ sym (ap (map f) (walk_new p k o i h)))
          (true_or_false (has o i))
        where
          below_p : All (λ j. j < k) (parts (p i))
          below_p j h = let b : j < i = falls_p i j h in omega arith

          below_q : All (λ j. f j < m) (parts (p i))
          below_q j h = let b : f j < f i = falls_q (f i) (f j) (subst (λ is. has is (f j) ≡ true) (sym (parts_along i c)) (has_map f (parts (p i)) j h)) in omega arith
