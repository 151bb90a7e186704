-- Distinct numbers below a bound are at most as many: an order of the nodes of a pool fits a table as long as the pool.
-- Assumes nothing.
use mathlib.Core.Path.{◌≡◌, refl, sym, ap, ◌∙◌, subst}
use mathlib.Core.Logic.{⊎_elim}
use mathlib.Core.Bool.{Bool, true, false, cond, false≢true}
use mathlib.Core.List.{List, [], ◌∷◌}
use Prim.Native.Nat.{ℕ, zero, suc, ◌<◌, ◌≤◌}
use native.Mathlib.Nat.{not-suc-le-zero}
use native.Mathlib.Omega.{arith}
use lib.Dec.{eqb}
use lib.ListN.{length}
use borrow.Author.Tests.{eqb-true, eqb-false}
use Rattle.shape.specs.Shape.{has}
use Rattle.shape.specs.Demand.{Distinct}
use Rattle.shape.proofs.Lists.{All, all_none, all_first, all_with, further, here, true_or_false, not_both, not_true_false, here_or_further}

-- an order without x
abbrev without : ℕ → List ℕ → List ℕ
without x [] = []
without x (y ∷ o) = cond (eqb x y) o (y ∷ without x o)

-- both cases of its step
by_cases : (x y : ℕ) (o : List ℕ) (R : List ℕ → Type 0) → (x ≡ y → R o) → ((x ≡ y → ⊥) → R (y ∷ without x o)) → R (without x (y ∷ o))
by_cases x y o R yes-at no-at = go (eqb x y) refl
  where
    go : (t : Bool) → eqb x y ≡ t → R (cond t o (y ∷ without x o))
    go true e = yes-at (eqb-true x y e)
    go false e = no-at (eqb-false x y e)

of_without : (x : ℕ) (o : List ℕ) → All (λ i. has o i ≡ true) (without x o)
of_without x [] = all_none _
of_without x (y ∷ o) =
    by_cases x y o (λ rest. All (λ i. has (y ∷ o) i ≡ true) rest)
    (λ e i h. further y o i h)
    (λ n. all_with (λ i. has (y ∷ o) i ≡ true) y (without x o) (here y o) (λ i h. further y o i (of_without x o i h)))

without_distinct : (x : ℕ) (o : List ℕ) → Distinct o → Distinct (without x o)
without_distinct x [] d = d
without_distinct x (y ∷ o) d =
    by_cases x y o Distinct (λ e. d.1) (λ n. (not_true_false _ (λ h. not_both (of_without x o y h) d.0), without_distinct x o d.1))

not_without : (x : ℕ) (o : List ℕ) → Distinct o → All (λ i. i ≡ x → ⊥) (without x o)
not_without x [] d = all_none _
not_without x (y ∷ o) d =
    by_cases x y o (λ rest. All (λ i. i ≡ x → ⊥) rest)
    (λ e i h f. not_both (subst (λ j. has o j ≡ true) (f ∙ e) h) d.0)
    (λ n. all_with (λ i. i ≡ x → ⊥) y (without x o) (λ e. n (sym e)) (not_without x o d.1))

one_less : (x : ℕ) (o : List ℕ) → has o x ≡ true → length o ≡ suc (length (without x o))
one_less x [] h = absurd (false≢true h)
one_less x (y ∷ o) h =
    by_cases x y o (λ rest. suc (length o) ≡ suc (length rest))
    (λ e. refl)
    (λ n. ap suc (one_less x o (⊎_elim (λ e. absurd (n e)) (λ m. m) (here_or_further y o x h))))

pub distinct_fit : (n : ℕ) (o : List ℕ) → Distinct o → All (λ i. i < n) o → length o ≤ n
distinct_fit zero [] d below = omega arith
distinct_fit zero (x ∷ o) d below = absurd (not-suc-le-zero (all_first (λ i. i < 0) x o below))
distinct_fit (suc n) o d below =
    ⊎_elim
    (λ h.
    let fit : length (without n o) ≤ n = distinct_fit n (without n o) (without_distinct n o d) (lower n (without n o) (λ i m. below i (of_without n o i m)) (not_without n o d)) in
    let less : length o ≡ suc (length (without n o)) = one_less n o h in
    omega arith)
    (λ h. let fit : length o ≤ n = distinct_fit n o d (lower n o below (λ i m e. not_both (subst (λ j. has o j ≡ true) e m) h)) in omega arith)
    (true_or_false (has o n))
  where
    lower : (n : ℕ) (xs : List ℕ) → All (λ i. i < suc n) xs → All (λ i. i ≡ n → ⊥) xs → All (λ i. i < n) xs
    lower n xs l d i h = let b : i < suc n = l i h in let c : ¬ (i ≡ n) = d i h in omega arith
