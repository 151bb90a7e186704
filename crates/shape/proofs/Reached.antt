-- A search for a node that meets a test finds one exactly where one is reachable, whatever the test.
-- Assumes nothing.
use mathlib.Core.Path.{◌≡◌, refl, sym, ap, ap₂, ◌∙◌, subst, subst⁻¹}
use mathlib.Core.Logic.{⊎_elim, ◌↔◌}
use mathlib.Core.Bool.{Bool, true, false, ◌||◌, false≢true}
use mathlib.Core.List.{List, [], ◌∷◌, map}
use Prim.Native.Nat.{ℕ, zero, suc, ◌<◌}
use native.Mathlib.Nat.{not-suc-le-zero}
use native.Mathlib.Omega.{arith}
use Rattle.pool.specs.Fold.{under}
use Rattle.pool.specs.Nodes.{parts}
use Rattle.pool.specs.Reaches.{some, reaches_at, reaches}
use Rattle.pool.specs.declared.node.Node.{Node}
use Rattle.pool.proofs.Folds.{visits, below}
use Rattle.shape.specs.Shape.{has, Reach, root, part}
use Rattle.shape.specs.Walked.{Falls}
use Rattle.shape.proofs.Lists.{All, here, further, here_or_further, all_first, all_rest, map_same, or_left, or_right, or_either}

-- answers that agree part by part, the parts of the second being renamed
pub some_alike : (f : ℕ → ℕ) (down down' : ℕ → Bool) (is : List ℕ) → All (λ a. down a ≡ down' (f a)) is → some down is ≡ some down' (map f is)
some_alike f down down' [] same = refl
some_alike f down down' (a ∷ is) same =
    let P : ℕ → Type 0 = λ a. down a ≡ down' (f a) in
    ap₂ (λ (x y : Bool). x || y) (all_first P a is same) (some_alike f down down' is (all_rest P a is same))

module _ (down : ℕ → Bool) where
  in_some : (is : List ℕ) → some down is ≡ true → (a : ℕ) × (has is a ≡ true) × (down a ≡ true)
  in_some [] h = absurd (false≢true h)
  in_some (a ∷ is) h =
      ⊎_elim
      (λ l. (a, here a is, l))
      (λ r. let (b, m, d) = in_some is r in (b, further a is b m, d))
      (or_either (down a) (some down is) h)

  of_some : (is : List ℕ) (a : ℕ) → has is a ≡ true → down a ≡ true → some down is ≡ true
  of_some [] a m h = absurd (false≢true m)
  of_some (b ∷ is) a m h =
      ⊎_elim
      (λ e. or_left (down b) (some down is) (subst (λ j. down j ≡ true) e h))
      (λ r. or_right (down b) (some down is) (of_some is a r h))
      (here_or_further b is a m)

-- what a part reaches the node reaches
from_part : {at : ℕ → Node} {r a j : ℕ} → has (parts (at r)) a ≡ true → Reach at (a ∷ []) j → Reach at (r ∷ []) j
from_part {at} {r} {a} m (root {i = i} h) =
    ⊎_elim (λ e. subst⁻¹ (Reach at (r ∷ [])) e (part {i = r} (root (here r [])) m)) (λ n. absurd (false≢true n)) (here_or_further a [] i h)
from_part m (part q h) = part (from_part m q) h

module _ (test : Node → Bool) (at : ℕ → Node) (falls : Falls at) where
  -- the search has no bound where parts fall
  pub reaches_unfolds : (i : ℕ) → reaches test at i ≡ reaches_at test (reaches test at) (at i)
  reaches_unfolds i =
      visits false (reaches_at test) at i
      ∙ ap (λ (r : Bool). test (at i) || r) (some_alike (λ a. a) (under false (reaches test at) i) (reaches test at) (parts (at i)) (λ a m. sym (below false (reaches test at) i a (falls i a m)))
      ∙ ap (some (reaches test at)) (map_same (λ a. a) (parts (at i)) (λ a m. refl)))

  finds : (k r : ℕ) → r < k → reaches test at r ≡ true → (j : ℕ) × Reach at (r ∷ []) j × (test (at j) ≡ true)
  finds zero r l h = absurd (not-suc-le-zero l)
  finds (suc k) r l h =
      ⊎_elim
      (λ met. (r, root (here r []), met))
      (λ passed.
      let (a, m, g) = in_some (reaches test at) (parts (at r)) passed in
      let f : a < r = falls r a m in
      let (j, q, met) = finds k a (omega arith) g in
      (j, from_part m q, met))
      (or_either (test (at r)) (some (reaches test at) (parts (at r))) (sym (reaches_unfolds r) ∙ h))

  -- from a reached node up to the root
  climbs : {r j : ℕ} → Reach at (r ∷ []) j → reaches test at j ≡ true → reaches test at r ≡ true
  climbs {r} (root {i = i} h) g = ⊎_elim (λ e. subst (λ x. reaches test at x ≡ true) e g) (λ n. absurd (false≢true n)) (here_or_further r [] i h)
  climbs (part {i = i} {j = j} q m) g =
      climbs q (reaches_unfolds i ∙ or_right (test (at i)) (some (reaches test at) (parts (at i))) (of_some (reaches test at) (parts (at i)) j m g))

  pub reaches_is_reached : (r : ℕ) → (reaches test at r ≡ true) ↔ ((j : ℕ) × Reach at (r ∷ []) j × (test (at j) ≡ true))
  reaches_is_reached r =
      (finds (suc r) r (omega arith), λ (j, q, met). climbs q (reaches_unfolds j ∙ or_left (test (at j)) (some (reaches test at) (parts (at j))) met))
