-- Tests joined by `&&`, and a test at each number below a bound, as facts.
-- Assumes nothing.
use mathlib.Core.Path.{◌≡◌, refl, subst}
use mathlib.Core.Logic.{⊎_elim}
use mathlib.Core.Bool.{Bool, true, false, ◌&&◌, false≢true}
use mathlib.Core.List.{List, [], ◌∷◌}
use Prim.Native.Nat.{ℕ, zero, suc, ◌<◌}
use native.Mathlib.Nat.{not-suc-le-zero}
use native.Mathlib.Omega.{arith}
use lib.Dec.{ltb}
use borrow.Author.Tests.{ltb-true, lt-ltb}
use Rattle.pool.specs.Nodes.{all_below}
use Rattle.pool.specs.Pool.{each}
use Rattle.shape.proofs.Lists.{All, all_none, all_first, all_rest, all_with, same_or_not}

pub and_left : (a b : Bool) → (a && b) ≡ true → a ≡ true
and_left true b h = refl
and_left false b h = h

pub and_right : (a b : Bool) → (a && b) ≡ true → b ≡ true
and_right true b h = h
and_right false b h = absurd (false≢true h)

pub and_both : (a b : Bool) → a ≡ true → b ≡ true → (a && b) ≡ true
and_both a b e f = rw e f

pub each_holds : (n : ℕ) (test : ℕ → Bool) → each n test ≡ true → (i : ℕ) → i < n → test i ≡ true
unfolding each
each_holds zero test h i l = absurd (not-suc-le-zero l)
each_holds (suc n) test h i l =
    ⊎_elim
    (λ e. subst (λ j. test j ≡ true) e (and_right (each n test) (test n) h))
    (λ d. each_holds n test (and_left (each n test) (test n) h) i (omega arith))
    (same_or_not n i)

pub each_of : (n : ℕ) (test : ℕ → Bool) → ((i : ℕ) → i < n → test i ≡ true) → each n test ≡ true
unfolding each
each_of zero test h = refl
each_of (suc n) test h = and_both (each n test) (test n) (each_of n test (λ i l. h i (omega arith))) (h n (omega arith))

pub all_below_lem : (n : ℕ) (is : List ℕ) → all_below n is ≡ true → All (λ i. i < n) is
all_below_lem n [] h = all_none (λ i. i < n)
all_below_lem n (i ∷ is) h =
    all_with (λ j. j < n) i is (ltb-true i n (and_left (ltb i n) (all_below n is) h)) (all_below_lem n is (and_right (ltb i n) (all_below n is) h))

pub below_all : (n : ℕ) (is : List ℕ) → All (λ i. i < n) is → all_below n is ≡ true
below_all n [] h = refl
below_all n (i ∷ is) h = and_both (ltb i n) (all_below n is) (lt-ltb i n (all_first (λ j. j < n) i is h)) (below_all n is (all_rest (λ j. j < n) i is h))
