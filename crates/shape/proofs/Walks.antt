-- The walk: what it adds to the nodes done, and that it adds each once, after its parts. Each law has its form for nodes visited in turn.
-- Assumes nothing.
use mathlib.Core.Path.{◌≡◌, refl, subst, subst⁻¹}
use mathlib.Core.Logic.{◌⊎◌, inl, inr, ⊎_elim}
use mathlib.Core.Bool.{true, false}
use mathlib.Core.List.{List, [], ◌∷◌}
use Prim.Native.Nat.{ℕ, zero, suc, ◌<◌}
use native.Mathlib.Nat.{not-suc-le-zero, lt_irrefl}
use native.Mathlib.Omega.{arith}
use Rattle.pool.specs.Nodes.{parts}
use Rattle.pool.specs.declared.node.Node.{Node}
use Rattle.shape.specs.Shape.{has}
use Rattle.shape.specs.Order.{in_turn, walk}
use Rattle.shape.specs.Walked.{Falls, Built}
use Rattle.shape.proofs.Lists.{All, all_none, all_first, all_rest, all_with, here, further, here_or_further, true_or_false, not_both, not_true_false}

-- a set of nodes that holds the parts of its nodes
abbrev pub Closed : (ℕ → Node) → (ℕ → Type 0) → Type 0
Closed p C = (i : ℕ) → C i → All C (parts (p i))

-- the nodes done when the parts of i are
abbrev pub parts_done : (ℕ → Node) → ℕ → List ℕ → ℕ → List ℕ
parts_done p k o i = in_turn (walk p k) o (parts (p i))

-- the two cases of a visit
pub walk_old : (p : ℕ → Node) (k : ℕ) (o : List ℕ) (i : ℕ) → has o i ≡ true → walk p (suc k) o i ≡ o
unfolding walk
walk_old p k o i h = rw h

pub walk_new : (p : ℕ → Node) (k : ℕ) (o : List ℕ) (i : ℕ) → has o i ≡ false → walk p (suc k) o i ≡ i ∷ parts_done p k o i
unfolding walk
walk_new p k o i h = rw h

pub walk_none : (p : ℕ → Node) (o : List ℕ) (i : ℕ) → walk p zero o i ≡ o
unfolding walk
walk_none p o i = refl

-- a fact of a visit's result follows in both cases
by_cases : (p : ℕ → Node) (k : ℕ) (o : List ℕ) (i : ℕ) (R : List ℕ → Type 0)
    → (has o i ≡ true → R o) → (has o i ≡ false → R (i ∷ parts_done p k o i)) → R (walk p (suc k) o i)
by_cases p k o i R old new =
    ⊎_elim (λ h. subst⁻¹ R (walk_old p k o i h) (old h)) (λ h. subst⁻¹ R (walk_new p k o i h) (new h)) (true_or_false (has o i))

-- what is done stays done
pub turn_grows : (visit : List ℕ → ℕ → List ℕ) → ((o : List ℕ) (i j : ℕ) → has o j ≡ true → has (visit o i) j ≡ true)
    → (o is : List ℕ) (j : ℕ) → has o j ≡ true → has (in_turn visit o is) j ≡ true
turn_grows visit grow o [] j h = h
turn_grows visit grow o (i ∷ is) j h = turn_grows visit grow (visit o i) is j (grow o i j h)

pub grows : (p : ℕ → Node) (k : ℕ) (o : List ℕ) (i j : ℕ) → has o j ≡ true → has (walk p k o i) j ≡ true
grows p zero o i j h = subst⁻¹ (λ done. has done j ≡ true) (walk_none p o i) h
grows p (suc k) o i j h =
    by_cases p k o i (λ done. has done j ≡ true) (λ old. h) (λ new. further i (parts_done p k o i) j (turn_grows (walk p k) (grows p k) o (parts (p i)) j h))

-- a node below the bound is done
pub does : (p : ℕ → Node) (k : ℕ) (o : List ℕ) (i : ℕ) → i < k → has (walk p k o i) i ≡ true
does p zero o i l = absurd (not-suc-le-zero l)
does p (suc k) o i l = by_cases p k o i (λ done. has done i ≡ true) (λ old. old) (λ new. here i (parts_done p k o i))

pub turn_does : (p : ℕ → Node) (k : ℕ) (o is : List ℕ) → All (λ i. i < k) is → All (λ i. has (in_turn (walk p k) o is) i ≡ true) is
turn_does p k o [] l = all_none _
turn_does p k o (i ∷ is) l =
    all_with (λ j. has (in_turn (walk p k) o (i ∷ is)) j ≡ true) i is
    (turn_grows (walk p k) (grows p k) (walk p k o i) is i (does p k o i (all_first (λ j. j < k) i is l)))
    (turn_does p k (walk p k o i) is (all_rest (λ j. j < k) i is l))

-- only nodes of a closed set that holds the node are added
pub turn_adds : (visit : List ℕ → ℕ → List ℕ) (C : ℕ → Type 0)
    → ((o : List ℕ) (i : ℕ) → C i → (j : ℕ) → has (visit o i) j ≡ true → (has o j ≡ true) ⊎ C j)
    → (o is : List ℕ) → All C is → (j : ℕ) → has (in_turn visit o is) j ≡ true → (has o j ≡ true) ⊎ C j
turn_adds visit C add o [] a j h = inl h
turn_adds visit C add o (i ∷ is) a j h =
    ⊎_elim (λ m. add o i (all_first C i is a) j m) (λ c. inr c) (turn_adds visit C add (visit o i) is (all_rest C i is a) j h)

pub adds : (p : ℕ → Node) (C : ℕ → Type 0) → Closed p C → (k : ℕ) (o : List ℕ) (i : ℕ) → C i → (j : ℕ) → has (walk p k o i) j ≡ true → (has o j ≡ true) ⊎ C j
adds p C closed zero o i c j h = inl (subst (λ done. has done j ≡ true) (walk_none p o i) h)
adds p C closed (suc k) o i c j h =
    by_cases p k o i (λ done. has done j ≡ true → (has o j ≡ true) ⊎ C j)
    (λ old m. inl m)
    (λ new m. ⊎_elim (λ e. inr (subst⁻¹ C e c)) (turn_adds (walk p k) C (adds p C closed k) o (parts (p i)) (closed i c) j) (here_or_further i (parts_done p k o i) j m))
    h

-- no node twice, and each after its parts
pub turn_built : (p : ℕ → Node) → Falls p → (k : ℕ) → ((o : List ℕ) (i : ℕ) → i < k → Built p o → Built p (walk p k o i))
    → (o is : List ℕ) → All (λ i. i < k) is → Built p o → Built p (in_turn (walk p k) o is)
turn_built p falls k step o [] l b = b
turn_built p falls k step o (i ∷ is) l b =
    turn_built p falls k step (walk p k o i) is (all_rest (λ j. j < k) i is l) (step o i (all_first (λ j. j < k) i is l) b)

-- the parts of a node do not come to the node itself
pub parts_miss : (p : ℕ → Node) → Falls p → (k : ℕ) (o : List ℕ) (i : ℕ) → has o i ≡ false → has (parts_done p k o i) i ≡ false
parts_miss p falls k o i n =
    not_true_false _ (λ h. ⊎_elim (λ m. not_both m n) (λ l. lt_irrefl i l) (turn_adds (walk p k) (λ j. j < i) (adds p (λ j. j < i) lower k) o (parts (p i)) (falls i) i h))
  where
    lower : Closed p (λ j. j < i)
    lower x l j m = let f : j < x = falls x j m in omega arith

pub built : (p : ℕ → Node) → Falls p → (k : ℕ) (o : List ℕ) (i : ℕ) → i < k → Built p o → Built p (walk p k o i)
built p falls zero o i l b = subst⁻¹ (Built p) (walk_none p o i) b
built p falls (suc k) o i l b =
    by_cases p k o i (Built p)
    (λ old. b)
    (λ new. (parts_miss p falls k o i new, turn_does p k o (parts (p i)) below, turn_built p falls k (built p falls k) o (parts (p i)) below b))
  where
    below : All (λ j. j < k) (parts (p i))
    below j m = let f : j < i = falls i j m in omega arith
