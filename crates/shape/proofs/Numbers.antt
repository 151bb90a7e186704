-- The numbers that an order of nodes gives: a node and its number lead to each other, a part's number is smaller than its node's, and as many numbers are given as there are nodes.
-- Assumes nothing.
use mathlib.Core.Path.{◌≡◌, refl, sym, ap, ◌∙◌, subst, subst⁻¹}
use mathlib.Core.Logic.{◌⊎◌, inl, inr, ⊎_elim}
use mathlib.Core.Bool.{true, false}
use mathlib.Core.List.{List, [], ◌∷◌, map, reverse, reverse-cons}
use Prim.Native.Nat.{ℕ, zero, suc, ◌<◌}
use native.Mathlib.Nat.{not-suc-le-zero, lt_irrefl}
use native.Mathlib.Omega.{arith}
use lib.ListN.{length, get_or, length-map, length-reverse, get_or-append}
use lib.Seq.{get_or_at}
use borrow.Author.Tests.{eq-eqb, ne_eqb}
use Rattle.pool.specs.Nodes.{parts}
use Rattle.pool.specs.declared.node.Node.{Node}
use Rattle.pool.specs.declared.node.Node.TheVariants.{Empty}
use Rattle.shape.specs.Shape.{has, rename}
use Rattle.shape.specs.Order.{num, entries}
use Rattle.shape.specs.Walked.{Built, node_numbered}
use Rattle.shape.specs.Demand.{Distinct}
use Rattle.shape.proofs.Lists.{All, all_none, all_with, here, further, map_alike, map_same, not_both, not_true_false, same_or_not}

pub built_distinct : (p : ℕ → Node) (o : List ℕ) → Built p o → Distinct o
built_distinct p [] b = tt
built_distinct p (i ∷ o) b = (b.0, built_distinct p o b.2)

pub built_closed : (p : ℕ → Node) (o : List ℕ) → Built p o → All (λ i. All (λ j. has o j ≡ true) (parts (p i))) o
built_closed p [] b = all_none _
built_closed p (x ∷ o) b =
    all_with (λ i. All (λ j. has (x ∷ o) j ≡ true) (parts (p i))) x o
    (λ j h. further x o j (b.1 j h))
    (λ i m j h. further x o j (built_closed p o b.2 i m j h))

-- the number of the last, and of those before it
pub num_last : (i : ℕ) (o : List ℕ) → num (i ∷ o) i ≡ length o
num_last i o = rw (eq-eqb i i refl)

pub num_before : (j : ℕ) (o : List ℕ) (i : ℕ) → has o j ≡ false → has o i ≡ true → num (j ∷ o) i ≡ num o i
num_before j o i n h = rw (ne_eqb i j (λ e. not_both (subst (λ x. has o x ≡ true) e h) n))

pub num_below : (o : List ℕ) → Distinct o → All (λ i. num o i < length o) o
num_below [] d = all_none _
num_below (x ∷ o) d =
    all_with (λ i. num (x ∷ o) i < suc (length o)) x o
    (rw (num_last x o) (omega arith))
    (λ i h. let b : num o i < length o = num_below o d.1 i h in rw (num_before x o i d.0 h) (omega arith))

-- "when its parts are done"
pub num_part : (p : ℕ → Node) (o : List ℕ) → Built p o → All (λ i. All (λ j. num o j < num o i) (parts (p i))) o
num_part p [] b = all_none _
num_part p (x ∷ o) b =
    all_with (λ i. All (λ j. num (x ∷ o) j < num (x ∷ o) i) (parts (p i))) x o
    (λ j h. rw (num_last x o, num_before x o j b.0 (b.1 j h)) (num_below o (built_distinct p o b.2) j (b.1 j h)))
    (λ i m j h. rw (num_before x o i b.0 m, num_before x o j b.0 (built_closed p o b.2 i m j h)) (num_part p o b.2 i m j h))

-- the node with a number
pub numbered_last : (x : ℕ) (o : List ℕ) → node_numbered (x ∷ o) (length o) ≡ x
numbered_last x o = rw (reverse-cons x o) (get_or_at (reverse o) x [] 0 (length o) (length-reverse o))

pub numbered_before : (x : ℕ) (o : List ℕ) (m : ℕ) → m < length o → node_numbered (x ∷ o) m ≡ node_numbered o m
numbered_before x o m l = rw (reverse-cons x o) (get_or-append (reverse o) (x ∷ []) 0 m (rw (length-reverse o) l))

pub node_of_num : (o : List ℕ) → Distinct o → All (λ i. node_numbered o (num o i) ≡ i) o
node_of_num [] d = all_none _
node_of_num (x ∷ o) d =
    all_with (λ i. node_numbered (x ∷ o) (num (x ∷ o) i) ≡ i) x o
    (ap (node_numbered (x ∷ o)) (num_last x o) ∙ numbered_last x o)
    (λ i h. ap (node_numbered (x ∷ o)) (num_before x o i d.0 h) ∙ numbered_before x o (num o i) (num_below o d.1 i h) ∙ node_of_num o d.1 i h)

lt_or_last : (m n : ℕ) → m < suc n → (m < n) ⊎ (m ≡ n)
lt_or_last m n l = ⊎_elim (λ e. inr e) (λ d. inl (omega arith)) (same_or_not m n)

pub num_of_node : (o : List ℕ) → Distinct o → (m : ℕ) → m < length o → (has o (node_numbered o m) ≡ true) × (num o (node_numbered o m) ≡ m)
num_of_node [] d m l = absurd (not-suc-le-zero l)
num_of_node (x ∷ o) d m l =
    ⊎_elim
    (λ below. let r = num_of_node o d.1 m below in subst⁻¹ Right (numbered_before x o m below) (further x o _ r.0, num_before x o _ d.0 r.0 ∙ r.1))
    (λ e. subst⁻¹ Right (ap (node_numbered (x ∷ o)) e ∙ numbered_last x o) (here x o, num_last x o ∙ sym e))
    (lt_or_last m (length o) l)
  where
    Right : ℕ → Type 0
    Right i = (has (x ∷ o) i ≡ true) × (num (x ∷ o) i ≡ m)

-- the entries of an order
pub get_d_map_in : {A : Type 0} (g : ℕ → A) (xs : List ℕ) (m : ℕ) (e : A) → m < length xs → get_or (map g xs) m e ≡ g (get_or xs m 0)
get_d_map_in g [] m e l = absurd (not-suc-le-zero l)
get_d_map_in g (x ∷ xs) zero e l = refl
get_d_map_in g (x ∷ xs) (suc m) e l = get_d_map_in g xs m e (omega arith)

pub length_entries : (p : ℕ → Node) (o : List ℕ) → length (entries p o) ≡ length o
length_entries p o = length-map (reverse o) (λ i. rename (num o) (p i)) ∙ length-reverse o

pub entry_numbered : (p : ℕ → Node) (o : List ℕ) (m : ℕ) → m < length o → get_or (entries p o) m Empty ≡ rename (num o) (p (node_numbered o m))
entry_numbered p o m l = get_d_map_in (λ i. rename (num o) (p i)) (reverse o) m Empty (rw (length-reverse o) l)

pub entry_of : (p : ℕ → Node) (o : List ℕ) → Distinct o → All (λ i. get_or (entries p o) (num o i) Empty ≡ rename (num o) (p i)) o
entry_of p o d i h = entry_numbered p o (num o i) (num_below o d i h) ∙ ap (λ j. rename (num o) (p j)) (node_of_num o d i h)

-- the numbers n - 1, .., 0
abbrev pub down : ℕ → List ℕ
down zero = []
down (suc n) = n ∷ down n

pub length_down : (n : ℕ) → length (down n) ≡ n
length_down zero = refl
length_down (suc n) = ap suc (length_down n)

pub of_down : (n : ℕ) → All (λ i. i < n) (down n)
of_down zero = all_none _
of_down (suc n) = all_with (λ i. i < suc n) n (down n) (omega arith) (λ i h. let b : i < n = of_down n i h in omega arith)

pub has_down : (n i : ℕ) → i < n → has (down n) i ≡ true
has_down zero i l = absurd (not-suc-le-zero l)
has_down (suc n) i l =
    ⊎_elim (λ b. further n (down n) i (has_down n i b)) (λ e. subst⁻¹ (λ x. has (down (suc n)) x ≡ true) e (here n (down n))) (lt_or_last i n l)

pub down_distinct : (n : ℕ) → Distinct (down n)
down_distinct zero = tt
down_distinct (suc n) = (not_true_false _ (λ h. lt_irrefl n (of_down n n h)), down_distinct n)

-- each node of an order, put at its number
pub own_numbers : (o : List ℕ) → Distinct o → map (num o) o ≡ down (length o)
own_numbers [] d = refl
own_numbers (x ∷ o) d =
    ap (λ i. i ∷ map (num (x ∷ o)) o) (num_last x o)
    ∙ ap (λ xs. length o ∷ xs) (map_alike (num (x ∷ o)) (num o) o (λ i h. num_before x o i d.0 h) ∙ own_numbers o d.1)

pub num_down : (n i : ℕ) → i < n → num (down n) i ≡ i
num_down zero i l = absurd (not-suc-le-zero l)
num_down (suc n) i l =
    ⊎_elim
    (λ b. num_before n (down n) i (down_distinct (suc n)).0 (has_down n i b) ∙ num_down n i b)
    (λ e. ap (num (down (suc n))) e ∙ num_last n (down n) ∙ length_down n ∙ sym e)
    (lt_or_last i n l)

-- an order in which every number below n, and no other, stands at its own place
pub in_place : (o : List ℕ) (n : ℕ) → Distinct o → All (λ i. i < n) o → ((i : ℕ) → i < n → has o i ≡ true) → ((i : ℕ) → i < n → num o i ≡ i) → o ≡ down n
in_place o n d below all places = all_down ∙ ap down (as_many (length o) all_down)
  where
    all_down : o ≡ down (length o)
    all_down = sym (map_same (num o) o (λ i h. places i (below i h))) ∙ own_numbers o d

    as_many : (m : ℕ) → o ≡ down m → m ≡ n
    as_many m e =
        let at_most : ¬ (n < m) = λ l. lt_irrefl n (below n (subst⁻¹ (λ xs. has xs n ≡ true) e (has_down m n l))) in
        let at_least : ¬ (m < n) = λ l. lt_irrefl m (of_down m m (subst (λ xs. has xs m ≡ true) e (all m l))) in
        omega arith
