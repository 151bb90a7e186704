-- Demand 3 on entries, for lists of roots in tables of nodes: the entries written, and the roots' numbers, are equal exactly when the expressions have one shape; and they are in the writing order.
-- Assumes nothing.
use mathlib.Core.Path.{◌≡◌, refl, sym, ap, ◌∙◌, subst, subst⁻¹}
use mathlib.Core.Logic.{⊎_elim, ◌↔◌}
use mathlib.Core.Bool.{true, false≢true}
use mathlib.Core.List.{List, [], ◌∷◌, map, map-map}
use Prim.Native.Nat.{ℕ, zero, suc, ◌<◌, ◌≤◌, ◌-◌}
use native.Mathlib.Nat.{not-suc-le-zero}
use native.Mathlib.Omega.{arith}
use lib.ListN.{length, get_or, get_or-eq_default}
use Rattle.pool.specs.Nodes.{parts}
use Rattle.pool.specs.Pool.{limit}
use Rattle.pool.specs.declared.node.Node.{Node}
use Rattle.pool.specs.declared.node.Node.TheVariants.{Empty}
use Rattle.shape.specs.Shape.{has, rename, Reach, root, part, OneShape}
use Rattle.shape.specs.Order.{walk, num, entries, numbered, written, written_roots}
use Rattle.shape.specs.Walked.{Falls, Built, node_numbered}
use Rattle.shape.specs.Demand.{Distinct, Below}
use Rattle.shape.proofs.Lists.{All, all_none, all_with, has_map, all_map, map_alike, below_or_not}
use Rattle.shape.proofs.Renaming.{parts_rename}
use Rattle.shape.proofs.Walks.{adds, turn_adds, turn_does, built, turn_built, parts_done, walk_new}
use Rattle.shape.proofs.Along.{num_along, entries_along, turn_along, walk_along}
use Rattle.shape.proofs.Numbers.{built_distinct, built_closed, num_last, num_below, num_part, node_of_num, num_of_node, length_entries, entry_numbered, entry_of, down, own_numbers}
use Rattle.shape.proofs.Pigeonhole.{distinct_fit}
use Rattle.shape.proofs.Shapes.{shape_of_lem, shape_of_there, shape_sym, shape_trans}

-- the table of nodes that a list of entries is
abbrev pub table_of : List Node → ℕ → Node
table_of es i = get_or es i Empty

pub only : {n : ℕ} (r : ℕ) → r < n → Below n (r ∷ [])
only {n} r l = all_with (λ i. i < n) r [] l (all_none (λ i. i < n))

-- the order that the walk gives
module _ (p : ℕ → Node) (falls : Falls p) (roots : List ℕ) (below : Below limit roots) where
  pub numbered_built : Built p (numbered p roots)
  unfolding numbered
  numbered_built = turn_built p falls limit (built p falls limit) [] roots below tt

  pub numbered_distinct : Distinct (numbered p roots)
  numbered_distinct = built_distinct p (numbered p roots) numbered_built

  roots_numbered : All (λ i. has (numbered p roots) i ≡ true) roots
  unfolding numbered
  roots_numbered = turn_does p limit [] roots below

  -- just the reachable nodes are numbered
  pub reached_numbered : {i : ℕ} → Reach p roots i → has (numbered p roots) i ≡ true
  reached_numbered (root {i = i} h) = roots_numbered i h
  reached_numbered (part {i = i} {j = j} r h) = built_closed p (numbered p roots) numbered_built i (reached_numbered r) j h

  pub numbered_reached : All (Reach p roots) (numbered p roots)
  unfolding numbered
  numbered_reached j h =
      ⊎_elim (λ m. absurd (false≢true m)) (λ r. r) (turn_adds (walk p limit) (Reach p roots) (adds p (Reach p roots) (λ i r k m. part r m) limit) [] roots (λ i m. root m) j h)

  pub numbered_below : (n : ℕ) → Below n roots → Below n (numbered p roots)
  unfolding numbered
  numbered_below n b j h =
      ⊎_elim (λ m. absurd (false≢true m)) (λ l. l) (turn_adds (walk p limit) (λ i. i < n) (adds p (λ i. i < n) lower limit) [] roots b j h)
    where
      lower : (i : ℕ) → i < n → All (λ k. k < n) (parts (p i))
      lower i l k m = let f : k < i = falls i k m in omega arith

  -- as many entries as nodes numbered, at most as many as there are nodes
  pub length_written_lem : length (written p roots) ≡ length (numbered p roots)
  unfolding written
  length_written_lem = length_entries p (numbered p roots)

  pub numbered_fit : (n : ℕ) → Below n roots → length (numbered p roots) ≤ n
  numbered_fit n b = distinct_fit n (numbered p roots) numbered_distinct (numbered_below n b)

  -- the written entries as a table
  pub entry_written : (m : ℕ) → m < length (numbered p roots) → table_of (written p roots) m ≡ rename (num (numbered p roots)) (p (node_numbered (numbered p roots) m))
  unfolding written
  entry_written m l = entry_numbered p (numbered p roots) m l

  no_entry_written : (m : ℕ) → length (numbered p roots) ≤ m → table_of (written p roots) m ≡ Empty
  no_entry_written m l = get_or-eq_default (written p roots) Empty (rw length_written_lem l)

  pub written_falls : Falls (table_of (written p roots))
  written_falls m =
      ⊎_elim
      (λ l.
      let (has_it, its-num) = num_of_node o numbered_distinct m l in
      subst⁻¹ Fall (entry_written m l)
      (subst⁻¹ (λ is. All (λ j. j < m) is) (parts_rename (num o) (p (node_numbered o m)))
      (all_map (λ j. j < m) (num o) (parts (p (node_numbered o m))) (λ j h. subst (λ k. num o j < k) its-num (num_part p o numbered_built (node_numbered o m) has_it j h)))))
      (λ l. subst⁻¹ Fall (no_entry_written m l) (all_none (λ j. j < m)))
      (below_or_not m (length o))
    where
      o : List ℕ
      o = numbered p roots

      Fall : Node → Type 0
      Fall n = All (λ j. j < m) (parts n)

  -- what is written has one shape with what it is written from
  pub written_shape : OneShape p roots (table_of (written p roots)) (written_roots p roots)
  unfolding written written_roots
  written_shape =
      shape_of_lem p (table_of (written p roots)) roots (num o) (node_numbered o)
      (λ i r. node_of_num o numbered_distinct i (reached_numbered r))
      (λ i r. entry_of p o numbered_distinct i (reached_numbered r))
    where
      o : List ℕ
      o = numbered p roots

  written_shape_there : written_shape.there ≡ num (numbered p roots)
  unfolding written_shape
  written_shape_there =
      shape_of_there p (table_of (written p roots)) roots (num (numbered p roots)) (node_numbered (numbered p roots))
      (λ i r. node_of_num (numbered p roots) numbered_distinct i (reached_numbered r))
      (λ i r. entry_of p (numbered p roots) numbered_distinct i (reached_numbered r))

  pub written_roots_below : Below (length (numbered p roots)) (written_roots p roots)
  unfolding written_roots
  written_roots_below = all_map (λ i. i < length (numbered p roots)) (num (numbered p roots)) roots (λ i h. num_below (numbered p roots) numbered_distinct i (roots_numbered i h))

-- one shape takes the order along
module _ (p q : ℕ → Node) (falls_p : Falls p) (falls_q : Falls q) (roots others : List ℕ) (below : Below limit roots) (others_Below : Below limit others) (s : OneShape p roots q others) where
  one : (i j : ℕ) → Reach p roots i → Reach p roots j → s.there i ≡ s.there j → i ≡ j
  one i j r t e = sym (s.back_there i r) ∙ ap s.back e ∙ s.back_there j t

  pub numbered_along : numbered q others ≡ map s.there (numbered p roots)
  unfolding numbered
  numbered_along =
      ap (numbered q) (sym s.roots_pair)
      ∙ turn_along s.there (Reach p roots) one p q (λ i r j h. part r h) s.agree limit limit
      (walk_along s.there (Reach p roots) one p q (λ i r j h. part r h) s.agree falls_p falls_q limit limit)
      [] roots (all_none (Reach p roots)) (λ i h. root h) below
      (λ i h. others_Below (s.there i) (subst (λ is. has is (s.there i) ≡ true) s.roots_pair (has_map s.there roots i h)))

  pub same_written : written p roots ≡ written q others
  unfolding written
  same_written =
      sym (entries_along s.there (Reach p roots) one p q (λ i r j h. part r h) s.agree (numbered p roots) (numbered_reached p falls_p roots below))
      ∙ ap (entries q) (sym numbered_along)

  pub same_written_roots : written_roots p roots ≡ written_roots q others
  unfolding written_roots
  same_written_roots =
      sym (map_alike (λ i. num (map s.there (numbered p roots)) (s.there i)) (num (numbered p roots)) roots
      (λ i h. num_along s.there (Reach p roots) one (numbered p roots) (numbered_reached p falls_p roots below) i (root h)))
      ∙ sym (map-map (num (map s.there (numbered p roots))) s.there roots)
      ∙ ap (map (num (map s.there (numbered p roots)))) s.roots_pair
      ∙ ap (λ o. map (num o) others) (sym numbered_along)

-- "equal .. exactly when the expressions have one shape"
pub one_shape_is_same_entries : (p q : ℕ → Node) → Falls p → Falls q → (roots others : List ℕ) → Below limit roots → Below limit others
    → ((written p roots ≡ written q others) × (written_roots p roots ≡ written_roots q others)) ↔ OneShape p roots q others
one_shape_is_same_entries p q falls_p falls_q roots others below others_Below = (
  λ same.
      shape_trans
      (written_shape p falls_p roots below)
      (subst⁻¹ (λ is. OneShape (table_of (written p roots)) is q others) same.1
      (subst⁻¹ (λ es. OneShape (table_of es) (written_roots q others) q others) same.0
      (shape_sym (written_shape q falls_q others others_Below)))),
  λ s. (same_written p q falls_p falls_q roots others below others_Below s, same_written_roots p q falls_p falls_q roots others below others_Below s),
)

-- "the root is last"
root_last : (p : ℕ → Node) (k r : ℕ) → r < k → (o : List ℕ) × (walk p k [] r ≡ r ∷ o)
root_last p zero r l = absurd (not-suc-le-zero l)
root_last p (suc k) r l = (parts_done p k [] r, walk_new p k [] r refl)

pub last_root : (p : ℕ → Node) → Falls p → (r : ℕ) → r < limit → written_roots p (r ∷ []) ≡ (length (written p (r ∷ [])) - 1) ∷ []
unfolding written_roots written numbered
last_root p falls r l =
    let (o, e) = root_last p limit r l in
    ap (λ m. m ∷ [])
    (ap (λ done. num done r) e ∙ num_last r o ∙ less (length o) ∙ ap (λ m. m - 1) (sym (length_entries p (walk p limit [] r) ∙ ap length e)))
  where
    less : (n : ℕ) → n ≡ suc n - 1
    less n = omega arith

-- so of one root the entries tell all
pub one_shape_is_same_entries_of_one : (p q : ℕ → Node) → Falls p → Falls q → (r s : ℕ) → r < limit → s < limit
    → (written p (r ∷ []) ≡ written q (s ∷ [])) ↔ OneShape p (r ∷ []) q (s ∷ [])
one_shape_is_same_entries_of_one p q falls_p falls_q r s l m =
    let both = one_shape_is_same_entries p q falls_p falls_q (r ∷ []) (s ∷ []) (only r l) (only s m) in
    (λ e. both.0 (e, last_root p falls_p r l ∙ ap (λ es. (length es - 1) ∷ []) e ∙ sym (last_root q falls_q s m)), λ s. (both.1 s).0)

-- written entries are in the writing order
pub written_in_order : (p : ℕ → Node) → Falls p → (roots : List ℕ) → Below limit roots
    → numbered (table_of (written p roots)) (written_roots p roots) ≡ down (length (written p roots))
written_in_order p falls roots below =
    numbered_along p (table_of (written p roots)) falls (written_falls p falls roots below) roots (written_roots p roots) below few (written_shape p falls roots below)
    ∙ ap (λ f. map f (numbered p roots)) (written_shape_there p falls roots below)
    ∙ own_numbers (numbered p roots) (numbered_distinct p falls roots below)
    ∙ ap down (sym (length_written_lem p falls roots below))
  where
    few : Below limit (written_roots p roots)
    few i h = let a : i < length (numbered p roots) = written_roots_below p falls roots below i h in let b : length (numbered p roots) ≤ limit = numbered_fit p falls roots below limit below in omega arith
