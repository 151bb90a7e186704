-- What the walk does: a kept expansion is left, a new one is kept, and after the walk of a part its expansion is found at its number.
-- Assumes nothing.
use Rattle.std.specs.Prelude.{Some, None, IsSome}
use mathlib.Core.Path.{◌≡◌, sym, ap, ◌∙◌}
use mathlib.Core.List.{List, [], ◌∷◌}
use Prim.Native.Nat.{ℕ, ◌+◌, ◌≤◌, ◌<◌}
use native.Mathlib.Numerals.{add-one}
use native.Mathlib.Omega.{arith}
use lib.ListN.{length, get_or, set, replicate, length-replicate}
use Rattle.pool.specs.Pool.{Pool, limit, node_at, done, refused}
use Rattle.pool.specs.declared.node.Node.{Node}
use Rattle.taylor.specs.Work.{Result}
use Rattle.taylor.specs.Expansion.{Expansion}
use Rattle.taylor.specs.Expand.{Kept, State, state, Went, Walk, bind, lifted, keep, once, Point, expand_node, expand_at, expand_below, expanded, expand}
use Rattle.expand_laws.proofs.Bounds.{expand_here, below, above}
use Rattle.expand_laws.proofs.Holding.{Came, came}
use Rattle.expand.specs.Nodes.{visits, node_work}
use Rattle.expand.specs.Results.{results_of, expansion_at, IsKept, AllKept}
use Rattle.expand.proofs.Parts.{none_made, one_stopped, one_made, left_stopped, right_stopped, two_made}
use Rattle.expand.proofs.Results.{results_long, result_at, result_set, expansion_set, none_there, some_there, stands_there, is_kept, is_there}

abbrev table : Pool → List Kept → State
table P kept = state P (results_of kept)

-- ---- an expansion is kept
pub now_kept :
    (kept : List Kept) (i : ℕ) {o : Result Expansion} {e : Expansion} {Q : Pool} → i < length kept → done e Q ≡ o
    → done (expansion_at (set kept i (Some e)) i) (table Q (set kept i (Some e))) ≡ bind (lifted (results_of kept) o) (keep i)
now_kept kept i {o} {e} {Q} l h =
    rw (expansion_set kept i l e, result_set kept i l (Some e)) (ap (λ (r : Result Expansion). bind (lifted (results_of kept) r) (keep i)) h)

pub not_kept : (kept : List Kept) (i : ℕ) {o : Result Expansion} {k : ℕ} → refused k ≡ o → refused k ≡ bind (lifted (results_of kept) o) (keep i)
not_kept kept i h = ap (λ (r : Result Expansion). bind (lifted (results_of kept) r) (keep i)) h

-- ---- a part was walked
module _ (v : ℕ) (x : Point) (order i : ℕ) (S : State) (long : length S.results ≡ limit) (a : ℕ) (P₁ : Pool) (kept₁ : List Kept)
    (most : i < length kept₁) (small : length kept₁ ≤ limit) (walked : done (expansion_at kept₁ a) (table P₁ kept₁) ≡ expand_below v x order i a S) where
  part_came : Came S i a (expansion_at kept₁ a) (table P₁ kept₁)
  part_came = came v x order i a (sym walked)

  part_there : get_or (results_of kept₁) a None ≡ Some (expansion_at kept₁ a)
  part_there = part_came.there (rw long (omega (arith, part_came.below)))

  pub part_kept : IsKept kept₁ a
  part_kept = is_kept kept₁ a (omega (arith, part_came.below)) part_there

-- ---- at node i, below the bound
module _ (v : ℕ) (x : Point) (order bound i : ℕ) (P : Pool) (kept : List Kept) (l : i < bound) (within : bound ≤ length kept) (most : length kept ≤ limit) where
  abbrev down : ℕ → Walk
  down = expand_below v x order i

  abbrev start : State
  start = table P kept

  long : length start.results ≡ limit
  long = results_long kept most

  visit : (r : Kept) → get_or kept i None ≡ r → expand_below v x order bound i start ≡ once (expand_at v x order down) i r start
  visit r e =
      sym (below v x order start bound i l) ∙ expand_here v x order start i
      ∙ ap (λ (q : Kept). once (expand_at v x order down) i q start) (result_at kept i (omega arith) ∙ e)

  -- what is kept for it is left
  pub left_as_kept : IsSome (get_or kept i None) → done (expansion_at kept i) start ≡ expand_below v x order bound i start
  left_as_kept h = sym (visit (Some (expansion_at kept i)) (stands_there kept i (omega arith) h))

  -- else it is visited, and what is made of it kept
  module _ (empty : get_or kept i None ≡ None) {node : Node} (found : node ≡ node_at P i) where
    visits_now : bind (expand_node v x order down i node start) (keep i) ≡ expand_below v x order bound i start
    visits_now = ap (λ (m : Node). bind (expand_node v x order down i m start) (keep i)) found ∙ sym (visit None empty)

    abbrev Made : List Kept → Pool → Went → Type 0
    Made kept' Q w = w ≡ bind (lifted (results_of kept') (node_work v x order (expansion_at kept') i node Q)) (keep i)

    pub made_alone : {w : Went} → [] ≡ visits node → Made kept P w → w ≡ expand_below v x order bound i start
    made_alone e h = h ∙ ap (λ (o : Went). bind o (keep i)) (none_made v x order i node down start (expansion_at kept) (sym e)) ∙ visits_now

    module _ {a : ℕ} (e : a ∷ [] ≡ visits node) where
      pub one_refused : {k : ℕ} → refused k ≡ down a start → refused k ≡ expand_below v x order bound i start
      one_refused h = ap (λ (o : Went). bind o (keep i)) (one_stopped v x order i node down start (sym e) (sym h)) ∙ visits_now

      module _ (P₁ : Pool) (kept₁ : List Kept) (same : length kept₁ ≡ length kept) (h : done (expansion_at kept₁ a) (table P₁ kept₁) ≡ down a start) where
        pub one_there : AllKept kept₁ (visits node)
        one_there = rw (← e) (part_kept v x order i start long a P₁ kept₁ (omega arith) (omega arith) h, tt)

        pub made_of_one : {w : Went} → Made kept₁ P₁ w → w ≡ expand_below v x order bound i start
        made_of_one g = g ∙ ap (λ (o : Went). bind o (keep i)) (one_made v x order i node down start (sym e) (expansion_at kept₁) (sym h)) ∙ visits_now

    module _ {a b : ℕ} (e : a ∷ b ∷ [] ≡ visits node) where
      pub left_refused : {k : ℕ} → refused k ≡ down a start → refused k ≡ expand_below v x order bound i start
      left_refused h = ap (λ (o : Went). bind o (keep i)) (left_stopped v x order i node down start (sym e) (sym h)) ∙ visits_now

      module _ (P₁ : Pool) (kept₁ : List Kept) (same : length kept₁ ≡ length kept) (h : done (expansion_at kept₁ a) (table P₁ kept₁) ≡ down a start) where
        pub right_refused : {k : ℕ} → refused k ≡ down b (table P₁ kept₁) → refused k ≡ expand_below v x order bound i start
        right_refused g = ap (λ (o : Went). bind o (keep i)) (right_stopped v x order i node down start (sym e) (sym h) (sym g)) ∙ visits_now

        module _ (P₂ : Pool) (kept₂ : List Kept) (same₂ : length kept₂ ≡ length kept) (g : done (expansion_at kept₂ b) (table P₂ kept₂) ≡ down b (table P₁ kept₁)) where
          long₁ : length (results_of kept₁) ≡ limit
          long₁ = results_long kept₁ (omega arith)

          -- the first part's is the same as before the walk of the second
          left_stays : get_or (results_of kept₂) a None ≡ Some (expansion_at kept₁ a)
          left_stays =
              (part_came v x order i (table P₁ kept₁) long₁ b P₂ kept₂ (omega arith) (omega arith) g).held.stays a (expansion_at kept₁ a)
              (part_there v x order i start long a P₁ kept₁ (omega arith) (omega arith) h)

          left_below : a < i
          left_below = (part_came v x order i start long a P₁ kept₁ (omega arith) (omega arith) h).below

          left_same : down a start ≡ done (expansion_at kept₂ a) (table P₁ kept₁)
          left_same = rw (is_there kept₂ a (omega (arith, left_below)) left_stays) (sym h)

          pub both_there : AllKept kept₂ (visits node)
          both_there =
              rw (← e)
              (is_kept kept₂ a (omega (arith, left_below)) left_stays, (part_kept v x order i (table P₁ kept₁) long₁ b P₂ kept₂ (omega arith) (omega arith) g, tt))

          pub made_of_both : {w : Went} → Made kept₂ P₂ w → w ≡ expand_below v x order bound i start
          made_of_both q = q ∙ ap (λ (o : Went). bind o (keep i)) (two_made v x order i node down start (sym e) (expansion_at kept₂) left_same (sym g)) ∙ visits_now

-- ---- a whole walk, with nothing kept at first
module _ (v : ℕ) (x : Point) (order root : ℕ) (P : Pool) (blank : List Kept) (none : results_of blank ≡ replicate limit None) where
  pub whole_walk : {w : Went} → w ≡ expand_below v x order (root + 1) root (table P blank) → expanded w ≡ expand root v x order P
  whole_walk h =
      ap expanded
      (h
      ∙ ap (λ (results : List Kept). expand_below v x order (root + 1) root (state P results)) none
      ∙ ap (λ (n : ℕ). expand_below v x order n root (state P (replicate limit None))) (add-one root))

  pub root_kept :
      (Q : Pool) (kept : List Kept) → root < length blank → length blank ≤ limit → length kept ≡ length blank
      → done (expansion_at kept root) (table Q kept) ≡ expand_below v x order (root + 1) root (table P blank) → IsKept kept root
  root_kept Q kept l most same h =
      let there = (came v x order (root + 1) root (sym h)).there (rw none (rw (length-replicate {A = Kept} limit None) (omega arith))) in
      is_kept kept root (omega arith) there

-- what the walk's contract is found by
pub ruleset walks = (above, some_there, none_there, left_as_kept, made_alone, one_refused, left_refused, right_refused)

pub ruleset whole = (whole_walk, root_kept)
