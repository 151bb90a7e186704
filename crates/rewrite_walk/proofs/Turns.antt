-- What the functions of a walk do: a result that is kept is given again, a new one is kept, a part is walked if it is below the node, and a whole walk begins with an empty table.
-- Assumes nothing.
use Rattle.std.specs.Prelude.{Option, Some, None, Result, Ok}
use mathlib.Core.Path.{◌≡◌, sym, ap, ◌∙◌}
use mathlib.Core.List.{List}
use Prim.Native.Nat.{ℕ, ◌+◌, ◌≤◌, ◌<◌}
use native.Mathlib.Numerals.{add-one}
use lib.ListN.{length, get_or, set, replicate, length-replicate, get_or-eq_default}
use Rattle.refusals.specs.Refusals.{broken_pool}
use Rattle.refusals.specs.declared.Refusal.{Refusal}
use Rattle.pool.specs.declared.node.Node.{Node}
use Rattle.pool.specs.declared.node.Node.TheVariants.{Empty}
use Rattle.pool.specs.Pool.{Pool, refused, limit, done}
use Rattle.pool.specs.Made.{made}
use Rattle.walks.specs.Walk.{state, Went, Walk, bind, refuse, keep, once, walk_below, built, walk_from}
use Rattle.walks.proofs.Tables.{none_past_the_limit}
use Rattle.rewrite_walk.specs.Steps.{rewrite_at}
use Rattle.rewrite_walk.specs.Walked.{results_of, state_of, walked}
use Rattle.rewrite_walk.proofs.Steps.{onward, built_lifted}
use Rattle.rewrite_walk.proofs.Bounds.{walk_here}
use Rattle.rewrite_walk.proofs.Results.{result_read, result_written, none_kept}

module _ (visit : (ℕ → Walk) → ℕ → Walk) where
  module _ (P : Pool) (kept : List (Option ℕ)) (i : ℕ) (within : i < length kept) where
    -- what is done at node i, as its entry says
    at_entry : {m : Option ℕ} → get_or kept i None ≡ m → walk_below visit (i + 1) i (state P (results_of kept)) ≡ once (visit (walk_below visit i)) i m (state P (results_of kept))
    at_entry e =
        walk_here visit (state P (results_of kept)) i ∙ ap (λ (m : Option ℕ). once (visit (walk_below visit i)) i m (state P (results_of kept))) (result_read kept i within ∙ e)

    -- a result that was kept is given again
    pub given_again : {r : ℕ} → get_or kept i None ≡ Some r → done r (state P (results_of kept)) ≡ walk_below visit (i + 1) i (state P (results_of kept))
    given_again e = sym (at_entry e)

    -- else the node is visited, and its result kept
    pub visited : {o : Went} → get_or kept i None ≡ None → o ≡ bind (visit (walk_below visit i) i (state P (results_of kept))) (keep i) → o ≡ walk_below visit (i + 1) i (state P (results_of kept))
    visited e h = h ∙ sym (at_entry e)

  -- a whole walk, whose table has n entries
  pub whole :
      (P Q : Pool) (r : Result ℕ Refusal) (kept : List (Option ℕ)) (root n : ℕ)
      → walked r Q kept ≡ walk_below visit (root + 1) root (state_of P (replicate n None))
      → n ≤ limit
      → made r Q ≡ walk_from visit root P
  whole P Q r kept root n e h =
      sym (built_lifted (results_of kept) (made r Q)) ∙ ap built e ∙ ap (λ (l : List (Option ℕ)). built (walk_below visit (root + 1) root (state P l))) (none_kept n h) ∙ ap (λ (k : ℕ). built (walk_below visit k root (state P (replicate limit None)))) (add-one root)

-- the new result in the table
kept_now : {P : Pool} (kept : List (Option ℕ)) (i r : ℕ) → i < length kept → done r (state P (results_of (set kept i (Some r)))) ≡ keep i r (state P (results_of kept))
kept_now {P} kept i r within = ap (λ (l : List (Option ℕ)). done r (state P l)) (result_written kept i r within)

-- none was kept: the node was visited, which gave a result, and that is kept
pub result_kept :
    (visit : (ℕ → Walk) → ℕ → Walk) (P Q : Pool) (kept now : List (Option ℕ)) (i r : ℕ) {m : Result ℕ Refusal}
    → i < length kept
    → i < length now
    → get_or kept i None ≡ None
    → walked m Q now ≡ visit (walk_below visit i) i (state_of P kept)
    → m ≡ Ok r
    → done r (state_of Q (set now i (Some r))) ≡ walk_below visit (i + 1) i (state_of P kept)
result_kept visit P Q kept now i r within still none came e =
    visited visit P kept i within none (onward Q (results_of now) (keep i) e came (kept_now now i r still))

-- a walk from a number past the tables comes to no node
pub nowhere :
    (node : (ℕ → Walk) → ℕ → Node → Walk) (P : Pool) (root : ℕ)
    → limit ≤ root
    → ((down : ℕ → Walk) (term : ℕ) → node down term Empty ≡ refuse broken_pool)
    → refused broken_pool ≡ walk_from (rewrite_at node) root P
nowhere node P root past refuses =
    let none : ◌≡◌ {A = Option ℕ} (get_or (replicate limit None) root None) None = get_or-eq_default (replicate limit None) None {n = root} (rw (length-replicate {A = Option ℕ} limit None) past) in
    let S = state P (replicate limit None) in
    let visit = rewrite_at node in
    let refused_here : refused broken_pool ≡ visit (walk_below visit root) root S = sym (ap (λ (walk : Walk). walk S) (refuses (walk_below visit root) root)) ∙ ap (λ (n : Node). node (walk_below visit root) root n S) (sym (none_past_the_limit P.kinds P.words root past)) in
    ap built
    (ap (λ (w : Went). bind w (keep root)) refused_here
    ∙ sym (ap (λ (m : Option ℕ). once (visit (walk_below visit root)) root m S) none)
    ∙ sym (walk_here visit S root)
    ∙ ap (λ (k : ℕ). walk_below visit k root S) (add-one root))
