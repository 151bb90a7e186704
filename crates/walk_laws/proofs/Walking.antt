-- A walk that builds gives at each node a result that meets the node's aim, if what it does at a node does; results that are kept meet theirs all along.
-- Assumes nothing.
use Rattle.std.specs.Prelude.{Option, Some, None}
use mathlib.Core.Path.{◌≡◌, refl, sym, subst}
use mathlib.Core.Bool.{Bool, true, false, cond}
use Prim.Native.Nat.{ℕ, zero, suc}
use lib.Dec.{eqb}
use lib.ListN.{get_or, replicate}
use borrow.Author.Tests.{eqb-true}
use Rattle.pool.specs.Pool.{Pool, Out, Run, limit, done, refused}
use Rattle.constructor_laws.specs.Grown.{Grown}
use Rattle.constructor_laws.specs.Keeps.{Keeps}
use Rattle.constructor_laws.proofs.Growth.{grown_by_nothing, grown_by_both}
use Rattle.walks.specs.Walk.{State, state, Went, Walk, bind, lifted, lift, keep, once, walk_below, built, walk_from}
use Rattle.constructor_laws.proofs.Giving.{Aims, Gives, gave, ended, set_entry}

-- from the pool P₀ on, with the aim of each node of it
module _ (W : Aims ℕ) (P₀ : Pool) (goal : ℕ → W.Aim) where
  -- a result that is kept for node j: none, or one that meets its aim
  abbrev Kept_for : Pool → ℕ → Option ℕ → Type 0
  Kept_for P j None = Unit {0}
  Kept_for P j (Some r) = W.Meets (goal j) P r

  pub record Good (S : State) : Type 0 where
    pub keeps : Keeps S.pool
    pub grown : Grown P₀ S.pool
    pub results : (j : ℕ) → Kept_for S.pool j (get_or S.kept j None)

  -- in a grown pool a kept result stays right
  kept_later : {P Q : Pool} → Keeps P → Grown P Q → (j : ℕ) (m : Option ℕ) → Kept_for P j m → Kept_for Q j m
  kept_later k g j None h = tt
  kept_later k g j (Some r) h = W.later k g h

  -- and at first none is kept
  none_kept : (n m j : ℕ) → Kept_for P₀ j (get_or (replicate n None) m None)
  none_kept zero m j = tt
  none_kept (suc n) zero j = tt
  none_kept (suc n) (suc m) j = none_kept n m j

  -- a walk from S that was refused, or came to a node that meets the aim
  pub data Walked (S : State) (a : W.Aim) : Went → Type 0 where
    came_to : {r : ℕ} {T : State} → Good T → Grown S.pool T.pool → W.Meets a T.pool r → Walked S a (done r T)
    ended_walk : {k : ℕ} → Walked S a (refused k)

  -- a walk from each node of which C holds
  abbrev pub Walks : (ℕ → Type 0) → (ℕ → Walk) → Type 0
  Walks C walk = (i : ℕ) → C i → (S : State) → Good S → Walked S (goal i) (walk i S)

module _ {W : Aims ℕ} {P₀ : Pool} {goal : ℕ → W.Aim} where
  walked_from : {S T : State} {a : W.Aim} {w : Went} → Grown S.pool T.pool → Walked W P₀ goal T a w → Walked W P₀ goal S a w
  walked_from g (came_to good h m) = came_to good (grown_by_both g h) m
  walked_from g ended_walk = ended_walk

  -- one step, and then another
  pub walked_next :
      {S : State} {a b : W.Aim} {w : Went} {next : ℕ → Walk}
      → Walked W P₀ goal S a w
      → ((r : ℕ) (T : State) → Good W P₀ goal T → Grown S.pool T.pool → W.Meets a T.pool r → Walked W P₀ goal T b (next r T))
      → Walked W P₀ goal S b (bind w next)
  walked_next (came_to {r} {T} good g m) go = walked_from g (go r T good g m)
  walked_next ended_walk go = ended_walk

  pub walked_here : {S : State} {a : W.Aim} {i : ℕ} → Good W P₀ goal S → W.Meets a S.pool i → Walked W P₀ goal S a (done i S)
  walked_here {S} good m = came_to good (grown_by_nothing S.pool) m

  -- the walks from both parts, left first
  pub both_walked :
      {C : ℕ → Type 0} {down : ℕ → Walk} {S : State} {a : W.Aim} {more : ℕ → ℕ → Walk}
      → Walks W P₀ goal C down → Good W P₀ goal S → (i j : ℕ) → C i → C j
      → ((x y : ℕ) (T : State) → Good W P₀ goal T → W.Meets (goal i) T.pool x → W.Meets (goal j) T.pool y → Walked W P₀ goal T a (more x y T))
      → Walked W P₀ goal S a (bind (down i S) (λ x T. bind (down j T) (λ y. more x y)))
  both_walked {S = S} walks good i j ci cj go =
      walked_next (walks i ci S good) (λ x T good_T g_t mx.
      walked_next (walks j cj T good_T) (λ y U good_U g_u my. go x y U good_U (W.later good_T.keeps g_u mx) my))

  lifted_walked : {S : State} {a : W.Aim} {o : Out} → Good W P₀ goal S → Gives S.pool (W.Meets a) o → Walked W P₀ goal S a (lifted S.kept o)
  lifted_walked {S} good (gave k g m) =
      came_to (record { keeps = k; grown = grown_by_both good.grown g; results = λ j. kept_later W P₀ goal good.keeps g j (get_or S.kept j None) (good.results j) }) g m
  lifted_walked good ended = ended_walk

  -- a constructor called by a walk
  pub lift_walked : {S : State} {a : W.Aim} (run : Run) → Good W P₀ goal S → Gives S.pool (W.Meets a) (run S.pool) → Walked W P₀ goal S a (lift run S)
  lift_walked run good h = lifted_walked good h

  keep_walked : {S : State} (i r : ℕ) → Good W P₀ goal S → W.Meets (goal i) S.pool r → Walked W P₀ goal S (goal i) (keep i r S)
  keep_walked {S} i r good m =
      came_to (record { keeps = good.keeps; grown = good.grown; results = set_entry None (Kept_for W P₀ goal S.pool) S.kept i (Some r) m good.results }) (grown_by_nothing S.pool) m

  once_walked : (visit : ℕ → Walk) {S : State} (i : ℕ) (kept : Option ℕ) → Good W P₀ goal S → Kept_for W P₀ goal S.pool i kept → Walked W P₀ goal S (goal i) (visit i S) → Walked W P₀ goal S (goal i) (once visit i kept S)
  once_walked visit i None good h w = walked_next w (λ r T good_T g m. keep_walked i r good_T m)
  once_walked visit i (Some r) good h w = walked_here good h

  -- ---- walks

  built_gives : {S : State} {a : W.Aim} {w : Went} → Walked W P₀ goal S a w → Gives S.pool (W.Meets a) (built w)
  built_gives (came_to good g m) = gave good.keeps g m
  built_gives ended_walk = ended

  module _ {C : ℕ → Type 0} {visit : (ℕ → Walk) → ℕ → Walk} (at : (down : ℕ → Walk) → Walks W P₀ goal C down → Walks W P₀ goal C (visit down)) where
    -- with one node more below the bound
    more_walked : (k : ℕ) → Walks W P₀ goal C (walk_below visit k) → Walks W P₀ goal C (walk_below visit (suc k))
    unfolding walk_below
    more_walked k less i c S good = go (eqb i k) refl
      where
        go : (t : Bool) → eqb i k ≡ t → Walked W P₀ goal S (goal i) (cond t (once (visit (walk_below visit k)) k (get_or S.kept k None) S) (walk_below visit k i S))
        go true e =
            subst (λ j. Walked W P₀ goal S (goal j) (once (visit (walk_below visit k)) k (get_or S.kept k None) S)) (sym (eqb-true i k e))
            (once_walked (visit (walk_below visit k)) k (get_or S.kept k None) good (good.results k) (at (walk_below visit k) less k (subst C (eqb-true i k e) c) S good))
        go false e = less i c S good

    walk_below_walked : (k : ℕ) → Walks W P₀ goal C (walk_below visit k)
    unfolding walk_below
    walk_below_walked zero i c S good = ended_walk
    walk_below_walked (suc k) i c S good = more_walked k (walk_below_walked k) i c S good

    -- a whole walk
    pub walk_gives : Keeps P₀ → (root : ℕ) → C root → Gives P₀ (W.Meets (goal root)) (walk_from visit root P₀)
    walk_gives k root c =
        built_gives (walk_below_walked (suc root) root c (state P₀ (replicate limit None)) (record { keeps = k; grown = grown_by_nothing P₀; results = λ j. none_kept W P₀ goal limit j j }))
