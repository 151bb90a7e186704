-- A walk over an expression that builds: left before right, "and keep each visited node's result for that call, so a shared part stays shared".
-- Assumes nothing.
use Rattle.std.specs.Prelude.{cond, List, Option, Some, None, ℕ, zero, suc, eqb, get_or, set, replicate}
use Rattle.refusals.specs.Refusals.{broken_pool}
use Rattle.pool.specs.Pool.{Pool, Out, Result, done, refused, WorkOn, Run, limit}
pub use Rattle.pool.specs.Work.{bind, ◌>>=◌, yield, refuse}

-- the pool, and for each node number its result, if one is kept
pub record State : Type 0 where
  pub pool : Pool
  pub kept : List (Option ℕ)

abbrev pub state : Pool → List (Option ℕ) → State
state P kept = record { pool = P; kept = kept }

-- a walk gives a node number
abbrev pub Went : Type 0
Went = Result State ℕ

abbrev pub Walk : Type 0
Walk = WorkOn State ℕ

-- a constructor called by a walk: it knows the pool alone
abbrev pub lifted : List (Option ℕ) → Out → Went
lifted kept (done i P) = done i (state P kept)
lifted kept (refused k) = refused k

abbrev pub lift : Run → Walk
lift run S = lifted S.kept (run S.pool)

-- the result of node i is r
abbrev pub keep : ℕ → ℕ → Walk
keep i r S = done r (state S.pool (set S.kept i (Some r)))

-- a result that was kept is given again; else the node is visited and its result kept
abbrev pub once : (ℕ → Walk) → ℕ → Option ℕ → Walk
once visit i None S = (visit i >>= keep i) S
once visit i (Some r) S = done r S

-- the walk from node i, where i is below the bound; `visit` says what is done at a node, given the walk of its parts, whose numbers are smaller
unfoldable pub walk_below : ((ℕ → Walk) → ℕ → Walk) → ℕ → ℕ → Walk
walk_below visit zero i S = refused broken_pool
walk_below visit (suc k) i S =
    cond (eqb i k) (once (visit (walk_below visit k)) k (get_or S.kept k None) S) (walk_below visit k i S)

abbrev pub built : Went → Out
built (done i S) = done i S.pool
built (refused k) = refused k

-- a whole walk: no result is kept at first, and the results go with the call
abbrev pub walk_from : ((ℕ → Walk) → ℕ → Walk) → ℕ → Run
walk_from visit root P = built (walk_below visit (suc root) root (state P (replicate limit None)))
