-- Every walk only appends, if what it does at a node does: one step after another, a constructor called by a walk, and a result that is kept; the rest is induction on the bound.
-- Assumes nothing.
use Rattle.std.specs.Prelude.{Option, Some, None}
use mathlib.Core.Bool.{Bool, true, false, cond}
use Prim.Native.Nat.{ℕ, zero, suc}
use lib.Dec.{eqb}
use lib.ListN.{get_or, replicate}
use Rattle.pool.specs.Pool.{Pool, Out, done, refused, Run, limit}
use Rattle.constructor_laws.specs.Grown as pools
use Rattle.constructor_laws.proofs.Growth as runs
use Rattle.constructor_laws.proofs.Growth.{grown_by_nothing, grown_by_both}
use Rattle.constructor_laws.proofs.Going.{Going, Ways, then_goes, yield_goes, refuse_goes}
use Rattle.walks.specs.Walk.{State, state, Went, Walk, bind, yield, refuse, lifted, lift, keep, once, walk_below, built, walk_from}
use Rattle.walk_laws.specs.Promised.{GrownPool, Grows}

-- a walk that only appends, from any state
abbrev pub Growing : Walk → Type 0
Growing walk = Going GrownPool walk

pool_ways : Ways GrownPool
pool_ways = record { by_nothing = λ S. grown_by_nothing S.pool; by_both = λ g h. grown_by_both g h }

-- one step after the other, so that a proof is the same `do` block as the walk
infixl 1 ◌>>=◌
pub ◌>>=◌ : {walk : Walk} {next : ℕ → Walk} → Growing walk → ((i : ℕ) → Growing (next i)) → Growing (λ S. bind (walk S) next)
g >>= h = then_goes pool_ways g h

pub yield_grows : (i : ℕ) → Growing (yield i)
yield_grows i = yield_goes pool_ways i

pub refuse_grows : (k : ℕ) → Growing (refuse k)
refuse_grows k = refuse_goes k

lifted_grows : (S : State) (o : Out) → pools.Grows S.pool o → Grows S (lifted S.kept o)
lifted_grows S (done i P) g = g
lifted_grows S (refused k) g = tt

-- a constructor called by a walk
pub lift_grows : {run : Run} → runs.Growing run → Growing (lift run)
lift_grows {run} g = record { grows = λ S. lifted_grows S (run S.pool) (g.grows S.pool) }

keep_grows : (i r : ℕ) → Growing (keep i r)
keep_grows i r = record { grows = λ S. grown_by_nothing S.pool }

once_grows : (visit : ℕ → Walk) (i : ℕ) (m : Option ℕ) → Growing (visit i) → Growing (once visit i m)
once_grows visit i None g = record { grows = (g >>= keep_grows i).grows }
once_grows visit i (Some r) g = yield_grows r

-- what is done at a node only appends, if the walk of its parts does
abbrev pub GrowsAt : ((ℕ → Walk) → ℕ → Walk) → Type 0
GrowsAt visit = (down : ℕ → Walk) → ((i : ℕ) → Growing (down i)) → (i : ℕ) → Growing (visit down i)

module _ {visit : (ℕ → Walk) → ℕ → Walk} (at : GrowsAt visit) where
  -- with one node more below the bound
  more_grows : (k : ℕ) → ((i : ℕ) → Growing (walk_below visit k i)) → (i : ℕ) → Growing (walk_below visit (suc k) i)
  unfolding walk_below
  more_grows k less i = record { grows = λ S. go S (eqb i k) }
    where
      go : (S : State) (here : Bool) → Grows S (cond here (once (visit (walk_below visit k)) k (get_or S.kept k None) S) (walk_below visit k i S))
      go S true = (once_grows (visit (walk_below visit k)) k (get_or S.kept k None) (at (walk_below visit k) less k)).grows S
      go S false = (less i).grows S

  pub walk_below_grows : (k i : ℕ) → Growing (walk_below visit k i)
  unfolding walk_below
  walk_below_grows zero i = record { grows = λ S. tt }
  walk_below_grows (suc k) i = more_grows k (walk_below_grows k) i

  built_grows : (S : State) (w : Went) → Grows S w → pools.Grows S.pool (built w)
  built_grows S (done i T) g = g
  built_grows S (refused k) g = tt

  -- a whole walk
  pub walk_grows : (root : ℕ) → runs.Growing (walk_from visit root)
  walk_grows root = record { grows = λ P. from P (state P (replicate limit None)) }
    where
      from : (P : Pool) (S : State) → pools.Grows S.pool (built (walk_below visit (suc root) root S))
      from P S = built_grows S (walk_below visit (suc root) root S) ((walk_below_grows (suc root) root).grows S)
