-- A walk holds on to what is kept: the results that it finds stay, and the node that it comes to has its own.
-- Assumes nothing.
use Rattle.std.specs.Prelude.{Some, None}
use mathlib.Core.Bool.{Bool, true, false}
use mathlib.Core.Path.{◌≡◌, refl, ◌∙◌}
use Prim.Native.Nat.{ℕ, zero, suc, ◌<◌}
use native.Mathlib.Omega.{arith}
use native.Mathlib.Decide.{ℕ_discrete}
use lib.Dec.{eqb}
use lib.ListN.{length, get_or, set, length-set}
use lib.Seq.{get_or-set_same, get_or-set_other}
use borrow.Author.Tests.{eq-eqb, ne_eqb}
use Rattle.refusals.specs.Refusals.{broken_pool, max_reached}
use Rattle.pool.specs.declared.node.Node.{Node}
use Rattle.pool.specs.declared.node.Node.TheVariants.{Empty, Variable, Lit, Add, Mul, Div, Exp, Log, Pow, Max}
use Rattle.pool.specs.Pool.{node_at, done, refused}
use Rattle.constructor_laws.specs.Grown.{Goes}
use Rattle.constructor_laws.proofs.Going.{Going, Ways, then_goes, yield_goes, refuse_goes}
use Rattle.taylor.specs.Work.{Result, Work}
use Rattle.taylor.specs.Work as work
use Rattle.taylor.specs.Expansion.{Expansion, var, add_to, times, quotient, exponential, logarithm, power}
use Rattle.taylor.specs.declared.expansion.Expansion.TheVariants.{Constant}
use Rattle.taylor.specs.Expand.{Kept, State, state, Went, Walk, bind, yield, refuse, lifted, lift, keep, once, Point, point_node, of_variable, expand_node, expand_at, expand_below}

-- from one state to another, what was kept has stayed, and the table is as long
pub record Held (S T : State) : Type 0 where
  pub long : length T.results ≡ length S.results
  pub stays : (j : ℕ) (d : Expansion) → get_or S.results j None ≡ Some d → get_or T.results j None ≡ Some d

held_by_nothing : (S : State) → Held S S
held_by_nothing S = record { long = refl; stays = λ j d h. h }

pub held_by_both : {S T U : State} → Held S T → Held T U → Held S U
held_by_both g h = record { long = h.long ∙ g.long; stays = λ j d k. h.stays j d (g.stays j d k) }

abbrev Holds : State → Went → Type 0
Holds S w = Goes Held S w

-- a walk that holds on to what is kept, from any state
abbrev Holding : Walk → Type 0
Holding walk = Going Held walk

held_ways : Ways Held
held_ways = record { by_nothing = held_by_nothing; by_both = held_by_both }

-- one step after the other, so that a proof is the same `do` block as the walk
infixl 1 ◌>>=◌
◌>>=◌ : {walk : Walk} {next : Expansion → Walk} → Holding walk → ((e : Expansion) → Holding (next e)) → Holding (λ S. bind (walk S) next)
g >>= h = then_goes held_ways g h

yield_holds : (e : Expansion) → Holding (yield e)
yield_holds e = yield_goes held_ways e

refuse_holds : (k : ℕ) → Holding (refuse k)
refuse_holds k = refuse_goes k

lifted_holds : (S : State) (r : Result Expansion) → Holds S (lifted S.results r)
lifted_holds S (done e P) = record { long = refl; stays = λ j d h. h }
lifted_holds S (refused k) = tt

-- an operation knows the pool alone
lift_holds : (work : Work Expansion) → Holding (lift work)
lift_holds work = record { grows = λ S. lifted_holds S (work S.pool) }

module _ (v : ℕ) (x : Point) (order : ℕ) where
  leaf_holds : (sought : Bool) (term : ℕ) → Holding (of_variable sought term v x order)
  leaf_holds true term = lift_holds (λ P. work.bind (point_node v x P) (λ p. var p order))
  leaf_holds false term = yield_holds (Constant term)

  module _ {down : ℕ → Walk} (g : (i : ℕ) → Holding (down i)) (term : ℕ) where
    node_holds : (n : Node) → Holding (expand_node v x order down term n)
    node_holds Empty = refuse_holds broken_pool
    node_holds (Variable u) = leaf_holds (eqb u v) term
    node_holds (Lit z) = yield_holds (Constant term)
    node_holds (Add a b) = do
      s ← g a
      t ← g b
      lift_holds (add_to s t)
    node_holds (Mul a b) = do
      s ← g a
      t ← g b
      lift_holds (times s t)
    node_holds (Div a b) = do
      s ← g a
      t ← g b
      lift_holds (quotient s t)
    node_holds (Exp a) = do
      s ← g a
      lift_holds (exponential s)
    node_holds (Log a) = do
      s ← g a
      lift_holds (logarithm s)
    node_holds (Pow a e) = do
      s ← g a
      lift_holds (power s e)
    node_holds (Max a b) = refuse_holds max_reached

  at_holds : {down : ℕ → Walk} → ((i : ℕ) → Holding (down i)) → (i : ℕ) → Holding (expand_at v x order down i)
  at_holds g i = record { grows = λ S. (node_holds g i (node_at S.pool i)).grows S }

-- a walk below the bound k from node i came to the expansion e: it is kept for the node
pub record Came (S : State) (k i : ℕ) (e : Expansion) (T : State) : Type 0 where
  pub below : i < k
  pub held : Held S T
  pub there : i < length S.results → get_or T.results i None ≡ Some e

abbrev Comes : State → ℕ → ℕ → Went → Type 0
Comes S k i (done e T) = Came S k i e T
Comes S k i (refused n) = Unit {0}

comes_holds : (S : State) (k i : ℕ) (w : Went) → Comes S k i w → Holds S w
comes_holds S k i (done e T) c = c.held
comes_holds S k i (refused n) c = tt

further : (S : State) (k i : ℕ) (w : Went) → Comes S k i w → Comes S (suc k) i w
further S k i (done e T) c = record { below = omega (arith, c.below); held = c.held; there = c.there }
further S k i (refused n) c = tt

module _ (S : State) (k : ℕ) where
  -- where nothing was kept for node k, keeping its own changes nothing else
  kept_held : (T : State) (e : Expansion) → get_or S.results k None ≡ None → Held S T → Held S (state T.pool (set T.results k (Some e)))
  kept_held T e empty h =
      record { long = length-set T.results k (Some e) ∙ h.long; stays = λ j d there. go j d there (ℕ_discrete j k) }
    where
      never : (j : ℕ) (d : Expansion) → get_or S.results j None ≡ Some d → j ≡ k → ⊥
      never j d there same = let z : ◌≡◌ {A = ℕ} 0 1 = cc in omega arith

      go : (j : ℕ) (d : Expansion) → get_or S.results j None ≡ Some d → Dec (j ≡ k) → get_or (set T.results k (Some e)) j None ≡ Some d
      go j d there (yes same) = absurd (never j d there same)
      go j d there (no other) = get_or-set_other T.results k j (Some e) None other ∙ h.stays j d there

  kept_comes : get_or S.results k None ≡ None → (w : Went) → Holds S w → Comes S (suc k) k (bind w (keep k))
  kept_comes empty (done e T) h =
      record {
        below = omega arith;
        held = kept_held T e empty h;
        there = λ l. get_or-set_same T.results k (Some e) None (omega (arith, h.long, l));
      }
  kept_comes empty (refused n) h = tt

  once_comes : (visit : ℕ → Walk) → Holding (visit k) → (r : Kept) → get_or S.results k None ≡ r → Comes S (suc k) k (once visit k r S)
  once_comes visit g None e = kept_comes e (visit k S) (g.grows S)
  once_comes visit g (Some d) e = record { below = omega arith; held = held_by_nothing S; there = λ l. e }

module _ (v : ℕ) (x : Point) (order : ℕ) where
  -- with one node more below the bound
  more_comes : (k : ℕ) → ((i : ℕ) (S : State) → Comes S k i (expand_below v x order k i S)) → (i : ℕ) (S : State) → Comes S (suc k) i (expand_below v x order (suc k) i S)
  unfolding expand_below
  more_comes k less i S = go (ℕ_discrete i k)
    where
      down_holds : (i : ℕ) → Holding (expand_below v x order k i)
      down_holds i = record { grows = λ S. comes_holds S k i (expand_below v x order k i S) (less i S) }

      go : Dec (i ≡ k) → Comes S (suc k) i (expand_below v x order (suc k) i S)
      go (yes e) = rw (e, eq-eqb k k refl) (once_comes S k (expand_at v x order (expand_below v x order k)) (at_holds v x order down_holds k) (get_or S.results k None) refl)
      go (no n) = rw (ne_eqb i k n) (further S k i (expand_below v x order k i S) (less i S))

  below_comes : (k i : ℕ) (S : State) → Comes S k i (expand_below v x order k i S)
  unfolding expand_below
  below_comes zero i S = tt
  below_comes (suc k) i S = more_comes k (below_comes k) i S

  -- what is known of a walk that was not refused
  pub came : (k i : ℕ) {S : State} {e : Expansion} {T : State} → expand_below v x order k i S ≡ done e T → Came S k i e T
  came k i {S} {e} {T} h = rw h at (below_comes k i S)
