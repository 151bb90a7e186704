-- The operations on expansions only append, as constructors and literals do; and so does the expansion of an expression.
-- Assumes nothing.
use Rattle.std.specs.Prelude.{Some, None}
use mathlib.Core.Bool.{Bool, true, false, cond}
use Prim.Native.Nat.{ℕ, zero, suc}
use lib.Dec.{eqb}
use lib.IntN.{pos}
use lib.ListN.{get_or, replicate}
use Rattle.refusals.specs.Refusals.{broken_pool, max_reached}
use Rattle.literal.specs.Literal.{folded}
use Rattle.pool.specs.Pool.{Pool, done, refused, node_at, limit}
use Rattle.pool.specs.declared.node.Node.{Node}
use Rattle.pool.specs.declared.node.Node.TheVariants.{Empty, Variable, Lit, Add, Mul, Div, Exp, Log, Pow, Max}
use Rattle.constructors.specs.Build.{depth}
use Rattle.constructor_laws.specs.Grown as steps
use Rattle.constructor_laws.specs.Grown.{Grown}
use Rattle.constructor_laws.proofs.Going.{Going, Ways, then_goes, yield_goes, refuse_goes}
pub use Rattle.constructor_laws.proofs.Growth.{Growing}
use Rattle.constructor_laws.proofs.Growth.{◌>>=◌, grown_by_nothing, grown_by_both, literal_grows, append_grows, calls_grow}
use Rattle.taylor.specs.Work.{Result, Work}
use Rattle.taylor.specs.Expansion.{Expansion, var, coeff, derivative, add_to, negate, sub_from, times, quotient, exponential, logarithm, power, maximum, subst}
use Rattle.taylor.specs.declared.expansion.Expansion.TheVariants.{Constant}
use Rattle.taylor.specs.Expand.{Kept, State, state, Went, Walk, lifted, lift, keep, once, Point, point_node, of_variable, expand_node, expand_at, expand_below, expanded, expand}
use Rattle.taylor.specs.Expand as walk
use Rattle.taylor_laws.specs.Grown.{Grows}
use Rattle.taylor_laws.proofs.General.{Goes, Law, Holding, Keeping, var_holds, coeff_holds, derivative_holds, add_to_holds, negate_holds, sub_from_holds, times_holds, quotient_holds, exponential_holds, logarithm_holds, power_holds, maximum_holds, subst_holds}

-- ---- the law: the pool has grown, and nothing is said of a refusal

abbrev growth : Law
growth =
    record {
      Fit = λ P. Unit {0};
      Good = Grown;
      Bad = λ k. Unit {0};
      fits = λ P Q f g. tt;
      same = grown_by_nothing;
      both = λ P Q R g h. grown_by_both g h;
    }

holding : {A : Type 0} {work : Work A} → Growing work → Holding growth work
holding {A} {work} g = record { holds = λ P f. go P (work P) (g.grows P) }
  where
    go : (P : Pool) (r : Result A) → Grows P r → Goes Grown (λ k. Unit {0}) P r
    go P (done x Q) h = h
    go P (refused k) h = tt

growing : {A : Type 0} {work : Work A} → Holding growth work → Growing work
growing {A} {work} g = record { grows = λ P. go P (work P) (g.holds P tt) }
  where
    go : (P : Pool) (r : Result A) → Goes Grown (λ k. Unit {0}) P r → Grows P r
    go P (done x Q) h = h
    go P (refused k) h = tt

every : Keeping growth
every =
    record {
      lit_holds = λ z. holding (literal_grows (folded z));
      add_holds = λ a b. holding ((calls_grow depth).add_at a b);
      mul_holds = λ a b. holding ((calls_grow depth).mul_at a b);
      div_holds = λ a b. holding ((calls_grow depth).div_at a b);
      neg_holds = λ a. holding ((calls_grow depth).neg_at a);
      exp_holds = λ a. holding ((calls_grow depth).exp_at a);
      log_holds = λ a. holding ((calls_grow depth).log_at a);
    }

-- ---- the operations

pub var_grows : (x order : ℕ) → Growing (var x order)
var_grows x order = growing (var_holds (every.lit_holds (pos 0)) (every.lit_holds (pos 1)) x order)

pub coeff_grows : (e : Expansion) (k : ℕ) → Growing (coeff e k)
coeff_grows e k = growing (coeff_holds (every.lit_holds (pos 0)) e k)

pub derivative_grows : (e : Expansion) (k : ℕ) → Growing (derivative e k)
derivative_grows e k = growing (derivative_holds every e k)

pub add_to_grows : (s t : Expansion) → Growing (add_to s t)
add_to_grows s t = growing (add_to_holds every.add_holds s t)

pub negate_grows : (e : Expansion) → Growing (negate e)
negate_grows e = growing (negate_holds every.neg_holds e)

pub sub_from_grows : (s t : Expansion) → Growing (sub_from s t)
sub_from_grows s t = growing (sub_from_holds every.neg_holds every.add_holds s t)

pub times_grows : (s t : Expansion) → Growing (times s t)
times_grows s t = growing (times_holds every s t)

pub quotient_grows : (s t : Expansion) → Growing (quotient s t)
quotient_grows s t = growing (quotient_holds every s t)

pub exponential_grows : (e : Expansion) → Growing (exponential e)
exponential_grows e = growing (exponential_holds every e)

pub logarithm_grows : (e : Expansion) → Growing (logarithm e)
logarithm_grows e = growing (logarithm_holds every e)

pub power_grows : (base : Expansion) (e : ℕ) → Growing (power base e)
power_grows base e = growing (power_holds every base e)

pub maximum_grows : (s t : Expansion) → Growing (maximum s t)
maximum_grows s t = growing (maximum_holds (λ a b. holding ((calls_grow depth).max_at a b)) tt s t)

pub subst_grows : (outer inner : Expansion) → Growing (subst outer inner)
subst_grows outer inner = growing (subst_holds every outer inner)

-- ---- the expansion of an expression

-- the pool of the one state has grown into that of the other
abbrev GrownPool : State → State → Type 0
GrownPool S T = Grown S.pool T.pool

pool_ways : Ways GrownPool
pool_ways = record { by_nothing = λ S. grown_by_nothing S.pool; by_both = λ g h. grown_by_both g h }

abbrev GrowingWalk : Walk → Type 0
GrowingWalk walk = Going GrownPool walk

infixl 1 ◌>>◌
◌>>◌ : {w : Walk} {next : Expansion → Walk} → GrowingWalk w → ((e : Expansion) → GrowingWalk (next e)) → GrowingWalk (λ S. walk.bind (w S) next)
g >> h = then_goes pool_ways g h

stays : (e : Expansion) → GrowingWalk (walk.yield e)
stays e = yield_goes pool_ways e

ends : (k : ℕ) → GrowingWalk (walk.refuse k)
ends k = refuse_goes k

lift_grows : {work : Work Expansion} → Growing work → GrowingWalk (lift work)
lift_grows {work} g = record { grows = λ S. go S (work S.pool) (g.grows S.pool) }
  where
    go : (S : State) (x : Result Expansion) → Grows S.pool x → steps.Goes GrownPool S (lifted S.results x)
    go S (done e Q) h = h
    go S (refused k) h = tt

keep_grows : (i : ℕ) (e : Expansion) → GrowingWalk (keep i e)
keep_grows i e = record { grows = λ S. grown_by_nothing S.pool }

module _ (v : ℕ) (x : Point) (order : ℕ) where
  point_grows : (x : Point) → Growing (point_node v x)
  point_grows None = append_grows (Variable v)
  point_grows (Some z) = literal_grows (folded z)

  variable_grows : (t : Bool) (term : ℕ) → GrowingWalk (of_variable t term v x order)
  variable_grows true term = lift_grows (point_grows x >>= (λ p. var_grows p order))
  variable_grows false term = stays (Constant term)

  module _ {down : ℕ → Walk} (g : (i : ℕ) → GrowingWalk (down i)) (term : ℕ) where
    node_walk_grows : (n : Node) → GrowingWalk (expand_node v x order down term n)
    node_walk_grows Empty = ends broken_pool
    node_walk_grows (Variable u) = variable_grows (eqb u v) term
    node_walk_grows (Lit z) = stays (Constant term)
    node_walk_grows (Add a b) = g a >> (λ s. g b >> (λ t. lift_grows (add_to_grows s t)))
    node_walk_grows (Mul a b) = g a >> (λ s. g b >> (λ t. lift_grows (times_grows s t)))
    node_walk_grows (Div a b) = g a >> (λ s. g b >> (λ t. lift_grows (quotient_grows s t)))
    node_walk_grows (Exp a) = g a >> (λ s. lift_grows (exponential_grows s))
    node_walk_grows (Log a) = g a >> (λ s. lift_grows (logarithm_grows s))
    node_walk_grows (Pow a e) = g a >> (λ s. lift_grows (power_grows s e))
    node_walk_grows (Max a b) = ends max_reached

  once_grows : (visit : ℕ → Walk) (i : ℕ) → GrowingWalk (visit i) → (r : Kept) → GrowingWalk (once visit i r)
  once_grows visit i g None = g >> keep_grows i
  once_grows visit i g (Some e) = stays e

  below_grows : (k i : ℕ) → GrowingWalk (expand_below v x order k i)
  unfolding expand_below
  below_grows zero i = record { grows = λ S. tt }
  below_grows (suc k) i =
      record { grows = λ S. go S (eqb i k) (visits S) (expand_below v x order k i S) (here (below_grows k) S) ((below_grows k i).grows S) }
    where
      visits : Walk
      visits S = once (expand_at v x order (expand_below v x order k)) k (get_or S.results k None) S

      here : ((i : ℕ) → GrowingWalk (expand_below v x order k i)) → (S : State) → steps.Goes GrownPool S (visits S)
      here g S = (once_grows (expand_at v x order (expand_below v x order k)) k (record { grows = λ T. (node_walk_grows g k (node_at T.pool k)).grows T }) (get_or S.results k None)).grows S

      go : (S : State) (t : Bool) (a b : Went) → steps.Goes GrownPool S a → steps.Goes GrownPool S b → steps.Goes GrownPool S (cond t a b)
      go S true a b g h = g
      go S false a b g h = h

pub expand_grows : (root v : ℕ) (x : Point) (order : ℕ) → Growing (expand root v x order)
expand_grows root v x order = record { grows = λ P. from (state P (replicate limit None)) }
  where
    go : (S : State) (w : Went) → steps.Goes GrownPool S w → Grows S.pool (expanded w)
    go S (done e T) h = h
    go S (refused k) h = tt

    from : (S : State) → Grows S.pool (expanded (expand_below v x order (suc root) root S))
    from S = go S (expand_below v x order (suc root) root S) ((below_grows v x order (suc root) root).grows S)
