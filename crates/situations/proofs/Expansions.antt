-- The expansion of an expression that stands in a pool by the rules refuses by 10 to 14 and 18 only, as the walks that build one node do.
-- Assumes nothing.
use Rattle.std.specs.Prelude.{Some, None}
use mathlib.Core.Path.{refl, subst⁻¹}
use mathlib.Core.Logic.{inl, inr}
use mathlib.Core.Bool.{Bool, true, false}
use mathlib.Core.List.{List, [], ◌∷◌}
use Prim.Native.Nat.{ℕ, suc, ◌<◌}
use lib.Dec.{eqb}
use lib.ListN.{get_or, replicate}
use borrow.Author.Tests.{eq-eqb, ne_eqb}
use Rattle.pool.specs.Nodes.{parts}
use Rattle.pool.specs.Pool.{Pool, limit, node_at, done, refused}
use Rattle.pool.specs.declared.node.Node.{Node}
use Rattle.pool.specs.declared.node.Node.TheVariants.{Empty, Variable, Lit, Add, Mul, Div, Exp, Log, Pow, Max}
use Rattle.constructor_laws.specs.Grown.{Grown}
use Rattle.constructor_laws.proofs.Growth.{grown_by_nothing, grown_by_both, earlier_same, append_grows}
use Rattle.taylor.specs.Work.{Result, Work}
use Rattle.taylor.specs.Expansion.{Expansion}
use Rattle.taylor.specs.declared.expansion.Expansion.TheVariants.{Constant}
use Rattle.taylor.specs.Expand.{Kept, State, state, Went, Walk, bind, yield, refuse, lifted, lift, keep, once, Point, point_node, of_variable, expand_node, expand_at, expand_below, expanded, expand}
use Rattle.shape.specs.Demand.{KeepsRules}
use Rattle.shape.proofs.Lists.{All}
use Rattle.shape.proofs.TableOfKinds.{Valid}
use Rattle.shape.proofs.Pools.{rules_of}
use Rattle.situations.specs.Refusal.{OneOf, Among, of_result}
use Rattle.situations.specs.Situations.{of_constructors, and_max}
use Rattle.situations.proofs.Steps.{append_refuses}
use Rattle.situations.proofs.Constructors.{pool_full_met}
use Rattle.situations.proofs.Literals.{Long, long_grown}
use Rattle.situations.proofs.Throughout.{left, right, Walking, throughout}
use Rattle.taylor_laws.proofs.General as law
use Rattle.taylor_laws.proofs.General.{Goes, Holding}
use Rattle.situations.proofs.Operations.{refusing_by, called, wider, zero_holds, one_holds, every_constructor}

-- ---- the law
module _ (P₀ : Pool) (ks : List ℕ) where
  abbrev Stays : Went → Type 0
  Stays (done e T) = Grown P₀ T.pool
  Stays (refused k) = OneOf ks k

  -- from a pool that has grown from the first, a walk leaves one that has, or refuses by these numbers
  record Tame (walk : Walk) : Type 0 where
    tame : (S : State) → Grown P₀ S.pool → Stays (walk S)

  then_tame : (w : Went) {next : Expansion → Walk} → Stays w → ((e : Expansion) → Tame (next e)) → Stays (bind w next)
  then_tame (done e T) g h = (h e).tame T g
  then_tame (refused k) g h = g

  infixl 1 ◌>>=◌
  ◌>>=◌ : {walk : Walk} {next : Expansion → Walk} → Tame walk → ((e : Expansion) → Tame (next e)) → Tame (λ S. bind (walk S) next)
  ◌>>=◌ {walk} g h = record { tame = λ S p. then_tame (walk S) (g.tame S p) h }

  yield_tame : (e : Expansion) → Tame (yield e)
  yield_tame e = record { tame = λ S p. p }

  keep_tame : (i : ℕ) (e : Expansion) → Tame (keep i e)
  keep_tame i e = record { tame = λ S p. p }

  refuse_tame : (k : ℕ) → OneOf ks k → Tame (refuse k)
  refuse_tame k h = record { tame = λ S p. h }

  lifted_tame : (S : State) → Grown P₀ S.pool → (x : Result Expansion) → Goes Grown (OneOf ks) S.pool x → Stays (lifted S.results x)
  lifted_tame S p (done e P) g = grown_by_both p g
  lifted_tame S p (refused k) g = g

  lift_tame : Long P₀ → {work : Work Expansion} → Holding (refusing_by ks) work → Tame (lift work)
  lift_tame long {work} g = record { tame = λ S p. lifted_tame S p (work S.pool) (g.holds S.pool (long_grown p long)) }

  once_tame : (visit : ℕ → Walk) (i : ℕ) (r : Kept) → Tame (visit i) → Tame (once visit i r)
  once_tame visit i None g = record { tame = (g >>= keep_tame i).tame }
  once_tame visit i (Some e) g = yield_tame e

  expanded_only : (w : Went) → Stays w → Among ks (of_result (expanded w))
  expanded_only (done e T) g = tt
  expanded_only (refused k) g = g

  module _ (v : ℕ) (x : Point) (order : ℕ)
      (at : (down : ℕ → Walk) (i : ℕ) (n : Node) → Valid n → All (λ a. Tame (down a)) (parts n) → Tame (expand_node v x order down i n)) where
    -- the node is read where it stood before the call
    visit_tame : (down : ℕ → Walk) (i : ℕ) → i < P₀.count → Tame (expand_node v x order down i (node_at P₀ i)) → Tame (expand_at v x order down i)
    visit_tame down i l g = record { tame = λ S p. subst⁻¹ (λ n. Stays (expand_node v x order down i n S)) (earlier_same p i l) (g.tame S p) }

    walking : Walking P₀ Tame (expand_node v x order) (expand_below v x order)
    unfolding expand_below
    walking =
        record {
          visits = λ b l g.
              record { tame = λ S p. rw (eq-eqb b b refl) ((once_tame (expand_at v x order (expand_below v x order b)) b (get_or S.results b None) (visit_tame (expand_below v x order b) b l g)).tame S p) };
          passes = λ b i n g. record { tame = λ S p. rw (ne_eqb i b n) (g.tame S p) };
          at = at;
        }

    -- a whole walk
    walk_refuses : KeepsRules P₀ → (root : ℕ) → root < P₀.count → Among ks (of_result (expand root v x order P₀))
    walk_refuses k root l =
        let S = state P₀ (replicate limit None) in
        expanded_only (expand_below v x order (suc root) root S) ((throughout k walking root l).tame S (grown_by_nothing P₀))

pub rules_are_long : (P : Pool) → KeepsRules P → Long P
rules_are_long P k = let r = rules_of P k in record { kinds_long = r.kinds_long; words_long = r.words_long }

-- ---- what is done at a node
module _ (P₀ : Pool) (long : Long P₀) (v : ℕ) (x : Point) (order : ℕ) where
  abbrev Expanded : Walk → Type 0
  Expanded walk = Tame P₀ and_max walk

  infixl 1 ◌then◌
  ◌then◌ : {walk : Walk} {next : Expansion → Walk} → Expanded walk → ((e : Expansion) → Expanded (next e)) → Expanded (λ S. bind (walk S) next)
  g then h = ◌>>=◌ P₀ and_max g h

  made : {w : Work Expansion} → Holding (refusing_by of_constructors) w → Expanded (lift w)
  made g = lift_tame P₀ and_max long (wider of_constructors and_max (λ k h. inr h) g)

  point_holds : (x : Point) → Holding (refusing_by of_constructors) (point_node v x)
  point_holds None = called of_constructors (append_grows (Variable v)) (λ P l. (append_refuses {ks = of_constructors} pool_full_met (Variable v)).refuses P)
  point_holds (Some z) = every_constructor.lit_holds z

  variable_tame : (sought : Bool) (term : ℕ) → Expanded (of_variable sought term v x order)
  variable_tame true term =
      made (law.◌>>=◌ (point_holds x) (λ p. law.var_holds (zero_holds of_constructors pool_full_met) (one_holds of_constructors pool_full_met) p order))
  variable_tame false term = yield_tame P₀ and_max (Constant term)

  node_tame : (down : ℕ → Walk) (term : ℕ) (n : Node) → Valid n → All (λ a. Expanded (down a)) (parts n) → Expanded (expand_node v x order down term n)
  node_tame down term Empty w h = absurd w
  node_tame down term (Variable u) w h = variable_tame (eqb u v) term
  node_tame down term (Lit z) w h = yield_tame P₀ and_max (Constant term)
  node_tame down term (Add a b) w h = left a (b ∷ []) h then (λ s. right a b h then (λ t. made (law.add_to_holds every_constructor.add_holds s t)))
  node_tame down term (Mul a b) w h = left a (b ∷ []) h then (λ s. right a b h then (λ t. made (law.times_holds every_constructor s t)))
  node_tame down term (Div a b) w h = left a (b ∷ []) h then (λ s. right a b h then (λ t. made (law.quotient_holds every_constructor s t)))
  node_tame down term (Exp a) w h = left a [] h then (λ s. made (law.exponential_holds every_constructor s))
  node_tame down term (Log a) w h = left a [] h then (λ s. made (law.logarithm_holds every_constructor s))
  node_tame down term (Pow a e) w h = left a [] h then (λ s. made (law.power_holds every_constructor s e))
  node_tame down term (Max a b) w h = refuse_tame P₀ and_max _ (inl refl)

pub expansion_refuses : (P : Pool) → KeepsRules P → (root : ℕ) → root < P.count → (v : ℕ) (x : Point) (order : ℕ) → Among and_max (of_result (expand root v x order P))
expansion_refuses P k root l v x order = walk_refuses P and_max v x order (node_tame P (rules_are_long P k) v x order) k root l
