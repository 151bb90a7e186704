-- A walk that builds, from a node that stands in a pool by the rules: it reads only nodes that stood there before the call, so it never comes to no node, and it refuses by what is done at a node only.
-- So for substitution and derivation. Assumes nothing.
use Rattle.std.specs.Prelude.{Option, Some, None}
use mathlib.Core.Path.{refl, subst⁻¹}
use mathlib.Core.Logic.{inl, inr}
use mathlib.Core.Bool.{Bool, true, false, ◌&&◌, cond}
use mathlib.Core.List.{List, [], ◌∷◌}
use Prim.Native.Nat.{ℕ, zero, suc, ◌-◌, ◌<◌}
use lib.Dec.{eqb}
use lib.IntN.{ℤ, pos}
use lib.ListN.{get_or, replicate}
use borrow.Author.Tests.{eq-eqb, ne_eqb}
use Rattle.literal.specs.Literal.{folded}
use Rattle.pool.specs.Nodes.{parts}
use Rattle.pool.specs.Pool.{Pool, Out, done, refused, Run, limit, node_at}
use Rattle.pool.specs.declared.node.Node.{Node}
use Rattle.pool.specs.declared.node.Node.TheVariants.{Empty, Variable, Lit, Add, Mul, Div, Exp, Log, Pow, Max}
use Rattle.constructors.specs.Build.{depth}
use Rattle.constructor_laws.specs.Grown.{Grown, Grows}
use Rattle.constructor_laws.proofs.Growth.{Growing, grown_by_nothing, grown_by_both, earlier_same, calls_grow, literal_grows}
use Rattle.walks.specs.Walk.{State, state, Went, Walk, bind, yield, refuse, lifted, lift, keep, once, walk_below, built, walk_from}
use Rattle.walks.specs.Substitute.{unless, substitute_node, substitute_var}
use Rattle.walks.specs.Derive.{lit, add, mul, div, neg, pow, quotient_rule, derive_node, derive}
use Rattle.walks.specs.Derive as derivation
use Rattle.shape.specs.Demand.{KeepsRules}
use Rattle.shape.proofs.Lists.{All}
use Rattle.shape.proofs.TableOfKinds.{Valid}
use Rattle.situations.specs.Refusal.{OneOf, Among, of_out}
use Rattle.situations.specs.Situations.{of_constructors, and_max}
use Rattle.situations.proofs.Steps.{Refusing}
use Rattle.situations.proofs.Constructors.{calls_refuse, literals_refuse}
use Rattle.situations.proofs.Throughout.{left, right, Walking, throughout}

-- ---- the law
module _ (P₀ : Pool) (ks : List ℕ) where
  abbrev Stays : Went → Type 0
  Stays (done i T) = Grown P₀ T.pool
  Stays (refused k) = OneOf ks k

  -- from a pool that has grown from the first, a walk leaves one that has, or refuses by these numbers
  record Tame (walk : Walk) : Type 0 where
    tame : (S : State) → Grown P₀ S.pool → Stays (walk S)

  then_tame : (w : Went) {next : ℕ → Walk} → Stays w → ((i : ℕ) → Tame (next i)) → Stays (bind w next)
  then_tame (done i T) g h = (h i).tame T g
  then_tame (refused k) g h = g

  infixl 1 ◌>>=◌
  ◌>>=◌ : {walk : Walk} {next : ℕ → Walk} → Tame walk → ((i : ℕ) → Tame (next i)) → Tame (λ S. bind (walk S) next)
  ◌>>=◌ {walk} g h = record { tame = λ S p. then_tame (walk S) (g.tame S p) h }

  yield_tame : (i : ℕ) → Tame (yield i)
  yield_tame i = record { tame = λ S p. p }

  keep_tame : (i r : ℕ) → Tame (keep i r)
  keep_tame i r = record { tame = λ S p. p }

  refuse_tame : (k : ℕ) → OneOf ks k → Tame (refuse k)
  refuse_tame k h = record { tame = λ S p. h }

  lifted_tame : (S : State) → Grown P₀ S.pool → (o : Out) → Grows S.pool o → Among ks (of_out o) → Stays (lifted S.kept o)
  lifted_tame S p (done i P) g r = grown_by_both p g
  lifted_tame S p (refused k) g r = r

  lift_tame : {run : Run} → Growing run → ((P : Pool) → Among ks (of_out (run P))) → Tame (lift run)
  lift_tame {run} g r = record { tame = λ S p. lifted_tame S p (run S.pool) (g.grows S.pool) (r S.pool) }

  once_tame : (visit : ℕ → Walk) (i : ℕ) (m : Option ℕ) → Tame (visit i) → Tame (once visit i m)
  once_tame visit i None g = record { tame = (g >>= keep_tame i).tame }
  once_tame visit i (Some r) g = yield_tame r

  built_only : (w : Went) → Stays w → Among ks (of_out (built w))
  built_only (done i T) g = tt
  built_only (refused k) g = g

  module _ (node : (ℕ → Walk) → ℕ → Node → Walk) (at : (down : ℕ → Walk) (i : ℕ) (n : Node) → Valid n → All (λ a. Tame (down a)) (parts n) → Tame (node down i n)) where
    abbrev visit : (ℕ → Walk) → ℕ → Walk
    visit down i S = node down i (node_at S.pool i) S

    -- the node is read where it stood before the call
    visit_tame : (down : ℕ → Walk) (i : ℕ) → i < P₀.count → Tame (node down i (node_at P₀ i)) → Tame (visit down i)
    visit_tame down i l g = record { tame = λ S p. subst⁻¹ (λ n. Stays (node down i n S)) (earlier_same p i l) (g.tame S p) }

    walking : Walking P₀ Tame node (walk_below visit)
    unfolding walk_below
    walking =
        record {
          visits = λ b l g. record { tame = λ S p. rw (eq-eqb b b refl) ((once_tame (visit (walk_below visit b)) b (get_or S.kept b None) (visit_tame (walk_below visit b) b l g)).tame S p) };
          passes = λ b i n g. record { tame = λ S p. rw (ne_eqb i b n) (g.tame S p) };
          at = at;
        }

    -- a whole walk
    walk_refuses : KeepsRules P₀ → (root : ℕ) → root < P₀.count → Among ks (of_out (walk_from visit root P₀))
    walk_refuses k root l =
        let S = state P₀ (replicate limit None) in
        built_only (walk_below visit (suc root) root S) ((throughout k walking root l).tame S (grown_by_nothing P₀))

-- ---- substitution
module _ (P₀ : Pool) (var value : ℕ) (down : ℕ → Walk) (term : ℕ) where
  abbrev Plain : Walk → Type 0
  Plain walk = Tame P₀ of_constructors walk

  unless_tame : (same : Bool) {rebuilt : Walk} → Plain rebuilt → Plain (unless same term rebuilt)
  unless_tame true g = yield_tame P₀ of_constructors term
  unless_tame false g = g

  called : {run : Run} → Growing run → Refusing of_constructors run → Plain (lift run)
  called g r = lift_tame P₀ of_constructors g r.refuses

  one_part : {a : ℕ} {next : ℕ → Walk} → Plain (down a) → ((x : ℕ) → Plain (next x)) → Plain (λ S. bind (down a S) next)
  one_part g h = ◌>>=◌ P₀ of_constructors g h

  two_parts : {a b : ℕ} {next : ℕ → ℕ → Walk} → Plain (down a) → Plain (down b) → ((x y : ℕ) → Plain (next x y)) → Plain (λ S. bind (down a S) (λ x T. bind (down b T) (λ y. next x y)))
  two_parts g h n = ◌>>=◌ P₀ of_constructors g (λ x. ◌>>=◌ P₀ of_constructors h (λ y. n x y))

  substitute_tame : (n : Node) → Valid n → All (λ a. Plain (down a)) (parts n) → Plain (substitute_node var value down term n)
  substitute_tame Empty v h = absurd v
  substitute_tame (Variable u) v h = yield_tame P₀ of_constructors (cond (eqb u var) value term)
  substitute_tame (Lit z) v h = yield_tame P₀ of_constructors term
  substitute_tame (Add a b) v h = two_parts (left a (b ∷ []) h) (right a b h) (λ x y. unless_tame (eqb a x && eqb b y) (called ((calls_grow depth).add_at x y) ((calls_refuse depth).add_at x y)))
  substitute_tame (Mul a b) v h = two_parts (left a (b ∷ []) h) (right a b h) (λ x y. unless_tame (eqb a x && eqb b y) (called ((calls_grow depth).mul_at x y) ((calls_refuse depth).mul_at x y)))
  substitute_tame (Div a b) v h = two_parts (left a (b ∷ []) h) (right a b h) (λ x y. unless_tame (eqb a x && eqb b y) (called ((calls_grow depth).div_at x y) ((calls_refuse depth).div_at x y)))
  substitute_tame (Exp a) v h = one_part (left a [] h) (λ x. unless_tame (eqb a x) (called ((calls_grow depth).exp_at x) ((calls_refuse depth).exp_at x)))
  substitute_tame (Log a) v h = one_part (left a [] h) (λ x. unless_tame (eqb a x) (called ((calls_grow depth).log_at x) ((calls_refuse depth).log_at x)))
  substitute_tame (Pow a e) v h = one_part (left a [] h) (λ x. unless_tame (eqb a x) (called ((calls_grow depth).pow_at x e) ((calls_refuse depth).pow_at x e)))
  substitute_tame (Max a b) v h = two_parts (left a (b ∷ []) h) (right a b h) (λ x y. unless_tame (eqb a x && eqb b y) (called ((calls_grow depth).max_at x y) ((calls_refuse depth).max_at x y)))

pub substitution_refuses : (P : Pool) → KeepsRules P → (root : ℕ) → root < P.count → (var value : ℕ) → Among of_constructors (of_out (substitute_var root var value P))
unfolding substitute_var
substitution_refuses P k root l var value = walk_refuses P of_constructors (substitute_node var value) (substitute_tame P var value) k root l

-- ---- derivation
with_max : (o : Out) → Among of_constructors (of_out o) → Among and_max (of_out o)
with_max (done i P) h = tt
with_max (refused k) h = inr h

module _ (P₀ : Pool) where
  abbrev Derived : Walk → Type 0
  Derived walk = Tame P₀ and_max walk

  made : {run : Run} → Growing run → Refusing of_constructors run → Derived (lift run)
  made {run} g r = lift_tame P₀ and_max g (λ P. with_max (run P) (r.refuses P))

  infixl 1 ◌then◌
  ◌then◌ : {walk : Walk} {next : ℕ → Walk} → Derived walk → ((i : ℕ) → Derived (next i)) → Derived (λ S. bind (walk S) next)
  g then h = ◌>>=◌ P₀ and_max g h

  lit_tame : (z : ℤ) → Derived (lit z)
  lit_tame z = made (literal_grows (folded z)) (literals_refuse z)

  add_tame : (a b : ℕ) → Derived (add a b)
  add_tame a b = made ((calls_grow depth).add_at a b) ((calls_refuse depth).add_at a b)

  mul_tame : (a b : ℕ) → Derived (mul a b)
  mul_tame a b = made ((calls_grow depth).mul_at a b) ((calls_refuse depth).mul_at a b)

  div_tame : (a b : ℕ) → Derived (div a b)
  div_tame a b = made ((calls_grow depth).div_at a b) ((calls_refuse depth).div_at a b)

  neg_tame : (a : ℕ) → Derived (neg a)
  neg_tame a = made ((calls_grow depth).neg_at a) ((calls_refuse depth).neg_at a)

  pow_tame : (a e : ℕ) → Derived (pow a e)
  pow_tame a e = made ((calls_grow depth).pow_at a e) ((calls_refuse depth).pow_at a e)

  quotient_tame : (a b da db : ℕ) → Derived (quotient_rule a b da db)
  quotient_tame a b da db = mul_tame a db then (λ x. mul_tame b da then (λ y. pow_tame b 2 then (λ b2. neg_tame y then (λ n. add_tame x n then (λ s. div_tame s b2)))))

  module _ (var : ℕ) (down : ℕ → Walk) (term : ℕ) where
    derive_tame : (n : Node) → Valid n → All (λ a. Derived (down a)) (parts n) → Derived (derive_node var down term n)
    derive_tame Empty v h = absurd v
    derive_tame (Variable u) v h = lit_tame (cond (eqb u var) (pos 1) (pos 0))
    derive_tame (Lit z) v h = lit_tame (pos 0)
    derive_tame (Add a b) v h = left a (b ∷ []) h then (λ da. right a b h then (λ db. add_tame da db))
    derive_tame (Mul a b) v h = left a (b ∷ []) h then (λ da. right a b h then (λ db. mul_tame a db then (λ x. mul_tame b da then (λ y. add_tame x y))))
    derive_tame (Div a b) v h = left a (b ∷ []) h then (λ da. right a b h then (λ db. quotient_tame a b da db))
    derive_tame (Exp a) v h = left a [] h then (λ da. mul_tame da term)
    derive_tame (Log a) v h = left a [] h then (λ da. div_tame da a)
    derive_tame (Pow a e) v h = left a [] h then (λ da. pow_tame a (e - 1) then (λ p. lit_tame (pos e) then (λ n. mul_tame n da then (λ t. mul_tame t p))))
    derive_tame (Max a b) v h = refuse_tame P₀ and_max _ (inl refl)

pub derivation_refuses : (P : Pool) → KeepsRules P → (root : ℕ) → root < P.count → (var : ℕ) → Among and_max (of_out (derive root var P))
unfolding derive
derivation_refuses P k root l var = walk_refuses P and_max (derive_node var) (derive_tame P var) k root l
