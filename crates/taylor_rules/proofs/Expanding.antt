-- The expansion of an expression keeps the rules of the pool: what is done at a node does, and expansions that are kept may be given all along.
-- Assumes nothing.
use Rattle.std.specs.Prelude.{Some, None}
use mathlib.Core.Bool.{Bool, true, false, cond}
use mathlib.Core.Path.{◌≡◌, refl}
use mathlib.Core.Logic.{inl, inr}
use Prim.Native.Nat.{ℕ, zero, suc, ◌/◌, ◌%◌, min, ◌≤◌, ◌<◌}
use native.Mathlib.Nat.{le_refl, min-eq_left, min-eq_right}
use native.Mathlib.Omega.{arith}
use lib.Dec.{eqb}
use Rattle.pool.specs.declared.node.Node.{Node}
use Rattle.pool.specs.declared.node.Node.TheVariants.{Empty, Variable, Lit, Add, Mul, Div, Exp, Log, Pow, Max}
use Rattle.pool.specs.Nodes.{parts, greatest_variable}
use Rattle.pool.specs.Pool.{Pool, node_at, done}
use Rattle.constructor_laws.specs.Grown.{Grown}
use Rattle.constructor_laws.specs.Keeps.{Keeps}
use Rattle.constructor_laws.proofs.Growth.{earlier_same}
use Rattle.constructor_laws.proofs.Rules.{AllBelow, parts_below}
use Rattle.constructor_laws.proofs.Keeping.{append_keeps}
use Rattle.constructor_laws.proofs.Giving.{Aims}
use Rattle.taylor.specs.Work.{Work}
use Rattle.taylor.specs.Work as work
use Rattle.taylor.specs.Expansion.{Expansion, order, times, pow_from, power, endless}
use Rattle.taylor.specs.declared.expansion.Expansion.TheVariants.{Constant}
use Rattle.taylor.specs.Expand.{State, Went, Walk, bind, lift, Point, point_node, of_variable, expand_node, expand_at, expand}
use Rattle.taylor_laws.proofs.Walking.{Good, Walked, ended_walk, Walks, walked_next, walked_here, both_walked, lift_walked, expand_gives}
use Rattle.taylor.specs.Coefficients.{terms}
use Rattle.taylor_rules.specs.Kept.{ExpandedOrder}
use Rattle.taylor_rules.proofs.Nodes.{KeptAs, Keeping, yield_keeps, next_keeps, said_as, node_keeps, lit_keeps, from_keeps}
use Rattle.taylor_rules.proofs.Nodes as nodes
use Rattle.taylor_rules.proofs.Operations.{Within, Series, within_more, var_keeps, add_to_keeps, times_keeps, quotient_keeps, exponential_keeps, logarithm_keeps}

module _ (ord : ℕ) (small : ord < terms) where
  -- an expansion that a walk comes to: a constant, or a list of ord + 1 entries
  pub record Come (m : ℕ) (e : Expansion) : Type 0 where
    pub within : Within m e
    pub size : ExpandedOrder ord (order e)

  pub come_more : {n m : ℕ} {e : Expansion} → n ≤ m → Come n e → Come m e
  come_more {e = e} more h = record { within = within_more e more h.within; size = h.size }

  pub shorter : (a b : ℕ) → ExpandedOrder ord a → ExpandedOrder ord b → ExpandedOrder ord (min a b)
  shorter a b (inl p) (inl q) = inl (rw (p, q) refl)
  shorter a b (inl p) (inr q) = let l : suc ord ≤ endless = omega arith in inr (rw (p, q) (min-eq_right l))
  shorter a b (inr p) (inl q) = let l : suc ord ≤ endless = omega arith in inr (rw (p, q) (min-eq_left l))
  shorter a b (inr p) (inr q) = inr (rw (p, q) (min-eq_left (le_refl (suc ord))))

  pub come_by : {n k : ℕ} {work : Work Expansion} → ExpandedOrder ord k → Keeping n (Series k) work → Keeping n Come work
  come_by size w = said_as (λ m e h. record { within = h.within; size = rw h.order size }) w

  -- ---- pow, of any exponent
  product_comes : {n : ℕ} (s t : Expansion) → Come n s → Come n t → Keeping n Come (times s t)
  product_comes s t hs ht = come_by (shorter (order s) (order t) hs.size ht.size) (times_keeps s t hs.within ht.within)

  when_keeps : {n : ℕ} (t : Bool) {a b : Work Expansion} → Keeping n Come a → Keeping n Come b → Keeping n Come (cond t a b)
  when_keeps true wa wb = wa
  when_keeps false wa wb = wb

  given_comes : {n : ℕ} {e : Expansion} → Come n e → Keeping n Come (work.yield e)
  given_comes h = yield_keeps (λ m more. come_more more h)

  pow_from_comes : (k e n : ℕ) (res base : Expansion) → Come n res → Come n base → Keeping n Come (pow_from k e res base)
  unfolding pow_from
  pow_from_comes zero e n res base hr hb = given_comes hr
  pow_from_comes (suc k) e n res base hr hb =
      next_keeps (when_keeps (eqb (e % 2) 1) (product_comes res base hr hb) (given_comes hr))
      (λ m res2 more h. when_keeps (eqb (e / 2) 0) (given_comes h)
      (next_keeps (product_comes base base (come_more more hb) (come_more more hb)) (λ m' base2 more' h'. pow_from_comes k (e / 2) m' res2 base2 (come_more more' h) h')))

  pub constant_come : {n c : ℕ} → c < n → Come n (Constant c)
  constant_come l = record { within = record { below = (l, tt); least = omega arith; most = omega arith }; size = inl refl }

  pub power_comes : {n : ℕ} (base : Expansion) (e : ℕ) → Come n base → Keeping n Come (power base e)
  power_comes base e h = next_keeps (from_keeps 1) (λ m o more lo. pow_from_comes 32 e m (Constant o) base (constant_come lo) (come_more more h))

  -- ---- walks

  -- the one aim: an expansion that a walk may come to
  pub come_later : {P Q : Pool} {e : Expansion} → Keeps P → Grown P Q → Come P.count e → Come Q.count e
  come_later k g h = come_more g.no_fewer h

  abbrev pub coming : Aims Expansion
  coming = record { Aim = Unit {0}; Meets = λ u P e. Come P.count e; later = come_later }

  -- an operation called by a walk
  called : {P₀ : Pool} {S : State} (work : Work Expansion) → Good coming P₀ (λ j. tt) S → Keeping S.pool.count Come work → Walked coming P₀ (λ j. tt) S tt (lift work S)
  called {S = S} work good w = lift_walked work good (w.kept S.pool good.keeps (le_refl S.pool.count))

  module _ (v : ℕ) (x : Point) (variable : v ≤ greatest_variable) where
    pub point_keeps : {n : ℕ} (p : Point) → Keeping n nodes.Node (point_node v p)
    point_keeps None = node_keeps (append_keeps (record { below = tt; range = variable }))
    point_keeps (Some z) = lit_keeps z

    module _ {P₀ : Pool} (k₀ : Keeps P₀) where
      abbrev Fit : State → Type 0
      Fit = Good coming P₀ (λ j. tt)

      abbrev Comes : State → Went → Type 0
      Comes S = Walked coming P₀ (λ j. tt) S tt

      abbrev WalksFrom : (ℕ → Walk) → Type 0
      WalksFrom walk = Walks coming P₀ (λ j. tt) (λ i. i < P₀.count) walk

      module _ {down : ℕ → Walk} (walks : WalksFrom down) (term : ℕ) (h : term < P₀.count) (S : State) (good : Fit S) where
        itself : Comes S (done (Constant term) S)
        itself = walked_here good (constant_come (omega (arith, good.grown.no_fewer)))

        leaf_walks : (sought : Bool) → Comes S (of_variable sought term v x ord S)
        leaf_walks true = called _ good (next_keeps (point_keeps x) (λ m p more lp. come_by (inr refl) (var_keeps p ord lp small)))
        leaf_walks false = itself

        both_walk :
            {a b : ℕ} {work : Expansion → Expansion → Work Expansion} → a < P₀.count → b < P₀.count
            → ((m : ℕ) (s t : Expansion) → Within m s → Within m t → Keeping m (Series (min (order s) (order t))) (work s t))
            → Comes S (bind (down a S) (λ s T. bind (down b T) (λ t. lift (work s t))))
        both_walk {a} {b} {work} la lb keeps =
            both_walked walks good a b la lb (λ s t T good_T cs ct.
            called (work s t) good_T (come_by (shorter (order s) (order t) cs.size ct.size) (keeps T.pool.count s t cs.within ct.within)))

        one_walk :
            {a : ℕ} {work : Expansion → Work Expansion} → a < P₀.count → ((m : ℕ) (s : Expansion) → Come m s → Keeping m Come (work s)) → Comes S (bind (down a S) (λ s. lift (work s)))
        one_walk {a} {work} la keeps = walked_next (walks a la S good) (λ s T good_T g cs. called (work s) good_T (keeps T.pool.count s cs))

        node_walks : (y : Node) → AllBelow P₀.count (parts y) → Comes S (expand_node v x ord down term y S)
        node_walks Empty l = ended_walk
        node_walks (Variable u) l = leaf_walks (eqb u v)
        node_walks (Lit z) l = itself
        node_walks (Add a b) (la, (lb, _)) = both_walk la lb (λ m s t hs ht. add_to_keeps s t hs ht)
        node_walks (Mul a b) (la, (lb, _)) = both_walk la lb (λ m s t hs ht. times_keeps s t hs ht)
        node_walks (Div a b) (la, (lb, _)) = both_walk la lb (λ m s t hs ht. quotient_keeps s t hs ht)
        node_walks (Exp a) (la, _) = one_walk la (λ m s cs. come_by cs.size (exponential_keeps s cs.within))
        node_walks (Log a) (la, _) = one_walk la (λ m s cs. come_by cs.size (logarithm_keeps s cs.within))
        node_walks (Pow a e) (la, _) = one_walk la (λ m s cs. power_comes s e cs)
        node_walks (Max a b) l = ended_walk

      at_walks : (down : ℕ → Walk) → WalksFrom down → WalksFrom (expand_at v x ord down)
      at_walks down walks i h S good = node_walks walks i h S good (node_at S.pool i) (rw same (parts_below k₀ i))
        where
          same : node_at S.pool i ≡ node_at P₀ i
          same = earlier_same good.grown i h

    -- a whole walk
    pub expand_comes : {P : Pool} (root : ℕ) → Keeps P → root < P.count → KeptAs Come P (expand root v x ord P)
    expand_comes root k h = expand_gives v x ord (at_walks k) k root h
