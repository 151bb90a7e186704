-- Substitution only appends, and keeps the rules of a pool that has its root and the node put in: what is done at a node of each kind does.
-- Assumes nothing.
use mathlib.Core.Path.{◌≡◌}
use mathlib.Core.Bool.{Bool, true, false, ◌&&◌, cond}
use Prim.Native.Nat.{ℕ, ◌<◌}
use native.Mathlib.Omega.{arith}
use lib.Dec.{eqb}
use Rattle.refusals.specs.Refusals.{broken_pool}
use Rattle.pool.specs.declared.node.Node.{Node}
use Rattle.pool.specs.declared.node.Node.TheVariants.{Empty, Variable, Lit, Add, Mul, Div, Exp, Log, Pow, Max}
use Rattle.pool.specs.Nodes.{parts}
use Rattle.pool.specs.Pool.{Pool, node_at}
use Rattle.constructors.specs.Build.{depth}
use Rattle.constructor_laws.specs.Keeps.{Keeps, KeptBy}
use Rattle.constructor_laws.proofs.Rules.{AllBelow, parts_below}
use Rattle.constructor_laws.proofs.Growth.{earlier_same, calls_grow}
use Rattle.constructor_laws.proofs.Growth as runs
use Rattle.constructor_laws.proofs.Keeping.{calls_keep}
use Rattle.walks.specs.Walk.{Walk}
use Rattle.walks.specs.Substitute.{unless, substitute_node, substitute_at, substitute_var}
use Rattle.walk_laws.proofs.Growth.{Growing, ◌>>=◌, yield_grows, refuse_grows, lift_grows, GrowsAt, walk_grows}
use Rattle.walk_laws.proofs.Keeping.{Keeping, KeepsFrom, yield_keeps, refuse_keeps, next_keeps, lift_keeps, part_keeps, parts_keep, walk_kept}

-- ---- it only appends

unless_grows : (same : Bool) (term : ℕ) {rebuilt : Walk} → Growing rebuilt → Growing (unless same term rebuilt)
unless_grows true term g = yield_grows term
unless_grows false term g = g

module _ (var value : ℕ) where
  module _ {down : ℕ → Walk} (g : (i : ℕ) → Growing (down i)) (term : ℕ) where
    node_grows : (x : Node) → Growing (substitute_node var value down term x)
    node_grows Empty = refuse_grows broken_pool
    node_grows (Variable v) = yield_grows (cond (eqb v var) value term)
    node_grows (Lit z) = yield_grows term
    node_grows (Add a b) = do
      a2 ← g a
      b2 ← g b
      unless_grows (eqb a a2 && eqb b b2) term (lift_grows ((calls_grow depth).add_at a2 b2))
    node_grows (Mul a b) = do
      a2 ← g a
      b2 ← g b
      unless_grows (eqb a a2 && eqb b b2) term (lift_grows ((calls_grow depth).mul_at a2 b2))
    node_grows (Div a b) = do
      a2 ← g a
      b2 ← g b
      unless_grows (eqb a a2 && eqb b b2) term (lift_grows ((calls_grow depth).div_at a2 b2))
    node_grows (Exp a) = do
      a2 ← g a
      unless_grows (eqb a a2) term (lift_grows ((calls_grow depth).exp_at a2))
    node_grows (Log a) = do
      a2 ← g a
      unless_grows (eqb a a2) term (lift_grows ((calls_grow depth).log_at a2))
    node_grows (Pow a e) = do
      a2 ← g a
      unless_grows (eqb a a2) term (lift_grows ((calls_grow depth).pow_at a2 e))
    node_grows (Max a b) = do
      a2 ← g a
      b2 ← g b
      unless_grows (eqb a a2 && eqb b b2) term (lift_grows ((calls_grow depth).max_at a2 b2))

  at_grows : GrowsAt (substitute_at var value)
  at_grows down g i = record { grows = λ S. (node_grows g i (node_at S.pool i)).grows S }

  pub substitute_grows : (root : ℕ) → runs.Growing (substitute_var root var value)
  unfolding substitute_var
  substitute_grows root = walk_grows at_grows root

-- ---- it keeps the rules

unless_keeps : {P₀ : Pool} {n : ℕ} (same : Bool) {term : ℕ} {rebuilt : Walk} → term < n → Keeping P₀ n rebuilt → Keeping P₀ n (unless same term rebuilt)
unless_keeps true h k = yield_keeps h
unless_keeps false h k = k

picked : (t : Bool) {a b n : ℕ} → a < n → b < n → cond t a b < n
picked true ha hb = ha
picked false ha hb = hb

module _ (var value : ℕ) where
  module _ {P₀ : Pool} {down : ℕ → Walk} (keeps : KeepsFrom P₀ down) (given : value < P₀.count) (term : ℕ) (h : term < P₀.count) where
    node_keeps : (x : Node) → AllBelow P₀.count (parts x) → Keeping P₀ P₀.count (substitute_node var value down term x)
    node_keeps Empty l = refuse_keeps broken_pool
    node_keeps (Variable v) l = yield_keeps (picked (eqb v var) given h)
    node_keeps (Lit z) l = yield_keeps h
    node_keeps (Add a b) (la, (lb, _)) =
        parts_keep keeps (la, lb) (λ m x y m_more lx ly. unless_keeps (eqb a x && eqb b y) (omega arith) (lift_keeps ((calls_keep depth).add_at m x y lx ly)))
    node_keeps (Mul a b) (la, (lb, _)) =
        parts_keep keeps (la, lb) (λ m x y m_more lx ly. unless_keeps (eqb a x && eqb b y) (omega arith) (lift_keeps ((calls_keep depth).mul_at m x y lx ly)))
    node_keeps (Div a b) (la, (lb, _)) =
        parts_keep keeps (la, lb) (λ m x y m_more lx ly. unless_keeps (eqb a x && eqb b y) (omega arith) (lift_keeps ((calls_keep depth).div_at m x y lx ly)))
    node_keeps (Exp a) (la, _) =
        next_keeps (part_keeps keeps la) (λ m x m_more lx. unless_keeps (eqb a x) (omega arith) (lift_keeps ((calls_keep depth).exp_at m x lx)))
    node_keeps (Log a) (la, _) =
        next_keeps (part_keeps keeps la) (λ m x m_more lx. unless_keeps (eqb a x) (omega arith) (lift_keeps ((calls_keep depth).log_at m x lx)))
    node_keeps (Pow a e) (la, _) =
        next_keeps (part_keeps keeps la) (λ m x m_more lx. unless_keeps (eqb a x) (omega arith) (lift_keeps ((calls_keep depth).pow_at e m x lx)))
    node_keeps (Max a b) (la, (lb, _)) =
        parts_keep keeps (la, lb) (λ m x y m_more lx ly. unless_keeps (eqb a x && eqb b y) (omega arith) (lift_keeps ((calls_keep depth).max_at m x y lx ly)))

  at_keeps : {P₀ : Pool} → Keeps P₀ → value < P₀.count → (down : ℕ → Walk) → KeepsFrom P₀ down → KeepsFrom P₀ (substitute_at var value down)
  at_keeps {P₀} k given down keeps i h S good = (node_keeps keeps given i h (node_at S.pool i) (rw same (parts_below k i))).kept S good good.grown.no_fewer
    where
      same : node_at S.pool i ≡ node_at P₀ i
      same = earlier_same good.grown i h

  pub substitute_kept : {P : Pool} (root : ℕ) → Keeps P → root < P.count → value < P.count → KeptBy P (substitute_var root var value P)
  unfolding substitute_var
  substitute_kept root k h given = walk_kept (at_keeps k given) root k h
