-- Derivation only appends, and keeps the rules of a pool that has its root: what is done at a node of each kind does.
-- Assumes nothing.
use mathlib.Core.Path.{◌≡◌}
use mathlib.Core.Bool.{cond}
use Prim.Native.Nat.{ℕ, ◌-◌, ◌<◌}
use native.Mathlib.Omega.{arith}
use lib.Dec.{eqb}
use lib.IntN.{ℤ, pos}
use Rattle.refusals.specs.Refusals.{broken_pool, max_reached}
use Rattle.literal.specs.Literal.{folded}
use Rattle.pool.specs.declared.node.Node.{Node}
use Rattle.pool.specs.declared.node.Node.TheVariants.{Empty, Variable, Lit, Add, Mul, Div, Exp, Log, Pow, Max}
use Rattle.pool.specs.Nodes.{parts}
use Rattle.pool.specs.Pool.{Pool, node_at}
use Rattle.constructors.specs.Build.{depth}
use Rattle.constructor_laws.specs.Keeps.{Keeps, KeptBy}
use Rattle.constructor_laws.proofs.Rules.{AllBelow, parts_below}
use Rattle.constructor_laws.proofs.Growth.{earlier_same, calls_grow, literal_grows}
use Rattle.constructor_laws.proofs.Growth as runs
use Rattle.constructor_laws.proofs.Keeping.{folded_keeps, calls_keep}
use Rattle.walks.specs.Walk.{Walk}
use Rattle.walks.specs.Derive.{lit, add, mul, div, neg, pow, quotient_rule, derive_node, derive_at, derive}
use Rattle.walk_laws.proofs.Growth.{Growing, ◌>>=◌, refuse_grows, lift_grows, GrowsAt, walk_grows}
use Rattle.walk_laws.proofs.Keeping.{Keeping, KeepsFrom, refuse_keeps, next_keeps, lift_keeps, part_keeps, parts_keep, walk_kept}

-- ---- it only appends

lit_grows : (z : ℤ) → Growing (lit z)
lit_grows z = lift_grows (literal_grows (folded z))

add_grows : (a b : ℕ) → Growing (add a b)
add_grows a b = lift_grows ((calls_grow depth).add_at a b)

mul_grows : (a b : ℕ) → Growing (mul a b)
mul_grows a b = lift_grows ((calls_grow depth).mul_at a b)

div_grows : (a b : ℕ) → Growing (div a b)
div_grows a b = lift_grows ((calls_grow depth).div_at a b)

neg_grows : (a : ℕ) → Growing (neg a)
neg_grows a = lift_grows ((calls_grow depth).neg_at a)

pow_grows : (a e : ℕ) → Growing (pow a e)
pow_grows a e = lift_grows ((calls_grow depth).pow_at a e)

quotient_grows : (a b da db : ℕ) → Growing (quotient_rule a b da db)
quotient_grows a b da db = do
  x ← mul_grows a db
  y ← mul_grows b da
  b2 ← pow_grows b 2
  n ← neg_grows y
  s ← add_grows x n
  div_grows s b2

module _ (var : ℕ) where
  module _ {down : ℕ → Walk} (g : (i : ℕ) → Growing (down i)) (term : ℕ) where
    node_grows : (x : Node) → Growing (derive_node var down term x)
    node_grows Empty = refuse_grows broken_pool
    node_grows (Variable v) = lit_grows (cond (eqb v var) (pos 1) (pos 0))
    node_grows (Lit z) = lit_grows (pos 0)
    node_grows (Add a b) = do
      da ← g a
      db ← g b
      add_grows da db
    node_grows (Mul a b) = do
      da ← g a
      db ← g b
      x ← mul_grows a db
      y ← mul_grows b da
      add_grows x y
    node_grows (Div a b) = do
      da ← g a
      db ← g b
      quotient_grows a b da db
    node_grows (Exp a) = do
      da ← g a
      mul_grows da term
    node_grows (Log a) = do
      da ← g a
      div_grows da a
    node_grows (Pow a e) = do
      da ← g a
      p ← pow_grows a (e - 1)
      n ← lit_grows (pos e)
      t ← mul_grows n da
      mul_grows t p
    node_grows (Max a b) = refuse_grows max_reached

  at_grows : GrowsAt (derive_at var)
  at_grows down g i = record { grows = λ S. (node_grows g i (node_at S.pool i)).grows S }

  pub derive_grows : (root : ℕ) → runs.Growing (derive root var)
  unfolding derive
  derive_grows root = walk_grows at_grows root

-- ---- it keeps the rules

module _ {P₀ : Pool} {n : ℕ} where
  lit_keeps : (z : ℤ) → Keeping P₀ n (lit z)
  lit_keeps z = lift_keeps (folded_keeps z)

  add_keeps : {a b : ℕ} → a < n → b < n → Keeping P₀ n (add a b)
  add_keeps {a} {b} la lb = lift_keeps ((calls_keep depth).add_at n a b la lb)

  mul_keeps : {a b : ℕ} → a < n → b < n → Keeping P₀ n (mul a b)
  mul_keeps {a} {b} la lb = lift_keeps ((calls_keep depth).mul_at n a b la lb)

  div_keeps : {a b : ℕ} → a < n → b < n → Keeping P₀ n (div a b)
  div_keeps {a} {b} la lb = lift_keeps ((calls_keep depth).div_at n a b la lb)

  neg_keeps : {a : ℕ} → a < n → Keeping P₀ n (neg a)
  neg_keeps {a} la = lift_keeps ((calls_keep depth).neg_at n a la)

  pow_keeps : {a : ℕ} (e : ℕ) → a < n → Keeping P₀ n (pow a e)
  pow_keeps {a} e la = lift_keeps ((calls_keep depth).pow_at e n a la)

quotient_keeps : {P₀ : Pool} {n a b da db : ℕ} → a < n → b < n → da < n → db < n → Keeping P₀ n (quotient_rule a b da db)
quotient_keeps la lb lda ldb =
    next_keeps (mul_keeps la ldb)
    (λ m₁ x s₁ lx. next_keeps (mul_keeps (omega arith) (omega arith))
    (λ m₂ y s₂ ly. next_keeps (pow_keeps 2 (omega arith))
    (λ m₃ b2 s₃ lb2. next_keeps (neg_keeps (omega arith))
    (λ m₄ n s₄ ln. next_keeps (add_keeps (omega arith) ln)
    (λ m₅ s s₅ ls. div_keeps ls (omega arith))))))

module _ (var : ℕ) where
  module _ {P₀ : Pool} {down : ℕ → Walk} (keeps : KeepsFrom P₀ down) (term : ℕ) (h : term < P₀.count) where
    node_keeps : (x : Node) → AllBelow P₀.count (parts x) → Keeping P₀ P₀.count (derive_node var down term x)
    node_keeps Empty l = refuse_keeps broken_pool
    node_keeps (Variable v) l = lit_keeps (cond (eqb v var) (pos 1) (pos 0))
    node_keeps (Lit z) l = lit_keeps (pos 0)
    node_keeps (Add a b) (la, (lb, _)) = parts_keep keeps (la, lb) (λ m da db s lda ldb. add_keeps lda ldb)
    node_keeps (Mul a b) (la, (lb, _)) =
        parts_keep keeps (la, lb)
        (λ m da db s lda ldb. next_keeps (mul_keeps (omega arith) ldb)
        (λ m₁ x s₁ lx. next_keeps (mul_keeps (omega arith) (omega arith))
        (λ m₂ y s₂ ly. add_keeps (omega arith) ly)))
    node_keeps (Div a b) (la, (lb, _)) = parts_keep keeps (la, lb) (λ m da db s lda ldb. quotient_keeps (omega arith) (omega arith) lda ldb)
    node_keeps (Exp a) (la, _) = next_keeps (part_keeps keeps la) (λ m da s lda. mul_keeps lda (omega arith))
    node_keeps (Log a) (la, _) = next_keeps (part_keeps keeps la) (λ m da s lda. div_keeps lda (omega arith))
    node_keeps (Pow a e) (la, _) =
        next_keeps (part_keeps keeps la)
        (λ m da s lda. next_keeps (pow_keeps (e - 1) (omega arith))
        (λ m₁ p s₁ lp. next_keeps (lit_keeps (pos e))
        (λ m₂ c s₂ lc. next_keeps (mul_keeps lc (omega arith))
        (λ m₃ t s₃ lt. mul_keeps lt (omega arith)))))
    node_keeps (Max a b) l = refuse_keeps max_reached

  at_keeps : {P₀ : Pool} → Keeps P₀ → (down : ℕ → Walk) → KeepsFrom P₀ down → KeepsFrom P₀ (derive_at var down)
  at_keeps {P₀} k down keeps i h S good = (node_keeps keeps i h (node_at S.pool i) (rw same (parts_below k i))).kept S good good.grown.no_fewer
    where
      same : node_at S.pool i ≡ node_at P₀ i
      same = earlier_same good.grown i h

  pub derive_kept : {P : Pool} (root : ℕ) → Keeps P → root < P.count → KeptBy P (derive root var P)
  unfolding derive
  derive_kept root k h = walk_kept (at_keeps k) root k h
