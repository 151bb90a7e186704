-- `derive_with` of src/symbolic.rs.
-- Assumes nothing.
use Rattle.std.specs.Prelude.{cond, ℕ, ◌-◌, eqb, ℤ, pos}
use Rattle.refusals.specs.Refusals.{broken_pool, max_reached}
use Rattle.literal.specs.Literal.{folded}
use Rattle.pool.specs.declared.node.Node.{Node}
use Rattle.pool.specs.declared.node.Node.TheVariants.{Empty, Variable, Lit, Add, Mul, Div, Exp, Log, Pow, Max}
use Rattle.pool.specs.Pool.{Run, node_at}
use Rattle.constructors.specs.Build.{calls, depth, literal}
use Rattle.walks.specs.Walk.{Walk, ◌>>=◌, refuse, lift, walk_from}

abbrev pub lit : ℤ → Walk
lit z = lift (literal (folded z))

abbrev pub add : ℕ → ℕ → Walk
add a b = lift ((calls depth).add_at a b)

abbrev pub mul : ℕ → ℕ → Walk
mul a b = lift ((calls depth).mul_at a b)

abbrev pub div : ℕ → ℕ → Walk
div a b = lift ((calls depth).div_at a b)

abbrev pub neg : ℕ → Walk
neg a = lift ((calls depth).neg_at a)

abbrev pub pow : ℕ → ℕ → Walk
pow a e = lift ((calls depth).pow_at a e)

-- the rule of a quotient, with the Rust's sign: (a × db - b × da) / b^2
abbrev pub quotient_rule : ℕ → ℕ → ℕ → ℕ → Walk
quotient_rule a b da db = do
  x ← mul a db
  y ← mul b da
  b2 ← pow b 2
  n ← neg y
  s ← add x n
  div s b2

-- match term
abbrev pub derive_node : ℕ → (ℕ → Walk) → ℕ → Node → Walk
derive_node var down term Empty = refuse broken_pool
-- Variable(v) => if v == var { one() } else { zero() }
derive_node var down term (Variable v) = lit (cond (eqb v var) (pos 1) (pos 0))
-- Lit(_) => zero()
derive_node var down term (Lit z) = lit (pos 0)
-- Add(a, b) => { da; db; add(da, db) }
derive_node var down term (Add a b) = do
  da ← down a
  db ← down b
  add da db
-- Mul(a, b) => { da; db; x = mul(a, db); y = mul(b, da); add(x, y) }
derive_node var down term (Mul a b) = do
  da ← down a
  db ← down b
  x ← mul a db
  y ← mul b da
  add x y
-- Div(a, b) => { da; db; x = mul(a, db); y = mul(b, da); b2 = pow(b, 2); div(add(x, neg(y)), b2) }
derive_node var down term (Div a b) = do
  da ← down a
  db ← down b
  quotient_rule a b da db
-- Exp(a) => { da; mul(da, term) }
derive_node var down term (Exp a) = do
  da ← down a
  mul da term
-- Log(a) => { da; div(da, a) }
derive_node var down term (Log a) = do
  da ← down a
  div da a
-- Pow(a, exp) => { da; p = pow(a, exp - 1); tmp = lit(exp); tmp = mul(tmp, da); mul(tmp, p) }
derive_node var down term (Pow a e) = do
  da ← down a
  p ← pow a (e - 1)
  n ← lit (pos e)
  t ← mul n da
  mul t p
-- Max(..) => panic: 10
derive_node var down term (Max a b) = refuse max_reached

abbrev pub derive_at : ℕ → (ℕ → Walk) → ℕ → Walk
derive_at var down term S = derive_node var down term (node_at S.pool term) S

unfoldable pub derive : ℕ → ℕ → Run
derive root var = walk_from (derive_at var) root
