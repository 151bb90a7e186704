-- `substitute_with` of src/symbolic.rs, with the map that takes one variable to one node.
-- Assumes nothing.
use Rattle.std.specs.Prelude.{Bool, true, false, ◌&&◌, cond, ℕ, eqb}
use Rattle.refusals.specs.Refusals.{broken_pool}
use Rattle.pool.specs.declared.node.Node.{Node}
use Rattle.pool.specs.declared.node.Node.TheVariants.{Empty, Variable, Lit, Add, Mul, Div, Exp, Log, Pow, Max}
use Rattle.pool.specs.Pool.{Run, node_at}
use Rattle.constructors.specs.Build.{calls, depth}
use Rattle.walks.specs.Walk.{Walk, ◌>>=◌, yield, refuse, lift, walk_from}

-- if same_ref(..) { term.clone() } else { .. }
abbrev pub unless : Bool → ℕ → Walk → Walk
unless true term rebuilt = yield term
unless false term rebuilt = rebuilt

-- match term
abbrev pub substitute_node : ℕ → ℕ → (ℕ → Walk) → ℕ → Node → Walk
substitute_node var value down term Empty = refuse broken_pool
-- Variable(v) => if let Some(val) = map(v) { val } else { term }
substitute_node var value down term (Variable v) = yield (cond (eqb v var) value term)
-- Lit(_) => term
substitute_node var value down term (Lit z) = yield term
-- Add(a, b) => { a2; b2; if same_ref(a, a2) && same_ref(b, b2) { term } else { add(a2, b2) } }
substitute_node var value down term (Add a b) = do
  a2 ← down a
  b2 ← down b
  unless (eqb a a2 && eqb b b2) term (lift ((calls depth).add_at a2 b2))
substitute_node var value down term (Mul a b) = do
  a2 ← down a
  b2 ← down b
  unless (eqb a a2 && eqb b b2) term (lift ((calls depth).mul_at a2 b2))
substitute_node var value down term (Div a b) = do
  a2 ← down a
  b2 ← down b
  unless (eqb a a2 && eqb b b2) term (lift ((calls depth).div_at a2 b2))
-- Exp(a) => { a2; if same_ref(a, a2) { term } else { exp(a2) } }
substitute_node var value down term (Exp a) = do
  a2 ← down a
  unless (eqb a a2) term (lift ((calls depth).exp_at a2))
substitute_node var value down term (Log a) = do
  a2 ← down a
  unless (eqb a a2) term (lift ((calls depth).log_at a2))
-- Pow(a, exp) => { a2; if same_ref(a, a2) { term } else { pow(a2, exp) } }
substitute_node var value down term (Pow a e) = do
  a2 ← down a
  unless (eqb a a2) term (lift ((calls depth).pow_at a2 e))
substitute_node var value down term (Max a b) = do
  a2 ← down a
  b2 ← down b
  unless (eqb a a2 && eqb b b2) term (lift ((calls depth).max_at a2 b2))

abbrev pub substitute_at : ℕ → ℕ → (ℕ → Walk) → ℕ → Walk
substitute_at var value down term S = substitute_node var value down term (node_at S.pool term) S

unfoldable pub substitute_var : ℕ → ℕ → ℕ → Run
substitute_var root var value = walk_from (substitute_at var value) root
