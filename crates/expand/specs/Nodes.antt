-- The expansion of a node, of those that are kept for its parts. No part of what an expansion means.
-- Assumes nothing.
use Rattle.std.specs.Prelude.{Bool, true, false, ℕ, eqb, List, [], ◌∷◌}
use Rattle.refusals.specs.Refusals.{broken_pool, max_reached}
use Rattle.pool.specs.declared.node.Node.{Node}
use Rattle.pool.specs.declared.node.Node.TheVariants.{Empty, Variable, Lit, Add, Mul, Div, Exp, Log, Pow, Max}
use Rattle.taylor.specs.Work.{Work, ◌>>=◌, yield, refuse}
use Rattle.taylor.specs.Expansion.{Expansion, var, add_to, times, quotient, exponential, logarithm, power}
use Rattle.taylor.specs.declared.expansion.Expansion.TheVariants.{Constant}
use Rattle.taylor.specs.Expand.{Point, point_node}

-- the parts that are visited before the node: at a Max the walk ends
abbrev pub visits : Node → List ℕ
visits Empty = []
visits (Variable v) = []
visits (Lit z) = []
visits (Add a b) = a ∷ b ∷ []
visits (Mul a b) = a ∷ b ∷ []
visits (Div a b) = a ∷ b ∷ []
visits (Exp a) = a ∷ []
visits (Log a) = a ∷ []
visits (Pow a e) = a ∷ []
visits (Max a b) = []

-- Some(x) => lit(x), None => var(var); then var(point, order)
abbrev pub variable_work : ℕ → Point → ℕ → Work Expansion
variable_work v x order = do
  p ← point_node v x
  var p order

-- if v == var { var(point, order) } else { Constant(term) }
abbrev pub leaf_work : Bool → ℕ → ℕ → Point → ℕ → Work Expansion
leaf_work true term v x order = variable_work v x order
leaf_work false term v x order = yield (Constant term)

-- match term, where `part` has the expansions of the parts
abbrev pub node_work : ℕ → Point → ℕ → (ℕ → Expansion) → ℕ → Node → Work Expansion
node_work v x order part term Empty = refuse broken_pool
node_work v x order part term (Variable u) = leaf_work (eqb u v) term v x order
node_work v x order part term (Lit z) = yield (Constant term)
node_work v x order part term (Add a b) = add_to (part a) (part b)
node_work v x order part term (Mul a b) = times (part a) (part b)
node_work v x order part term (Div a b) = quotient (part a) (part b)
node_work v x order part term (Exp a) = exponential (part a)
node_work v x order part term (Log a) = logarithm (part a)
node_work v x order part term (Pow a e) = power (part a) e
node_work v x order part term (Max a b) = refuse max_reached
