-- The constructors as calls from outside: what each demands of its arguments, and the work that it then does.
-- Assumes nothing.
use Rattle.std.specs.Prelude.{Bool, [], ◌∷◌, ℕ, leb, ℤ}
use Rattle.refusals.specs.Refusals.{unknown_variable, not_literal}
use Rattle.literal.specs.Literal.{is_literal}
use Rattle.pool.specs.declared.node.Node.{Node}
use Rattle.pool.specs.declared.node.Node.TheVariants.{Lit, Variable}
use Rattle.pool.specs.Nodes.{greatest_variable}
use Rattle.pool.specs.Pool.{Run, append, refused}
use Rattle.lent.specs.Call.{demand, given_nodes}
use Rattle.constructor_calls.specs.declared.two.Two.{Two}
use Rattle.constructor_calls.specs.declared.one.One.{One}
use Rattle.constructor_calls.specs.Calls.{two_work, one_work}

-- a leaf: its own refusal, then the node
abbrev pub leaf_work : Bool → ℕ → Node → Run
leaf_work allowed k n P = demand refused allowed k (append n P)

-- a literal: 4
abbrev pub lit_work : ℤ → Run
lit_work z = leaf_work (is_literal z) not_literal (Lit z)

-- a variable: 3
abbrev pub var_work : ℕ → Run
var_work v = leaf_work (leb v greatest_variable) unknown_variable (Variable v)

-- the constructors of two nodes: 2
abbrev pub on_two : Two → ℕ → ℕ → Run
on_two op a b = given_nodes (a ∷ b ∷ []) (two_work op a b)

-- the constructors of one node: 2
abbrev pub on_one : One → ℕ → Run
on_one op a = given_nodes (a ∷ []) (one_work op a)
