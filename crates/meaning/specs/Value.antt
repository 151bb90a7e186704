-- The value of a node in an algebra, for given values of the variables, and what it is for an answer to mean a value.
-- Assumes nothing.
use Rattle.std.specs.Prelude.{◌≡◌, ℕ, ◌<◌, pos}
use Rattle.pool.specs.declared.node.Node.{Node}
use Rattle.pool.specs.declared.node.Node.TheVariants.{Empty, Variable, Lit, Add, Mul, Div, Exp, Log, Pow, Max}
use Rattle.pool.specs.Pool.{Pool, node_at}
use Rattle.pool.specs.Fold.{fold_nodes}
use Rattle.meaning.specs.Model.{Algebra, power}

module _ (A : Algebra) where
  -- the values of the variables
  abbrev pub Values : Type 0
  Values = ℕ → A.carrier

  module _ (env : Values) where
    -- the value of a node from the values of its parts; what is no node counts as 0
    unfoldable pub value_node : (ℕ → A.carrier) → Node → A.carrier
    value_node down Empty = A.int (pos 0)
    value_node down (Variable v) = env v
    value_node down (Lit z) = A.int z
    value_node down (Add a b) = A.plus (down a) (down b)
    value_node down (Mul a b) = A.times (down a) (down b)
    value_node down (Div a b) = A.over (down a) (down b)
    value_node down (Exp a) = A.exp (down a)
    value_node down (Log a) = A.log (down a)
    value_node down (Pow a e) = power A (down a) e
    value_node down (Max a b) = A.max (down a) (down b)

    abbrev pub value : (ℕ → Node) → ℕ → A.carrier
    value at = fold_nodes (A.int (pos 0)) value_node at

    -- an accepted answer, node i of the pool Q: it has the value x, and every node of P has in Q the value that it had
    pub record Means (P : Pool) (x : A.carrier) (i : ℕ) (Q : Pool) : Type 0 where
      pub answer : value (node_at Q) i ≡ x
      pub earlier : (j : ℕ) → j < P.count → value (node_at Q) j ≡ value (node_at P) j
