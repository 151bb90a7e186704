-- The rules of the calculus in an algebra, as `derive_with` has them: the slope of a node from the values and the slopes of its parts.
-- Assumes nothing.
use Rattle.std.specs.Prelude.{cond, ℕ, ◌-◌, eqb, pos, negsuc}
use Rattle.pool.specs.declared.node.Node.{Node}
use Rattle.pool.specs.declared.node.Node.TheVariants.{Empty, Variable, Lit, Add, Mul, Div, Exp, Log, Pow, Max}
use Rattle.pool.specs.Fold.{fold_nodes}
use Rattle.meaning.specs.Model.{Algebra, power}
use Rattle.meaning.specs.Value.{Values, value}

module _ (A : Algebra) (env : Values A) (var : ℕ) where
  open A use {carrier, int, plus as ◌⊕◌, times as ◌⊗◌, over as ◌⊘◌, exp}

  infixl 20 ◌⊕◌
  infixl 30 ◌⊗◌ ◌⊘◌
  -- the Rust's quotient rule: (a × b' - b × a') / b^2, where the calculus has (b × a' - a × b') / b^2
  abbrev pub quotient_slope : carrier → carrier → carrier → carrier → carrier
  quotient_slope a b da db = (a ⊗ db ⊕ int (negsuc 0) ⊗ (b ⊗ da)) ⊘ power A b 2

  -- `v` has the values of the parts and `d` their slopes; what is no node, and a maximum, count as 0: `derive` refuses both
  unfoldable pub slope_node : (ℕ → carrier) → (ℕ → carrier) → Node → carrier
  slope_node v d Empty = int (pos 0)
  -- x' = 1, and any other variable's is 0
  slope_node v d (Variable u) = int (cond (eqb u var) (pos 1) (pos 0))
  slope_node v d (Lit z) = int (pos 0)
  -- (a + b)' = a' + b'
  slope_node v d (Add a b) = d a ⊕ d b
  -- (a × b)' = a × b' + b × a'
  slope_node v d (Mul a b) = v a ⊗ d b ⊕ v b ⊗ d a
  slope_node v d (Div a b) = quotient_slope (v a) (v b) (d a) (d b)
  -- (exp a)' = a' × exp a
  slope_node v d (Exp a) = d a ⊗ exp (v a)
  -- (log a)' = a' / a
  slope_node v d (Log a) = d a ⊘ v a
  -- (a^e)' = e × a' × a^(e - 1)
  slope_node v d (Pow a e) = int (pos e) ⊗ d a ⊗ power A (v a) (e - 1)
  slope_node v d (Max a b) = int (pos 0)

  -- the slope of a node
  abbrev pub slope : (ℕ → Node) → ℕ → carrier
  slope at = fold_nodes (int (pos 0)) (slope_node (value A env at)) at
