-- What the laws on printing speak of: the text of a node under a precedence, and a Max that a root reaches.
-- Assumes nothing.
use Rattle.std.specs.Prelude.{List, [], ◌∷◌, ℕ}
use Rattle.pool.specs.declared.node.Node.{Node}
use Rattle.pool.specs.declared.node.Node.TheVariants.{Max}
use Rattle.pool.specs.Fold.{fold_nodes}
use Rattle.walks.specs.Print.{text_node}
use Rattle.shape.specs.Shape.{Reach}

-- fn node_fmt(node, parent_precedence), of node i
abbrev pub text_under : (ℕ → Node) → ℕ → ℕ → List ℕ
text_under at parent i = fold_nodes (λ around. []) text_node at i parent

pub data IsMax : Node → Type 0 where
  is_max_lem : {a b : ℕ} → IsMax (Max a b)

-- "any reachable node is Max"
abbrev pub ReachesMax : (ℕ → Node) → ℕ → Type 0
ReachesMax at root = (j : ℕ) × Reach at (root ∷ []) j × IsMax (at j)
