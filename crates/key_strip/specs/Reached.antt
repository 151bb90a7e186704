-- C-20: "16 covers a reachable Exp or Log here". Said without a search.
-- Assumes nothing.
use Rattle.std.specs.Prelude.{[], ◌∷◌, ℕ}
use Rattle.pool.specs.declared.node.Node.{Node}
use Rattle.pool.specs.declared.node.Node.TheVariants.{Exp, Log}
use Rattle.shape.specs.Shape.{Reach}

pub data IsExpOrLog : Node → Type 0 where
  is_exp : {a : ℕ} → IsExpOrLog (Exp a)
  is_log : {a : ℕ} → IsExpOrLog (Log a)

-- "a reachable Exp or Log"
abbrev pub ReachesExpOrLog : (ℕ → Node) → ℕ → Type 0
ReachesExpOrLog at root = (j : ℕ) × Reach at (root ∷ []) j × IsExpOrLog (at j)
