-- Whether a node that meets a test is reached; reached are "the root and each part of a reachable node".
-- Assumes nothing.
use Rattle.std.specs.Prelude.{ℕ, Bool, false, ◌||◌, List, [], ◌∷◌, ◌==◌}
use Rattle.pool.specs.declared.node.Node.{Node}
use Rattle.pool.specs.Nodes.{kind_of, parts}
use Rattle.pool.specs.Fold.{fold_nodes}

-- whether `down` holds of one of these parts
abbrev pub some : (ℕ → Bool) → List ℕ → Bool
some down [] = false
some down (a ∷ more) = down a || some down more

abbrev pub reaches_at : (Node → Bool) → (ℕ → Bool) → Node → Bool
reaches_at test down n = test n || some down (parts n)

abbrev pub reaches : (Node → Bool) → (ℕ → Node) → ℕ → Bool
reaches test at root = fold_nodes false (reaches_at test) at root

-- 9: Max
abbrev pub is_max : Node → Bool
is_max n = kind_of n == 9

-- 6, 7: Exp, Log
abbrev pub is_exp_or_log : Node → Bool
is_exp_or_log n = kind_of n == 6 || kind_of n == 7
