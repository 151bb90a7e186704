-- What the definitions of printing promise: the text of a root, and whether it reaches a Max, depend on the nodes up to the root alone.
-- Assumes nothing.
use mathlib.Core.Path.{◌≡◌, ap}
use mathlib.Core.Bool.{false}
use mathlib.Core.List.{List, []}
use Prim.Native.Nat.{ℕ, ◌≤◌}
use Rattle.pool.specs.declared.node.Node.{Node}
use Rattle.pool.specs.Reaches.{reaches_at, is_max}
use Rattle.walks.specs.Print.{text_node, text_of, has_max}
use Rattle.pool.proofs.Folds.{looks_up_to_the_root}

module _ (at at' : ℕ → Node) (root : ℕ) (same : (j : ℕ) → j ≤ root → at j ≡ at' j) where
  pub text_looks_up_to_the_root : text_of at root ≡ text_of at' root
  text_looks_up_to_the_root = ap (λ (text : ℕ → List ℕ). text 0) (looks_up_to_the_root (λ around. []) text_node at at' root same)

  pub max_looks_up_to_the_root : has_max at root ≡ has_max at' root
  max_looks_up_to_the_root = looks_up_to_the_root false (reaches_at is_max) at at' root same
