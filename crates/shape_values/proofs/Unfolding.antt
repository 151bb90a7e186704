-- Evaluation and printing unfold: what is given at a node is what is done there with what is given at its parts, with no bound, on tables whose parts fall.
-- Assumes nothing.
use Rattle.std.specs.Prelude.{Err}
use mathlib.Core.Path.{◌≡◌, refl, sym, ap, ◌∙◌}
use mathlib.Core.List.{List, []}
use Prim.Native.Nat.{ℕ}
use lib.Dec.{ltb}
use lib.Ieee.{Float}
use Rattle.refusals.specs.Refusals.{broken_pool}
use Rattle.pool.specs.declared.node.Node.{Node}
use Rattle.pool.specs.Reaches.{reaches_at, is_max}
use Rattle.pool.specs.Fold.{under, fold_nodes}
use Rattle.pool.proofs.Folds.{visits, below}
use Rattle.walks.specs.Evaluate.{evaluate_node, evaluate}
use Rattle.walks.specs.EvaluateResidue.{residue_node, evaluate_residue}
use Rattle.walks.specs.Print.{precedence, bracketed, node_text, has_max}
use Rattle.shape.specs.Walked.{Falls}
use Rattle.shape.proofs.Renaming.{rename_same}
use Rattle.shape.proofs.Reached.{reaches_unfolds}
use Rattle.shape_values.specs.Printing.{text_under}
use Rattle.shape_values.proofs.SameShape.{GoesByShape, value_by_shape, residue_by_shape, text_by_shape}

-- every recursion over node numbers whose visits look only at parts
pub unfolds :
    {A : Type 0} (none : A) {node : (ℕ → A) → Node → A} (p : ℕ → Node) → GoesByShape node → Falls p → (i : ℕ) → fold_nodes none node p i ≡ node (fold_nodes none node p) (p i)
unfolds none {node} p goes falls i =
    visits none node p i
    ∙ goes (λ a. a) (under none (fold_nodes none node p) i) (fold_nodes none node p) (p i) (λ a m. sym (below none (fold_nodes none node p) i a (falls i a m)))
    ∙ ap (node (fold_nodes none node p)) (rename_same (λ a. a) (p i) (λ a m. refl))

module _ (at : ℕ → Node) (falls : Falls at) (i : ℕ) where
  pub value_unfolds : (values : List Float) → evaluate at values i ≡ evaluate_node values (evaluate at values) (at i)
  value_unfolds values = unfolds (Err broken_pool) at (value_by_shape values) falls i

  pub residue_unfolds : (m : ℕ) (values : List ℕ) → evaluate_residue m at values i ≡ residue_node m values (evaluate_residue m at values) (at i)
  residue_unfolds m values = unfolds (Err broken_pool) at (residue_by_shape m values) falls i

  pub text_unfolds : (parent : ℕ) → text_under at parent i ≡ bracketed (ltb (precedence (at i)) parent) (node_text (text_under at) (at i))
  text_unfolds parent = ap (λ text. text parent) (unfolds (λ around. []) at text_by_shape falls i)

  pub max_unfolds : has_max at i ≡ reaches_at is_max (has_max at) (at i)
  max_unfolds = reaches_unfolds is_max at falls i
