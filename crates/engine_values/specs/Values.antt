-- Evaluation as calls from outside: 1, 2 and 6 first, then the work. Nothing that is lent changes.
-- Assumes nothing.
use Rattle.std.specs.Prelude.{Bool, ◌&&◌, List, [], ◌∷◌, ℕ, leb, ltb, length, get_or, Float, Err}
use Rattle.refusals.specs.Refusals.{broken_pool, unknown_node, wrong_values}
use Rattle.double.specs.Double.{Valued}
use Rattle.residue.specs.Residue.{fixed_modulus}
use Rattle.residue.specs.Residue.{Divided}
use Rattle.pool.specs.Nodes.{all_below}
use Rattle.pool.specs.Pool.{node_in, each, is_pool}
use Rattle.lent.specs.Call.{demand}
use Rattle.walks.specs.Evaluate.{evaluate}
use Rattle.walks.specs.EvaluateResidue.{evaluate_residue}

-- 6. "A table of values has more than 65,536 entries"
abbrev pub most_values : ℕ
most_values = 65536

unfoldable pub evaluate_call : List ℕ → List ℕ → ℕ → ℕ → List Float → Valued
evaluate_call ks ws n root values =
    demand Err (is_pool ks ws n) broken_pool
    (demand Err (all_below n (root ∷ [])) unknown_node
    (demand Err (leb (length values) most_values) wrong_values
    (evaluate (node_in ks ws) values root)))

-- "or a residue in it is 2,147,483,647 or more"
abbrev pub are_residues : List ℕ → Bool
are_residues values = leb (length values) most_values && each (length values) (λ i. ltb (get_or values i 0) fixed_modulus)

unfoldable pub evaluate_residue_call : List ℕ → List ℕ → ℕ → ℕ → List ℕ → Divided
evaluate_residue_call ks ws n root values =
    demand Err (is_pool ks ws n) broken_pool
    (demand Err (all_below n (root ∷ [])) unknown_node
    (demand Err (are_residues values) wrong_values
    (evaluate_residue fixed_modulus (node_in ks ws) values root)))
