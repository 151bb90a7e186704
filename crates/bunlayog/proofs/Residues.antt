-- A call that evaluates by residues answers a residue below the modulus, or a refusal.
-- Assumes nothing.
use Rattle.std.specs.Prelude.{Err}
use mathlib.Core.Path.{◌≡◌, refl}
use mathlib.Core.Bool.{Bool, true, false}
use mathlib.Core.List.{List, [], ◌∷◌}
use Prim.Native.Nat.{ℕ, suc}
use native.Mathlib.Omega.{arith}
use Rattle.refusals.specs.Refusals.{broken_pool, unknown_node, wrong_values}
use Rattle.residue.specs.Residue.{Modulus, fixed_modulus}
use Rattle.residue.specs.Residue.{Divided}
use Rattle.pool.specs.Nodes.{all_below}
use Rattle.pool.specs.Pool.{node_in, is_pool}
use Rattle.pool.proofs.Folds.{below}
use Rattle.walks.specs.EvaluateResidue.{evaluate_residue}
use Rattle.evaluate_residue.specs.Residues.{Below}
use Rattle.evaluate_residue.proofs.Modulo.{answer_below}
use Rattle.engine_values.specs.Values.{are_residues, evaluate_residue_call}
use Rattle.lent.specs.Call.{demand}
use Rattle.engine_values.proofs.Evaluates.{residues_below}

fixed : Modulus fixed_modulus
fixed = record { least = omega arith; most = omega arith }

module _ (ks ws : List ℕ) (n root : ℕ) (values : List ℕ) where
  tested_below :
      (p g a : Bool) → are_residues values ≡ a → Below fixed_modulus (demand Err p broken_pool (demand Err g unknown_node (demand Err a wrong_values (evaluate_residue fixed_modulus (node_in ks ws) values root))))
  tested_below false g a e = tt
  tested_below true false a e = tt
  tested_below true true false e = tt
  tested_below true true true e = answer_below fixed_modulus fixed values (residues_below values e) (node_in ks ws) (suc root) root
      (below (Err broken_pool) (evaluate_residue fixed_modulus (node_in ks ws) values) (suc root) root (omega arith))

  pub call_below : {r : Divided} → r ≡ evaluate_residue_call ks ws n root values → Below fixed_modulus r
  unfolding evaluate_residue_call
  call_below is = rw is (tested_below (is_pool ks ws n) (all_below n (root ∷ [])) (are_residues values) refl)
