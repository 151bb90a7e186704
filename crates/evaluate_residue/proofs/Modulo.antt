-- Every residue that the definition gives is below the modulus: each operation on residues ends below it, whatever its parts.
-- Assumes nothing.
use mathlib.Core.Path.{◌≡◌, refl}
use mathlib.Core.List.{List}
use Prim.Native.Nat.{ℕ, ◌<◌}
use Rattle.std.specs.Prelude.{Ok, Err}
use Rattle.refusals.specs.Refusals.{broken_pool}
use Rattle.residue.specs.Residue.{Modulus}
use Rattle.residue.specs.Residue.{Divided}
use Rattle.pool.specs.declared.node.Node.{Node}
use Rattle.walks.specs.EvaluateResidue.{residue_node, residue_below}
use Rattle.pool.proofs.Folds.{throughout}
use Rattle.evaluate_residue.specs.Residues.{AreResidues, Below}
use Rattle.value_walk.proofs.Residues.{fits}

module _ (m : ℕ) (modulus : Modulus m) (values : List ℕ) (residues : AreResidues m values) where
  of_fit : (r : Divided) → ((x : ℕ) → r ≡ Ok x → x < m) → Below m r
  of_fit (Ok x) fit = fit x refl
  of_fit (Err k) fit = tt

  -- an answer of the walk is below the modulus, where it is no refusal
  pub answer_below : {r : Divided} (at : ℕ → Node) (k i : ℕ) → r ≡ residue_below m at values k i → Below m r
  answer_below at k i is =
      rw is (throughout (Err broken_pool) (residue_node m values) at (Below m) tt (λ down j. of_fit (residue_node m values down (at j)) (fits m modulus values residues.below down (at j))) k i)
