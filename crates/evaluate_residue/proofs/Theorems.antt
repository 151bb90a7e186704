-- The residue of an expression goes by the nodes that are reached from its root: two tables of nodes that agree there give one residue.
-- Assumes nothing.
use Rattle.std.specs.Prelude.{Err}
use mathlib.Core.Path.{◌≡◌}
use mathlib.Core.List.{List, Memᴰ}
use Prim.Native.Nat.{ℕ, ◌<◌, ◌≤◌}
use Rattle.pool.specs.Nodes.{parts}
use Rattle.pool.specs.declared.node.Node.{Node}
use Rattle.refusals.specs.Refusals.{broken_pool}
use Rattle.walks.specs.EvaluateResidue.{evaluate_residue}
use Rattle.value_walk.proofs.Residues.{goes_by_parts}
use Rattle.walks.proofs.Reached.{Reached, agrees_on, agrees_on_reached, agrees_up_to}

module _ (m : ℕ) (values : List ℕ) where
  module _ (at at' : ℕ → Node) (root : ℕ) where
    -- a set of numbers that has the root and the parts of its own
    pub residue_goes_by_a_closed_set :
        (S : ℕ → Type 0) → ((i a : ℕ) → S i → Memᴰ a (parts (at i)) → a < i → S a) → ((i : ℕ) → S i → at i ≡ at' i) → S root → evaluate_residue m at values root ≡ evaluate_residue m at' values root
    residue_goes_by_a_closed_set S closed agree here =
        agrees_on (Err broken_pool) (goes_by_parts m values) at at' S closed agree root here

    pub residue_goes_by_the_reached : ((i : ℕ) → Reached at root i → at i ≡ at' i) → evaluate_residue m at values root ≡ evaluate_residue m at' values root
    residue_goes_by_the_reached agree =
        agrees_on_reached (Err broken_pool) (goes_by_parts m values) at at' root agree

    pub residue_goes_by_the_numbers_up_to : ((i : ℕ) → i ≤ root → at i ≡ at' i) → evaluate_residue m at values root ≡ evaluate_residue m at' values root
    residue_goes_by_the_numbers_up_to agree =
        agrees_up_to (Err broken_pool) (goes_by_parts m values) at at' root agree
