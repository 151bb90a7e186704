-- The facts on values: by the examples of doubles and residues.
-- Assumes nothing.
use mathlib.Core.Path.{refl, ap, ◌∙◌}
use lib.Ieee.{to_bits, div, of_int}
use Rattle.double.specs.Double.{double_of}
use Rattle.double.proofs.Examples as doubles
use Rattle.residue.specs.Residue.{residue}
use Rattle.residue.proofs.Examples as residues
use Rattle.pool.specs.Nodes.{decode, may_stand_at}
use Rattle.pool.specs.Fold.{under, fold_nodes_within, fold_nodes}
use Rattle.pool.specs.Pool.{node_in, each}
use Rattle.limits.specs.Calls.{gives, residue_given}
use Rattle.limits.specs.Limits.{Values}
use Rattle.limits.proofs.Called.{evaluated_on, residue_on}

pub values : Values
unfolding node_in decode may_stand_at each double_of residue to_bits div of_int fold_nodes fold_nodes_within under
values =
    record {
      a_third = evaluated_on _ refl _ _ ∙ ap gives doubles.a_third;
      no_number = evaluated_on _ refl _ _;
      a_half = residue_on _ refl _ _ ∙ ap residue_given residues.one_half;
    }
