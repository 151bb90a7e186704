-- The facts on 10 to 18: computed once the test of 1 is passed by law.
-- Assumes nothing.
use mathlib.Core.Path.{refl, ap, ◌∙◌}
use Rattle.literal.specs.Literal.{folded, exp_of, log_of}
use Rattle.residue.specs.Residue.{residue}
use Rattle.residue.proofs.Examples as residues
use Rattle.pool.specs.Nodes.{decode, may_stand_at}
use Rattle.pool.specs.Fold.{under, fold_nodes_within, fold_nodes}
use Rattle.pool.specs.Pool.{append, node_in, each}
use Rattle.constructors.specs.Tables.{add_arms, mul_lits, mul_exps, mul_left, mul_pows, mul_last, pow_table, exp_arms, log_arms}
use Rattle.constructors.specs.Build.{build, calls}
use Rattle.walks.specs.Walk.{walk_below}
use Rattle.walks.specs.Derive.{derive}
use Rattle.taylor.specs.Work as of
use Rattle.taylor.specs.Expand.{expand_below}
use Rattle.limits.specs.Lent.{full}
use Rattle.limits.specs.Calls.{residue_given}
use Rattle.limits.specs.Limits.{Working}
use Rattle.limits.proofs.Pools.{full_by_rules}
use Rattle.limits.proofs.Called.{called_by, called_on, expanded_on, evaluated_on, residue_on, printed_on}

pub working : Working
unfolding full node_in decode may_stand_at each append calls build add_arms mul_lits mul_exps mul_left mul_pows mul_last pow_table exp_arms log_arms folded exp_of log_of walk_below derive expand_below of.fold residue fold_nodes fold_nodes_within under
working =
    record {
      max_derived = called_on _ refl _;
      max_expanded = expanded_on _ refl _;
      max_printed = printed_on _ refl _ _;
      max_of_a_list = expanded_on _ refl _;
      exp_of_0 = called_on _ refl _;
      exp_of_1 = called_on _ refl _;
      log_of_1 = called_on _ refl _;
      log_of_2 = called_on _ refl _;
      sum_greatest = called_on _ refl _;
      sum_above = called_on _ refl _;
      derivative_18 = called_on _ refl _;
      derivative_19 = called_on _ refl _;
      exponents_4294967295 = called_on _ refl _;
      exponents_4294967296 = called_on _ refl _;
      under_199 = called_on _ refl _;
      under_200 = called_on _ refl _;
      value_1_of_1 = λ x. evaluated_on _ refl _ _;
      residue_1_of_1 = residue_on _ refl _ _;
      exp_evaluated = λ x. evaluated_on _ refl _ _;
      log_evaluated = λ x. evaluated_on _ refl _ _;
      max_by_residues = residue_on _ refl _ _;
      over_zero = residue_on _ refl _ _ ∙ ap residue_given (residues.over_zero 1);
      full_sum = called_by full full_by_rules _;
      full_product = called_by full full_by_rules _;
    }
