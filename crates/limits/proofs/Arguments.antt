-- The facts on 2 to 6, of given arguments: computed once the test of 1 is passed by law, a long table of residues by the law of its entries.
-- Assumes nothing.
use mathlib.Core.Path.{◌≡◌, refl}
use mathlib.Core.Bool.{true}
use mathlib.Core.List.{[], ◌∷◌}
use Prim.Native.Nat.{ℕ, ◌<◌}
use lib.Dec.{leb, ltb, lit<}
use lib.ListN.{get_or, replicate, length-replicate, get_or-replicate}
use borrow.Author.Tests.{lt-ltb}
use Rattle.literal.specs.Literal.{folded}
use Rattle.residue.specs.Residue.{fixed_modulus}
use Rattle.pool.specs.Nodes.{decode, may_stand_at}
use Rattle.pool.specs.Fold.{under, fold_nodes_within, fold_nodes}
use Rattle.pool.specs.Pool.{append, node_in, each}
use Rattle.constructors.specs.Tables.{add_arms, mul_lits, mul_exps, mul_left, mul_pows, mul_last}
use Rattle.constructors.specs.Build.{build, calls}
use Rattle.constructor_laws.proofs.Rules.{each_of}
use Rattle.walks.specs.Walk.{walk_below}
use Rattle.walks.specs.Substitute.{substitute_var}
use Rattle.walks.specs.Derive.{derive}
use Rattle.taylor.specs.Work as of
use Rattle.taylor.specs.Expansion.{times, horner}
use Rattle.taylor.specs.Expand.{expand_below}
use Rattle.engine_values.specs.Values.{are_residues}
use Rattle.limits.specs.Lent.{lent, variable}
use Rattle.limits.specs.Calls.{gives, evaluated_by_residues}
use Rattle.limits.specs.Limits.{Arguments}
use Rattle.limits.proofs.Pools.{fits}
use Rattle.limits.proofs.Called.{called_on, expanded_on, listed_on, evaluated_on, residue_on, residue_with, printed_on, written_on}

-- a table of one residue
repeated_are_residues : (n x : ℕ) → leb n 65536 ≡ true → x < fixed_modulus → are_residues (replicate n x) ≡ true
repeated_are_residues n x few small =
    rw (length-replicate {A = ℕ} n x, few) (each_of n (λ i. ltb (get_or (replicate n x) i 0) fixed_modulus) (λ i h. rw (get_or-replicate {A = ℕ} n i x 0 h) (lt-ltb x fixed_modulus small)))

variable_fits : fits (variable 65535 ∷ []) ≡ true
unfolding decode may_stand_at each
variable_fits = refl

residues_65536 : evaluated_by_residues (replicate 65536 7) 0 (lent (variable 65535 ∷ [])) ≡ gives 7
unfolding node_in decode fold_nodes fold_nodes_within under
residues_65536 = residue_with (variable 65535 ∷ []) variable_fits (replicate 65536 7) 0 (repeated_are_residues 65536 7 refl (lit< tt))

pub arguments : Arguments
unfolding node_in decode may_stand_at each append calls build add_arms mul_lits mul_exps mul_left mul_pows mul_last folded walk_below substitute_var derive expand_below of.each of.each_two of.fold of.fill times horner fold_nodes fold_nodes_within under
arguments =
    record {
      node_0_of_1 = called_on _ refl _;
      node_1_of_1 = called_on _ refl _;
      left_1_of_1 = called_on _ refl _;
      right_1_of_1 = called_on _ refl _;
      printed_1_of_1 = printed_on _ refl _ _;
      written_1_of_1 = written_on _ refl _ _;
      variable_65535 = called_on _ refl _;
      variable_65536 = called_on _ refl _;
      derive_by_65535 = called_on _ refl _;
      derive_by_65536 = called_on _ refl _;
      substitute_65535 = called_on _ refl _;
      substitute_65536 = called_on _ refl _;
      expand_by_65535 = expanded_on _ refl _;
      expand_by_65536 = expanded_on _ refl _;
      literal_greatest = called_on _ refl _;
      literal_above = called_on _ refl _;
      literal_least = called_on _ refl _;
      literal_below = called_on _ refl _;
      point_greatest = expanded_on _ refl _;
      point_above = expanded_on _ refl _;
      point_least = expanded_on _ refl _;
      point_below = expanded_on _ refl _;
      order_24 = expanded_on _ refl _;
      order_25 = expanded_on _ refl _;
      var_of_order_24 = expanded_on _ refl _;
      var_of_order_25 = expanded_on _ refl _;
      entries_0 = listed_on _ refl _;
      entries_1 = listed_on _ refl _;
      entries_25 = listed_on _ refl _;
      entries_26 = listed_on _ refl _;
      negated_25 = expanded_on _ refl _;
      negated_26 = expanded_on _ refl _;
      index_24 = called_on _ refl _;
      index_25 = called_on _ refl _;
      derivative_0 = called_on _ refl _;
      derivative_1 = called_on _ refl _;
      constant_order = listed_on _ refl _;
      no_constant_order = listed_on _ refl _;
      constant_index = called_on _ refl _;
      subst_of_2_in_2 = expanded_on _ refl _;
      subst_of_3_in_2 = expanded_on _ refl _;
      subst_of_2_in_3 = expanded_on _ refl _;
      sum_of_2_and_3 = expanded_on _ refl _;
      values_65536 = λ x. evaluated_on _ refl _ _;
      values_65537 = λ x. evaluated_on _ refl _ _;
      residues_65536 = residues_65536;
      residues_65537 = residue_on _ refl _ _;
      residue_2147483646 = residue_on _ refl _ _;
      residue_2147483647 = residue_on _ refl _ _;
    }
