-- The starred examples of document 01 hold: each is computed from the definitions, the residue by the law of quotients.
-- Assumes nothing.
use Rattle.std.specs.Prelude.{Ok}
use mathlib.Core.Path.{◌≡◌, refl}
use mathlib.Core.List.{[], ◌∷◌}
use lib.IntN.{pos}
use Rattle.refusals.specs.Refusals.{no_exp_or_log}
use Rattle.literal.specs.Literal.{folded, exp_of, log_of}
use Rattle.residue.specs.Residue.{residue}
use Rattle.residue.proofs.Examples.{one_half}
use Rattle.text.specs.Text.{digits_within, decimal, signed_decimal, display}
use Rattle.pool.specs.Nodes.{decode}
use Rattle.pool.specs.Pool.{append, node_in}
use Rattle.constructors.specs.Tables.{add_arms, mul_lits, mul_exps, mul_left, mul_pows, mul_last, div_table, exp_arms, log_arms, pow_table}
use Rattle.constructors.specs.Build.{build, calls}
use Rattle.walks.specs.Walk.{walk_below}
use Rattle.walks.specs.Substitute.{substitute_var}
use Rattle.walks.specs.Derive.{derive}
use Rattle.pool.specs.Fold.{under, fold_nodes_within, fold_nodes}
use Rattle.taylor.specs.Work.{each, each_two, fold, fill}
use Rattle.taylor.specs.Expansion.{times, pow_from}
use Rattle.taylor.specs.Expand.{expand_below}
use Rattle.examples.specs.Shown.{bytes, empty, with_variables, text, texts, refusal, shown}
use Rattle.examples.specs.Starred.{Starred, expanded_at, residue_in, literal_left, literal_right, cube, substituted, derived_cube, derived_quotient, square, logarithm, exponential, zero_to_the_zeroth, exp_of_one, half}

is_literal_left : shown (with_variables literal_left) ≡ text (bytes "a + 3")
unfolding literal_left with_variables empty append calls build mul_lits mul_exps mul_left mul_pows mul_last pow_table add_arms div_table exp_arms log_arms folded exp_of log_of node_in decode fold_nodes fold_nodes_within under display signed_decimal decimal digits_within
is_literal_left = refl

is_literal_right : shown (with_variables literal_right) ≡ text (bytes "a + 1 + 2")
unfolding literal_right with_variables empty append calls build mul_lits mul_exps mul_left mul_pows mul_last pow_table add_arms div_table exp_arms log_arms folded exp_of log_of node_in decode fold_nodes fold_nodes_within under display signed_decimal decimal digits_within
is_literal_right = refl

is_cubed : shown (with_variables cube) ≡ text (bytes "a*a^2")
unfolding cube with_variables empty append calls build mul_lits mul_exps mul_left mul_pows mul_last pow_table add_arms div_table exp_arms log_arms folded exp_of log_of node_in decode fold_nodes fold_nodes_within under display signed_decimal decimal digits_within
is_cubed = refl

is_substitution : shown (with_variables substituted) ≡ text (bytes "2*b")
unfolding substituted with_variables empty append calls build mul_lits mul_exps mul_left mul_pows mul_last pow_table add_arms div_table exp_arms log_arms folded exp_of log_of node_in decode fold_nodes fold_nodes_within under display signed_decimal decimal digits_within walk_below substitute_var derive
is_substitution = refl

is_derived_cube : shown (with_variables derived_cube) ≡ text (bytes "3*a^2")
unfolding derived_cube with_variables empty append calls build mul_lits mul_exps mul_left mul_pows mul_last pow_table add_arms div_table exp_arms log_arms folded exp_of log_of node_in decode fold_nodes fold_nodes_within under display signed_decimal decimal digits_within walk_below substitute_var derive
is_derived_cube = refl

is_derived_quotient : shown (with_variables derived_quotient) ≡ text (bytes "-1*b/b^2")
unfolding derived_quotient with_variables empty append calls build mul_lits mul_exps mul_left mul_pows mul_last pow_table add_arms div_table exp_arms log_arms folded exp_of log_of node_in decode fold_nodes fold_nodes_within under display signed_decimal decimal digits_within walk_below substitute_var derive
is_derived_quotient = refl

is_square_at_3 : expanded_at (pos 3) (with_variables square) ≡ texts (bytes "9" ∷ bytes "6" ∷ bytes "1" ∷ [])
unfolding square with_variables empty append calls build mul_lits mul_exps mul_left mul_pows mul_last pow_table add_arms div_table exp_arms log_arms folded exp_of log_of node_in decode fold_nodes fold_nodes_within under display signed_decimal decimal digits_within each each_two fold fill times pow_from expand_below
is_square_at_3 = refl

is_log_at_1 : expanded_at (pos 1) (with_variables logarithm) ≡ texts (bytes "0" ∷ bytes "1" ∷ bytes "-1/2" ∷ [])
unfolding logarithm with_variables empty append calls build mul_lits mul_exps mul_left mul_pows mul_last pow_table add_arms div_table exp_arms log_arms folded exp_of log_of node_in decode fold_nodes fold_nodes_within under display signed_decimal decimal digits_within each each_two fold fill times pow_from expand_below
is_log_at_1 = refl

is_exp_at_0 : expanded_at (pos 0) (with_variables exponential) ≡ texts (bytes "1" ∷ bytes "1" ∷ bytes "1/2" ∷ [])
unfolding exponential with_variables empty append calls build mul_lits mul_exps mul_left mul_pows mul_last pow_table add_arms div_table exp_arms log_arms folded exp_of log_of node_in decode fold_nodes fold_nodes_within under display signed_decimal decimal digits_within each each_two fold fill times pow_from expand_below
is_exp_at_0 = refl

is_zero_to_the_zeroth : shown (with_variables zero_to_the_zeroth) ≡ text (bytes "1")
unfolding zero_to_the_zeroth with_variables empty append calls build mul_lits mul_exps mul_left mul_pows mul_last pow_table add_arms div_table exp_arms log_arms folded exp_of log_of node_in decode fold_nodes fold_nodes_within under display signed_decimal decimal digits_within
is_zero_to_the_zeroth = refl

is_exp_of_one : shown (with_variables exp_of_one) ≡ refusal no_exp_or_log
unfolding exp_of_one with_variables empty append calls build mul_lits mul_exps mul_left mul_pows mul_last pow_table add_arms div_table exp_arms log_arms folded exp_of log_of node_in decode fold_nodes fold_nodes_within under display signed_decimal decimal digits_within
is_exp_of_one = refl

is_half_by_residues : residue_in (with_variables half) ≡ Ok 1073741824
unfolding half with_variables empty append calls build mul_lits mul_exps mul_left mul_pows mul_last pow_table add_arms div_table exp_arms log_arms folded exp_of log_of node_in decode fold_nodes fold_nodes_within under display signed_decimal decimal digits_within residue
is_half_by_residues = one_half

pub starred : Starred
starred =
    record {
      literal_left_shown = is_literal_left;
      literal_right_shown = is_literal_right;
      cubed = is_cubed;
      substitution = is_substitution;
      derived_cube_shown = is_derived_cube;
      derived_quotient_shown = is_derived_quotient;
      square_at_3 = is_square_at_3;
      log_at_1 = is_log_at_1;
      exp_at_0 = is_exp_at_0;
      zero_to_the_zeroth_shown = is_zero_to_the_zeroth;
      exp_of_one_shown = is_exp_of_one;
      half_by_residues = is_half_by_residues;
    }
