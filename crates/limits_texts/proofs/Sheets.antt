-- Each sheet is computed, the files of the two long texts once they are written, each in a declaration of its own.
-- Assumes nothing.
use mathlib.Core.Path.{◌≡◌, refl, ap}
use mathlib.Core.List.{List}
use Prim.Native.Nat.{ℕ}
use lib.ListN.{length}
use Rattle.text.specs.Text.{digits_within, decimal, signed_decimal, display}
use Rattle.pool.specs.Nodes.{decode, may_stand_at}
use Rattle.pool.specs.Fold.{under, fold_nodes_within, fold_nodes}
use Rattle.pool.specs.Pool.{append, node_in, each}
use Rattle.shape.specs.Order as order
use Rattle.shape.specs.File.{file_of, written_file, read_file, is_sized, are_nodes, are_in_order, is_in_order, entry_in, append_first}
use Rattle.constructors.specs.Tables.{mul_lits, mul_exps, mul_left, mul_pows, mul_last}
use Rattle.constructors.specs.Build.{build, calls}
use Rattle.taylor.specs.Expansion.{times}
use Rattle.taylor.specs.Expand.{expand_below}
use Rattle.sheet_text.specs.Line.{digits_from, decimal_of, point_of, fields, parse}
use Rattle.sheet_text.specs.Sheet.{empty, coefficients, lines_from, sheet}
use Rattle.limits.specs.Lent.{lent, text65535, text65536}
use Rattle.limits.specs.Calls.{file}
use Rattle.text.specs.Text.{bytes}
use Rattle.limits_texts.specs.Sheets.{Sheets}
use Rattle.limits.proofs.Called.{file_on}

taken_65535 : length (sheet (file 148 15 (lent text65535)) (bytes "1 0\n")) ≡ 65548
unfolding sheet parse fields decimal_of digits_from point_of coefficients empty read_file is_sized are_nodes are_in_order is_in_order entry_in append_first order.walk order.numbered order.written file_of written_file may_stand_at each append calls build mul_lits mul_exps mul_left mul_pows mul_last node_in decode display signed_decimal decimal digits_within times expand_below lines_from fold_nodes fold_nodes_within under
taken_65535 = ap (λ (f : List ℕ). length (sheet f (bytes "1 0\n"))) (file_on text65535 refl 148 15)

refused_65536 : sheet (file 283 30 (lent text65536)) (bytes "1 0\n") ≡ bytes "refused 19\n"
unfolding sheet parse fields decimal_of digits_from point_of coefficients empty read_file is_sized are_nodes are_in_order is_in_order entry_in append_first order.walk order.numbered order.written file_of written_file may_stand_at each append calls build mul_lits mul_exps mul_left mul_pows mul_last node_in decode display signed_decimal decimal digits_within times expand_below lines_from fold_nodes fold_nodes_within under
refused_65536 = ap (λ (f : List ℕ). sheet f (bytes "1 0\n")) (file_on text65536 refl 283 30)

pub sheets : Sheets
unfolding sheet parse fields decimal_of digits_from point_of coefficients empty read_file is_sized are_nodes are_in_order is_in_order entry_in append_first order.walk order.numbered order.written file_of written_file may_stand_at each append calls build mul_lits mul_exps mul_left mul_pows mul_last node_in decode display signed_decimal decimal digits_within times expand_below lines_from fold_nodes fold_nodes_within under
sheets =
    record {
      line_of_64 = refl;
      line_of_65 = refl;
      line_of_63_and_its_end = refl;
      line_of_64_and_its_end = refl;
      line_variable_65535 = refl;
      line_variable_65536 = refl;
      line_point_greatest = refl;
      line_point_above = refl;
      line_point_least = refl;
      line_point_below = refl;
      line_order_24 = refl;
      line_order_25 = refl;
      no_file = refl;
      coefficient_65535 = taken_65535;
      coefficient_65536 = refused_65536;
    }
