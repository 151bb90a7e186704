-- The sheet that document 01 prints, computed from the definition.
-- Assumes nothing.
use mathlib.Core.Path.{◌≡◌, refl}
use mathlib.Core.List.{◌∷◌}
use lib.ListN.{replicate}
use Rattle.literal.specs.Literal.{folded, exp_of, log_of}
use Rattle.text.specs.Text.{bytes, digits_within, decimal, signed_decimal, display}
use Rattle.pool.specs.Nodes.{decode, may_stand_at}
use Rattle.pool.specs.Pool.{append, node_in, each}
use Rattle.shape.specs.Order.{walk, numbered}
use Rattle.shape.specs.File.{read_file, is_sized, are_nodes, are_in_order, is_in_order, entry_in, append_first}
use Rattle.constructors.specs.Tables.{add_arms, mul_lits, mul_exps, mul_left, mul_pows, mul_last, div_table, exp_arms, log_arms, pow_table}
use Rattle.constructors.specs.Build.{build, calls}
use Rattle.pool.specs.Fold.{under, fold_nodes_within, fold_nodes}
use Rattle.taylor.specs.Work.{each as each_of, each_two, fold, fill}
use Rattle.taylor.specs.Expansion.{times, pow_from}
use Rattle.taylor.specs.Expand.{expand_below}
use Rattle.sheet_text.specs.Line.{digits_from, decimal_of, point_of, fields, parse}
use Rattle.sheet_text.specs.Sheet.{empty, coefficients, lines_from, sheet}

-- "For the 22-byte file 02 00 00 00, 01 04, then sixteen 00 (hexadecimal), and the line `0 2`, it prints"
pub the_example : sheet (2 ∷ 0 ∷ 0 ∷ 0 ∷ 1 ∷ 4 ∷ replicate 16 0) (bytes "0 2\n") ≡ bytes "0 2 none\n0: a*a\n1: a + a\n2: 1\n"
unfolding sheet parse fields decimal_of digits_from point_of coefficients empty read_file is_sized are_nodes are_in_order is_in_order entry_in append_first walk numbered may_stand_at each append calls build mul_lits mul_exps mul_left mul_pows mul_last pow_table add_arms div_table exp_arms log_arms folded exp_of log_of node_in decode fold_nodes fold_nodes_within under display signed_decimal decimal digits_within each_of each_two fold fill times pow_from expand_below lines_from
the_example = refl
