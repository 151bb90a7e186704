-- nodes.bin byte by byte: "A walk from the root numbers a node, from 0, when its parts are done, left first, each node once; the root is last." An example for each kind with two parts, and one for each other kind.
-- Assumes nothing.
use Rattle.std.specs.Prelude.{◌≡◌, List, [], ◌∷◌}
use Rattle.shape.specs.File.{read_file}
use Rattle.limits.specs.Lent.{Entry, Lent, lent, variable, literal, sum, product, quotient, greater, exponential, logarithm, power}
use Rattle.limits.specs.Calls.{refuses, called, file}
use Rattle.limits.specs.Digits.{hex}

-- nodes 0 and 1 are x0 and x1; then these
abbrev pub variables : List Entry → Lent
variables es = lent (variable 0 ∷ variable 1 ∷ es)

pub record Files : Type 0 where
  -- "The size n comes first (32 bits, low byte first), then two parallel arrays: n kind bytes, then n words of 8 bytes, low byte first."
  pub a_variable : file 64 0 (lent (variable 258 ∷ [])) ≡ hex "01000000 01 0201000000000000"
  pub a_literal : file 64 0 (lent (literal 18446744073709551615 ∷ [])) ≡ hex "01000000 02 FFFFFFFFFFFFFFFF"
  pub an_exp : file 64 2 (variables (exponential 1 ∷ [])) ≡ hex "02000000 0106 0100000000000000 0000000000000000"
  pub a_log : file 64 2 (variables (logarithm 1 ∷ [])) ≡ hex "02000000 0107 0100000000000000 0000000000000000"
  pub a_power : file 64 2 (variables (power 1 3 ∷ [])) ≡ hex "02000000 0108 0100000000000000 0000000003000000"
  -- 3: x0 and x1, x1 and x0, a part twice, a part in the right part, a part in the left part; the file of x1 and x0 numbered right first
  pub sum_in_order : file 64 2 (variables (sum 0 1 ∷ [])) ≡ hex "03000000 010103 0000000000000000 0100000000000000 0000000001000000"
  pub sum_left_first : file 64 2 (variables (sum 1 0 ∷ [])) ≡ hex "03000000 010103 0100000000000000 0000000000000000 0000000001000000"
  pub sum_of_one_node : file 64 2 (variables (sum 1 1 ∷ [])) ≡ hex "02000000 0103 0100000000000000 0000000000000000"
  pub sum_nested_right : file 64 3 (variables (sum 1 0 ∷ sum 0 2 ∷ [])) ≡ hex "04000000 01010303 0000000000000000 0100000000000000 0100000000000000 0000000002000000"
  pub sum_nested_left : file 64 3 (variables (sum 1 0 ∷ sum 2 0 ∷ [])) ≡ hex "04000000 01010303 0100000000000000 0000000000000000 0000000001000000 0200000001000000"
  pub sum_right_first : called (read_file (hex "03000000 010103 0000000000000000 0100000000000000 0100000000000000")) (lent []) ≡ refuses 9
  -- 4: x0 and x1, x1 and x0, a part twice, a part in the right part, a part in the left part; the file of x1 and x0 numbered right first
  pub product_in_order : file 64 2 (variables (product 0 1 ∷ [])) ≡ hex "03000000 010104 0000000000000000 0100000000000000 0000000001000000"
  pub product_left_first : file 64 2 (variables (product 1 0 ∷ [])) ≡ hex "03000000 010104 0100000000000000 0000000000000000 0000000001000000"
  pub product_of_one_node : file 64 2 (variables (product 1 1 ∷ [])) ≡ hex "02000000 0104 0100000000000000 0000000000000000"
  pub product_nested_right : file 64 3 (variables (product 1 0 ∷ product 0 2 ∷ [])) ≡ hex "04000000 01010404 0000000000000000 0100000000000000 0100000000000000 0000000002000000"
  pub product_nested_left : file 64 3 (variables (product 1 0 ∷ product 2 0 ∷ [])) ≡ hex "04000000 01010404 0100000000000000 0000000000000000 0000000001000000 0200000001000000"
  pub product_right_first : called (read_file (hex "03000000 010104 0000000000000000 0100000000000000 0100000000000000")) (lent []) ≡ refuses 9
  -- 5: x0 and x1, x1 and x0, a part twice, a part in the right part, a part in the left part; the file of x1 and x0 numbered right first
  pub quotient_in_order : file 64 2 (variables (quotient 0 1 ∷ [])) ≡ hex "03000000 010105 0000000000000000 0100000000000000 0000000001000000"
  pub quotient_left_first : file 64 2 (variables (quotient 1 0 ∷ [])) ≡ hex "03000000 010105 0100000000000000 0000000000000000 0000000001000000"
  pub quotient_of_one_node : file 64 2 (variables (quotient 1 1 ∷ [])) ≡ hex "02000000 0105 0100000000000000 0000000000000000"
  pub quotient_nested_right : file 64 3 (variables (quotient 1 0 ∷ quotient 0 2 ∷ [])) ≡ hex "04000000 01010505 0000000000000000 0100000000000000 0100000000000000 0000000002000000"
  pub quotient_nested_left : file 64 3 (variables (quotient 1 0 ∷ quotient 2 0 ∷ [])) ≡ hex "04000000 01010505 0100000000000000 0000000000000000 0000000001000000 0200000001000000"
  pub quotient_right_first : called (read_file (hex "03000000 010105 0000000000000000 0100000000000000 0100000000000000")) (lent []) ≡ refuses 9
  -- 9: x0 and x1, x1 and x0, a part twice, a part in the right part, a part in the left part; the file of x1 and x0 numbered right first
  pub max_in_order : file 64 2 (variables (greater 0 1 ∷ [])) ≡ hex "03000000 010109 0000000000000000 0100000000000000 0000000001000000"
  pub max_left_first : file 64 2 (variables (greater 1 0 ∷ [])) ≡ hex "03000000 010109 0100000000000000 0000000000000000 0000000001000000"
  pub max_of_one_node : file 64 2 (variables (greater 1 1 ∷ [])) ≡ hex "02000000 0109 0100000000000000 0000000000000000"
  pub max_nested_right : file 64 3 (variables (greater 1 0 ∷ greater 0 2 ∷ [])) ≡ hex "04000000 01010909 0000000000000000 0100000000000000 0100000000000000 0000000002000000"
  pub max_nested_left : file 64 3 (variables (greater 1 0 ∷ greater 2 0 ∷ [])) ≡ hex "04000000 01010909 0100000000000000 0000000000000000 0000000001000000 0200000001000000"
  pub max_right_first : called (read_file (hex "03000000 010109 0000000000000000 0100000000000000 0100000000000000")) (lent []) ≡ refuses 9
