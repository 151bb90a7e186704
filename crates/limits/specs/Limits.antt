-- The limits and the refusal numbers of document 01, in its digits: what a call answers at each limit, and one past it. No name of a limit or of a refusal stands here.
-- Assumes nothing.
use Rattle.std.specs.Prelude.{◌≡◌, [], ◌∷◌, ◌++◌, pos, negsuc, Float, replicate, Some, None}
use Rattle.std.specs.Float.{binary64}
use Rattle.std.specs.Float.Ieee.{to_bits}
use Rattle.constructor_calls.specs.declared.two.Two.TheVariants as two
use Rattle.constructor_calls.specs.declared.one.One.TheVariants as one
use Rattle.shape.specs.File.{read_file}
use Rattle.engine.specs.Build.{lit_work, var_work, on_one, on_two}
use Rattle.engine_walk.specs.Walks.{substitute_work, derive_work}
use Rattle.engine_series.specs.Operations.{on_expansion}
use Rattle.engine_series.specs.declared.Unary.TheVariants as unary
use Rattle.engine_index.specs.Indices.{on_index}
use Rattle.engine_index.specs.declared.Indexed.TheVariants as indexed
use Rattle.engine_given.specs.Variable.{var_call}
use Rattle.engine_pairs.specs.Pairs.{on_expansions}
use Rattle.engine_pairs.specs.declared.binary.Binary.TheVariants as binary
use Rattle.engine_expand.specs.Expressions.{expand_work}
use Rattle.limits.specs.Lent.{Lent, lent, tables, variable, literal, sum, product, quotient, greater, exponential, logarithm, power, full, under_mul}
use Rattle.limits.specs.Calls.{gives, refuses, called, expanded, listed, list_of, evaluated, evaluated_by_residues, printed, written}
use Rattle.limits.specs.Digits.{hex}

-- "An empty pool has count 0."
abbrev pub nothing : Lent
nothing = lent []

-- x0 alone
abbrev pub x0 : Lent
x0 = lent (variable 0 ∷ [])

-- 1. "The pool breaks a rule above, or a table has another length.": asked of `var`
pub record Pools : Type 0 where
  -- "a lent table of 4,096 kinds, one of 4,096 words, and a count from 0 to 4,096"
  pub count_0 : called (var_work 0) nothing ≡ gives 0
  pub kinds_4095 : called (var_work 0) (tables (replicate 4095 0) (replicate 4096 0) 0) ≡ refuses 1
  pub kinds_4097 : called (var_work 0) (tables (replicate 4097 0) (replicate 4096 0) 0) ≡ refuses 1
  pub words_4095 : called (var_work 0) (tables (replicate 4096 0) (replicate 4095 0) 0) ≡ refuses 1
  pub words_4097 : called (var_work 0) (tables (replicate 4096 0) (replicate 4097 0) 0) ≡ refuses 1
  pub count_4096 : called (on_two two.Add 0 1) full ≡ gives 0
  pub count_4097 : called (on_two two.Add 0 1) (tables full.kinds full.words 4097) ≡ refuses 1
  -- "its number, 0 to 65,535"
  pub entry_variable_65535 : called (var_work 0) (lent (variable 65535 ∷ [])) ≡ gives 1
  pub entry_variable_65536 : called (var_work 0) (lent (variable 65536 ∷ [])) ≡ refuses 1
  -- "A literal lies from -9,007,199,254,740,991 to 9,007,199,254,740,991": the words 2^53 - 1, 2^53, 2^64 - (2^53 - 1), 2^64 - 2^53
  pub entry_literal_greatest : called (var_work 0) (lent (literal 9007199254740991 ∷ [])) ≡ gives 1
  pub entry_literal_above : called (var_work 0) (lent (literal 9007199254740992 ∷ [])) ≡ refuses 1
  pub entry_literal_least : called (var_work 0) (lent (literal 18437736874454810625 ∷ [])) ≡ gives 1
  pub entry_literal_below : called (var_work 0) (lent (literal 18437736874454810624 ∷ [])) ≡ refuses 1
  -- "exponent 2 to 4,294,967,295"
  pub entry_exponent_1 : called (var_work 0) (lent (variable 0 ∷ power 0 1 ∷ [])) ≡ refuses 1
  pub entry_exponent_2 : called (var_work 0) (lent (variable 0 ∷ power 0 2 ∷ [])) ≡ gives 2
  pub entry_exponent_4294967295 : called (var_work 0) (lent (variable 0 ∷ power 0 4294967295 ∷ [])) ≡ gives 2
  -- kinds 1 to 9
  pub kind_0 : called (var_work 0) (lent ((0, 0) ∷ [])) ≡ refuses 1
  pub kind_9 : called (var_work 0) (lent (variable 0 ∷ (9, 0) ∷ [])) ≡ gives 2
  pub kind_10 : called (var_work 0) (lent (variable 0 ∷ (10, 0) ∷ [])) ≡ refuses 1
  -- "Each part of a node has a smaller number than the node"
  pub left_part_itself : called (var_work 0) (lent (variable 0 ∷ sum 1 0 ∷ [])) ≡ refuses 1
  pub right_part_itself : called (var_work 0) (lent (variable 0 ∷ sum 0 1 ∷ [])) ≡ refuses 1
  pub argument_itself : called (var_work 0) (lent (exponential 0 ∷ [])) ≡ refuses 1
  -- "entries from the count on are 0 in both tables"
  pub kind_behind : called (var_work 0) (tables (1 ∷ replicate 4095 0) (replicate 4096 0) 0) ≡ refuses 1
  pub word_behind : called (var_work 0) (tables (replicate 4096 0) (1 ∷ replicate 4095 0) 0) ≡ refuses 1

-- 2 to 6, of given arguments
pub record Arguments : Type 0 where
  -- 2. "A node number given is not below the count."
  pub node_0_of_1 : called (derive_work 0 0) x0 ≡ gives 1
  pub node_1_of_1 : called (derive_work 1 0) x0 ≡ refuses 2
  pub left_1_of_1 : called (on_two two.Add 1 0) x0 ≡ refuses 2
  pub right_1_of_1 : called (on_two two.Add 0 1) x0 ≡ refuses 2
  pub printed_1_of_1 : printed 64 1 x0 ≡ refuses 2
  pub written_1_of_1 : written 64 1 x0 ≡ refuses 2
  -- 3. "A variable number is above 65,535."
  pub variable_65535 : called (var_work 65535) nothing ≡ gives 0
  pub variable_65536 : called (var_work 65536) nothing ≡ refuses 3
  pub derive_by_65535 : called (derive_work 0 65535) x0 ≡ gives 1
  pub derive_by_65536 : called (derive_work 0 65536) x0 ≡ refuses 3
  pub substitute_65535 : called (substitute_work 0 65535 0) x0 ≡ gives 0
  pub substitute_65536 : called (substitute_work 0 65536 0) x0 ≡ refuses 3
  pub expand_by_65535 : expanded (expand_work 0 65535 None 0) (lent (variable 65535 ∷ [])) ≡ gives 1
  pub expand_by_65536 : expanded (expand_work 0 65536 None 0) (lent (variable 65535 ∷ [])) ≡ refuses 3
  -- 4. "A literal or point is outside the literal range."
  pub literal_greatest : called (lit_work (pos 9007199254740991)) nothing ≡ gives 0
  pub literal_above : called (lit_work (pos 9007199254740992)) nothing ≡ refuses 4
  pub literal_least : called (lit_work (negsuc 9007199254740990)) nothing ≡ gives 0
  pub literal_below : called (lit_work (negsuc 9007199254740991)) nothing ≡ refuses 4
  pub point_greatest : expanded (expand_work 0 0 (Some (pos 9007199254740991)) 2) x0 ≡ gives 3
  pub point_above : expanded (expand_work 0 0 (Some (pos 9007199254740992)) 2) x0 ≡ refuses 4
  pub point_least : expanded (expand_work 0 0 (Some (negsuc 9007199254740990)) 2) x0 ≡ gives 3
  pub point_below : expanded (expand_work 0 0 (Some (negsuc 9007199254740991)) 2) x0 ≡ refuses 4
  -- 5. "An order is above 24"
  pub order_24 : expanded (expand_work 0 0 None 24) x0 ≡ gives 25
  pub order_25 : expanded (expand_work 0 0 None 25) x0 ≡ refuses 5
  pub var_of_order_24 : expanded (var_call 0 24) x0 ≡ gives 25
  pub var_of_order_25 : expanded (var_call 0 25) x0 ≡ refuses 5
  -- "an expansion's list has 0 or more than 25 entries"
  pub entries_0 : listed (list_of 0) x0 ≡ refuses 5
  pub entries_1 : listed (list_of 1) x0 ≡ gives 1
  pub entries_25 : listed (list_of 25) x0 ≡ gives 25
  pub entries_26 : listed (list_of 26) x0 ≡ refuses 5
  pub negated_25 : expanded (on_expansion unary.Neg (list_of 25)) x0 ≡ gives 25
  pub negated_26 : expanded (on_expansion unary.Neg (list_of 26)) x0 ≡ refuses 5
  -- "a coefficient index is outside its list"
  pub index_24 : called (on_index indexed.Coeff (list_of 25) 24) x0 ≡ gives 0
  pub index_25 : called (on_index indexed.Coeff (list_of 25) 25) x0 ≡ refuses 5
  pub derivative_0 : called (on_index indexed.Derivative (list_of 1) 0) x0 ≡ gives 0
  pub derivative_1 : called (on_index indexed.Derivative (list_of 1) 1) x0 ≡ refuses 5
  -- "of a constant, 2^64 - 1"; "The indices of `coeff` and `derivative` have no limit for a constant."
  pub constant_order : listed (list_of 18446744073709551615) x0 ≡ gives 18446744073709551615
  pub no_constant_order : listed (list_of 18446744073709551614) x0 ≡ refuses 5
  pub constant_index : called (on_index indexed.Coeff (list_of 18446744073709551615) 25) x0 ≡ gives 1
  -- "or `subst` gets two lists of unequal length", and no other operation of two does
  pub subst_of_2_in_2 : expanded (on_expansions binary.Subst (list_of 2) (list_of 2)) x0 ≡ gives 2
  pub subst_of_3_in_2 : expanded (on_expansions binary.Subst (list_of 2) (list_of 3)) x0 ≡ refuses 5
  pub subst_of_2_in_3 : expanded (on_expansions binary.Subst (list_of 3) (list_of 2)) x0 ≡ refuses 5
  pub sum_of_2_and_3 : expanded (on_expansions binary.Add (list_of 2) (list_of 3)) x0 ≡ gives 2
  -- 6. "A table of values has more than 65,536 entries, or a residue in it is 2,147,483,647 or more."
  pub values_65536 : (x : Float) → evaluated (replicate 65536 x) 0 (lent (variable 65535 ∷ [])) ≡ gives (to_bits binary64 x)
  pub values_65537 : (x : Float) → evaluated (replicate 65537 x) 0 (lent (variable 65535 ∷ [])) ≡ refuses 6
  pub residues_65536 : evaluated_by_residues (replicate 65536 7) 0 (lent (variable 65535 ∷ [])) ≡ gives 7
  pub residues_65537 : evaluated_by_residues (replicate 65537 7) 0 (lent (variable 65535 ∷ [])) ≡ refuses 6
  pub residue_2147483646 : evaluated_by_residues (2147483646 ∷ []) 0 x0 ≡ gives 2147483646
  pub residue_2147483647 : evaluated_by_residues (2147483647 ∷ []) 0 x0 ≡ refuses 6

-- 7, 8 and 9, of a file that is read
pub record Reading : Type 0 where
  -- 7. "A node file is shorter than 4 bytes, its n is 0 or above 4,096, or its length is not 4 + 9 × n."
  pub bytes_3 : called (read_file (hex "000000")) nothing ≡ refuses 7
  pub size_0 : called (read_file (hex "00000000")) nothing ≡ refuses 7
  pub bytes_12_of_1 : called (read_file (hex "01000000 01 00000000000000")) nothing ≡ refuses 7
  pub bytes_13_of_1 : called (read_file (hex "01000000 01 0000000000000000")) nothing ≡ gives 0
  pub bytes_14_of_1 : called (read_file (hex "01000000 01 000000000000000000")) nothing ≡ refuses 7
  pub size_4097 : called (read_file (hex "01100000" ++ replicate 36873 0)) nothing ≡ refuses 7
  -- 8. "An entry of the file is no node by the table and the literal range above, or a part is not below the entry's own number."
  pub no_entry : called (read_file (hex "00100000" ++ replicate 36864 0)) nothing ≡ refuses 8
  pub file_variable_65535 : called (read_file (hex "01000000 01 FFFF000000000000")) nothing ≡ gives 0
  pub file_variable_65536 : called (read_file (hex "01000000 01 0000010000000000")) nothing ≡ refuses 8
  pub file_literal_greatest : called (read_file (hex "01000000 02 FFFFFFFFFFFF1F00")) nothing ≡ gives 0
  pub file_literal_above : called (read_file (hex "01000000 02 0000000000002000")) nothing ≡ refuses 8
  pub file_exponent_1 : called (read_file (hex "02000000 0108 0000000000000000 0000000001000000")) nothing ≡ refuses 8
  pub file_exponent_2 : called (read_file (hex "02000000 0108 0000000000000000 0000000002000000")) nothing ≡ gives 1
  pub file_part_itself : called (read_file (hex "01000000 06 0000000000000000")) nothing ≡ refuses 8
  -- 9. "The file's entries are not in the writing order."
  pub entry_missed : called (read_file (hex "02000000 0101 0000000000000000 0000000000000000")) nothing ≡ refuses 9

-- 10 to 18, of the work
pub record Working : Type 0 where
  -- 10. "A Max is reached by `derive`, by an expansion or by printing, or `max` is asked of an expansion that is no constant."
  pub max_derived : called (derive_work 1 0) (lent (variable 0 ∷ greater 0 0 ∷ [])) ≡ refuses 10
  pub max_expanded : expanded (expand_work 1 0 None 2) (lent (variable 0 ∷ greater 0 0 ∷ [])) ≡ refuses 10
  pub max_printed : printed 64 2 (lent (variable 0 ∷ greater 0 0 ∷ exponential 1 ∷ [])) ≡ refuses 10
  pub max_of_a_list : expanded (on_expansions binary.Max (list_of 1) (list_of 1)) x0 ≡ refuses 10
  -- 11. "`exp` or `log` of a literal is needed that has none."
  pub exp_of_0 : called (on_one one.Exp 0) (lent (literal 0 ∷ [])) ≡ gives 1
  pub exp_of_1 : called (on_one one.Exp 0) (lent (literal 1 ∷ [])) ≡ refuses 11
  pub log_of_1 : called (on_one one.Log 0) (lent (literal 1 ∷ [])) ≡ gives 1
  pub log_of_2 : called (on_one one.Log 0) (lent (literal 2 ∷ [])) ≡ refuses 11
  -- 12. "A folded literal leaves the literal range."
  pub sum_greatest : called (on_two two.Add 0 1) (lent (literal 9007199254740990 ∷ literal 1 ∷ [])) ≡ gives 2
  pub sum_above : called (on_two two.Add 0 1) (lent (literal 9007199254740991 ∷ literal 1 ∷ [])) ≡ refuses 12
  -- "From 19! on the answer is 12"
  pub derivative_18 : called (on_index indexed.Derivative (list_of 25) 18) x0 ≡ gives 36
  pub derivative_19 : called (on_index indexed.Derivative (list_of 25) 19) x0 ≡ refuses 12
  -- 13. "An exponent sum is above 4,294,967,295.": (x1 × x0) × x0^4294967294, then from x0^4294967295
  pub exponents_4294967295 : called (on_two two.Mul 2 3) (lent (variable 0 ∷ variable 1 ∷ product 1 0 ∷ power 0 4294967294 ∷ [])) ≡ gives 5
  pub exponents_4294967296 : called (on_two two.Mul 2 3) (lent (variable 0 ∷ variable 1 ∷ product 1 0 ∷ power 0 4294967295 ∷ [])) ≡ refuses 13
  -- 14. "A constructor would run at depth 201.": "x1 under 199 nested Mul .. times x0: accepted; under 200: 14."
  pub under_199 : called (on_two two.Mul 201 0) (under_mul 199) ≡ gives 401
  pub under_200 : called (on_two two.Mul 202 0) (under_mul 200) ≡ refuses 14
  -- 15. "A variable that is reached has no entry in the table of values."
  pub value_1_of_1 : (x : Float) → evaluated (x ∷ []) 0 (lent (variable 1 ∷ [])) ≡ refuses 15
  pub residue_1_of_1 : evaluated_by_residues (0 ∷ []) 0 (lent (variable 1 ∷ [])) ≡ refuses 15
  -- 16. "Evaluation comes to Exp or Log, or by residues to Max, its parts being done."
  pub exp_evaluated : (x : Float) → evaluated (x ∷ []) 1 (lent (variable 0 ∷ exponential 0 ∷ [])) ≡ refuses 16
  pub log_evaluated : (x : Float) → evaluated (x ∷ []) 1 (lent (variable 0 ∷ logarithm 0 ∷ [])) ≡ refuses 16
  pub max_by_residues : evaluated_by_residues (0 ∷ []) 1 (lent (variable 0 ∷ greater 0 0 ∷ [])) ≡ refuses 16
  -- 17. "By residues, a divisor has no inverse."
  pub over_zero : evaluated_by_residues [] 2 (lent (literal 1 ∷ literal 0 ∷ quotient 0 1 ∷ [])) ≡ refuses 17
  -- 18. "Count 4,096: x0 + 0 gives x0; x0 × 0 is 18."
  pub full_sum : called (on_two two.Add 0 1) full ≡ gives 0
  pub full_product : called (on_two two.Mul 0 1) full ≡ refuses 18

-- "1/3 as a double has bits 3FD5555555555555 (hexadecimal). * By residues 1/2 is 1,073,741,824.", and the bits of a NaN
pub record Values : Type 0 where
  pub a_third : evaluated [] 2 (lent (literal 1 ∷ literal 3 ∷ quotient 0 1 ∷ [])) ≡ gives 0x3FD5_5555_5555_5555
  pub no_number : evaluated [] 1 (lent (literal 0 ∷ quotient 0 0 ∷ [])) ≡ gives 0x7FF8_0000_0000_0000
  pub a_half : evaluated_by_residues [] 2 (lent (literal 1 ∷ literal 2 ∷ quotient 0 1 ∷ [])) ≡ gives 1073741824
