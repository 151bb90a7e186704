-- "The refusals, for every result" of document 01, and those that the requests of document 02 add, by name: in the definitions the numbers stand here and nowhere else.
-- Assumes nothing.
use Rattle.std.specs.Prelude.{ℕ}

-- The pool breaks a rule above, or a table has another length.
abbrev pub broken_pool : ℕ
broken_pool = 1

-- A node number given is not below the count.
abbrev pub unknown_node : ℕ
unknown_node = 2

-- A variable number is above 65,535.
abbrev pub unknown_variable : ℕ
unknown_variable = 3

-- A literal or point is outside the literal range.
abbrev pub not_literal : ℕ
not_literal = 4

-- An order is above 24, an expansion's list has 0 or more than 25 entries, a coefficient index is outside its list, or `subst` gets two lists of unequal length.
abbrev pub wrong_order : ℕ
wrong_order = 5

-- A table of values has more than 65,536 entries, or a residue in it is 2,147,483,647 or more.
abbrev pub wrong_values : ℕ
wrong_values = 6

-- A node file is shorter than 4 bytes, its n is 0 or above 4,096, or its length is not 4 + 9 × n.
abbrev pub wrong_length : ℕ
wrong_length = 7

-- An entry of the file is no node by the table and the literal range above, or a part is not below the entry's own number.
abbrev pub wrong_entry : ℕ
wrong_entry = 8

-- The file's entries are not in the writing order.
abbrev pub wrong_sequence : ℕ
wrong_sequence = 9

-- A Max is reached by `derive`, by an expansion or by printing, or `max` is asked of an expansion that is no constant.
abbrev pub max_reached : ℕ
max_reached = 10

-- `exp` or `log` of a literal is needed that has none.
abbrev pub no_exp_or_log : ℕ
no_exp_or_log = 11

-- A folded literal leaves the literal range.
abbrev pub out_of_range : ℕ
out_of_range = 12

-- An exponent sum is above 4,294,967,295.
abbrev pub exponent_too_large : ℕ
exponent_too_large = 13

-- A constructor would run at depth 201.
abbrev pub too_deep : ℕ
too_deep = 14

-- A variable that is reached has no entry in the table of values.
abbrev pub no_value : ℕ
no_value = 15

-- Evaluation comes to Exp or Log, or by residues to Max, its parts being done, or a key strip is to be made of an expression that reaches Exp or Log.
abbrev pub not_evaluated : ℕ
not_evaluated = 16

-- By residues, a divisor has no inverse.
abbrev pub no_inverse : ℕ
no_inverse = 17

-- One more node is needed and the count is 4,096.
abbrev pub pool_full : ℕ
pool_full = 18

-- The lent output is too short, or a text or key strip has more than 65,535 bytes.
abbrev pub no_room : ℕ
no_room = 19

-- C-20. "27 when more than 128 places would be in use"
abbrev pub too_many_places : ℕ
too_many_places = 27

-- C-20. "28 .. when a code is unknown, what follows a code is cut off or breaks document 01's table or literal range, values are missing, more than 128 places
-- are needed, or not exactly one value is left."
abbrev pub wrong_strip : ℕ
wrong_strip = 28
