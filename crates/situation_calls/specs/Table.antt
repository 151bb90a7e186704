-- The table of refusals: for each call the numbers that are checked first, and those that its work can then meet. To be read beside "The refusals, for every result" of document 01 and the numbers that document 02 adds.
-- Assumes nothing.
use Rattle.std.specs.Prelude.{List, [], ◌∷◌, ℕ}

-- the calls from outside; those of an expansion begin with `of_`
pub data Call : Type 0 where
  lit var add mul div max neg exp log pow : Call
  substitute_var derive evaluate evaluate_residue print write read strip run_strip : Call
  of_var of_coeff of_derivative of_order of_from_coefficients : Call
  of_neg of_exp of_log of_pow of_add of_sub of_mul of_div of_max of_subst : Call
  coeffs coeffs_at : Call

-- "1 to 9 are checked first, smallest number first.": 1 the pool, 2 the node numbers given, 3 a variable, 4 a literal or point, 5 an order, list or index, 6 the values, 7 to 9 the file; of document 02 28, the bytes of a strip, "checked after 9"
abbrev pub checked : Call → List ℕ
checked lit = 1 ∷ 4 ∷ []
checked var = 1 ∷ 3 ∷ []
checked add = 1 ∷ 2 ∷ []
checked mul = 1 ∷ 2 ∷ []
checked div = 1 ∷ 2 ∷ []
checked max = 1 ∷ 2 ∷ []
checked neg = 1 ∷ 2 ∷ []
checked exp = 1 ∷ 2 ∷ []
checked log = 1 ∷ 2 ∷ []
checked pow = 1 ∷ 2 ∷ []
checked substitute_var = 1 ∷ 2 ∷ 3 ∷ []
checked derive = 1 ∷ 2 ∷ 3 ∷ []
checked evaluate = 1 ∷ 2 ∷ 6 ∷ []
checked evaluate_residue = 1 ∷ 2 ∷ 6 ∷ []
checked print = 1 ∷ 2 ∷ []
checked write = 1 ∷ 2 ∷ []
checked read = 1 ∷ 7 ∷ 8 ∷ 9 ∷ []
checked strip = 1 ∷ 2 ∷ []
checked run_strip = 6 ∷ 28 ∷ []
checked of_var = 1 ∷ 2 ∷ 5 ∷ []
checked of_coeff = 1 ∷ 2 ∷ 5 ∷ []
checked of_derivative = 1 ∷ 2 ∷ 5 ∷ []
checked of_order = 1 ∷ 2 ∷ 5 ∷ []
checked of_from_coefficients = 1 ∷ 2 ∷ 5 ∷ []
checked of_neg = 1 ∷ 2 ∷ 5 ∷ []
checked of_exp = 1 ∷ 2 ∷ 5 ∷ []
checked of_log = 1 ∷ 2 ∷ 5 ∷ []
checked of_pow = 1 ∷ 2 ∷ 5 ∷ []
checked of_add = 1 ∷ 2 ∷ 5 ∷ []
checked of_sub = 1 ∷ 2 ∷ 5 ∷ []
checked of_mul = 1 ∷ 2 ∷ 5 ∷ []
checked of_div = 1 ∷ 2 ∷ 5 ∷ []
checked of_max = 1 ∷ 2 ∷ 5 ∷ []
checked of_subst = 1 ∷ 2 ∷ 5 ∷ []
checked coeffs = 1 ∷ 2 ∷ 3 ∷ 5 ∷ []
checked coeffs_at = 1 ∷ 2 ∷ 3 ∷ 4 ∷ 5 ∷ []

-- "Then the work runs, and the first step to meet one of 10 to 18 decides .. 19 comes last.": 10 a Max, 11 `exp` or `log` of a literal, 12 a folded literal, 13 an exponent sum, 14 the depth, 15 no value, 16 no evaluation, 17 no inverse, 18 a full pool, 19 the output; of document 02 27, the places of a strip, "after 16 and before 19"
abbrev pub met : Call → List ℕ
met lit = 18 ∷ []
met var = 18 ∷ []
met add = 12 ∷ 14 ∷ 18 ∷ []
met mul = 11 ∷ 12 ∷ 13 ∷ 14 ∷ 18 ∷ []
met div = 18 ∷ []
met max = 18 ∷ []
met neg = 18 ∷ []
met exp = 11 ∷ 14 ∷ 18 ∷ []
met log = 11 ∷ 14 ∷ 18 ∷ []
met pow = 18 ∷ []
met substitute_var = 11 ∷ 12 ∷ 13 ∷ 14 ∷ 18 ∷ []
met derive = 10 ∷ 11 ∷ 12 ∷ 13 ∷ 14 ∷ 18 ∷ []
met evaluate = 15 ∷ 16 ∷ []
met evaluate_residue = 15 ∷ 16 ∷ 17 ∷ []
met print = 10 ∷ 19 ∷ []
met write = 19 ∷ []
met read = 18 ∷ []
met strip = 16 ∷ 19 ∷ 27 ∷ []
met run_strip = 15 ∷ []
met of_var = 18 ∷ []
met of_coeff = 18 ∷ []
met of_derivative = 12 ∷ 18 ∷ []
met of_order = []
met of_from_coefficients = []
met of_neg = 18 ∷ []
met of_exp = 11 ∷ 12 ∷ 13 ∷ 14 ∷ 18 ∷ []
met of_log = 11 ∷ 12 ∷ 13 ∷ 14 ∷ 18 ∷ []
met of_pow = 11 ∷ 12 ∷ 13 ∷ 14 ∷ 18 ∷ []
met of_add = 12 ∷ 14 ∷ 18 ∷ []
met of_sub = 12 ∷ 14 ∷ 18 ∷ []
met of_mul = 11 ∷ 12 ∷ 13 ∷ 14 ∷ 18 ∷ []
met of_div = 11 ∷ 12 ∷ 13 ∷ 14 ∷ 18 ∷ []
met of_max = 10 ∷ 18 ∷ []
met of_subst = 11 ∷ 12 ∷ 13 ∷ 14 ∷ 18 ∷ []
met coeffs = 10 ∷ 11 ∷ 12 ∷ 13 ∷ 14 ∷ 18 ∷ []
met coeffs_at = 10 ∷ 11 ∷ 12 ∷ 13 ∷ 14 ∷ 18 ∷ []
