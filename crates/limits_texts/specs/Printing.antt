-- Printing by `node_fmt`: its signs and brackets, an example for each kind in each place of each kind, and the names of variables.
-- Assumes nothing.
use Rattle.std.specs.Prelude.{◌≡◌, List, [], ◌∷◌}
use Rattle.limits.specs.Lent.{Entry, Lent, lent, variable, literal, sum, product, quotient, exponential, logarithm, power}
use Rattle.limits.specs.Calls.{text}
use Rattle.text.specs.Text.{bytes}

-- nodes 0, 1 and 2 are x0, x1 and x2, printed a, b and c; then these
abbrev pub with_letters : List Entry → Lent
with_letters es = lent (variable 0 ∷ variable 1 ∷ variable 2 ∷ es)

pub record Printing : Type 0 where
  -- Add(a, b) => both at cur_precedence, which is 0
  pub sum_left_in_sum : text 4 (with_letters (sum 0 1 ∷ sum 3 2 ∷ [])) ≡ bytes "a + b + c"
  pub sum_right_in_sum : text 4 (with_letters (sum 1 2 ∷ sum 0 3 ∷ [])) ≡ bytes "a + b + c"
  pub product_left_in_sum : text 4 (with_letters (product 0 1 ∷ sum 3 2 ∷ [])) ≡ bytes "a*b + c"
  pub product_right_in_sum : text 4 (with_letters (product 1 2 ∷ sum 0 3 ∷ [])) ≡ bytes "a + b*c"
  pub quotient_left_in_sum : text 4 (with_letters (quotient 0 1 ∷ sum 3 2 ∷ [])) ≡ bytes "a/b + c"
  pub quotient_right_in_sum : text 4 (with_letters (quotient 1 2 ∷ sum 0 3 ∷ [])) ≡ bytes "a + b/c"
  pub power_left_in_sum : text 4 (with_letters (power 0 2 ∷ sum 3 2 ∷ [])) ≡ bytes "a^2 + c"
  pub power_right_in_sum : text 4 (with_letters (power 1 2 ∷ sum 0 3 ∷ [])) ≡ bytes "a + b^2"
  -- Mul(a, b) => both at cur_precedence, which is 1
  pub sum_left_in_product : text 4 (with_letters (sum 0 1 ∷ product 3 2 ∷ [])) ≡ bytes "(a + b)*c"
  pub sum_right_in_product : text 4 (with_letters (sum 1 2 ∷ product 0 3 ∷ [])) ≡ bytes "a*(b + c)"
  pub product_left_in_product : text 4 (with_letters (product 0 1 ∷ product 3 2 ∷ [])) ≡ bytes "a*b*c"
  pub product_right_in_product : text 4 (with_letters (product 1 2 ∷ product 0 3 ∷ [])) ≡ bytes "a*b*c"
  pub quotient_left_in_product : text 4 (with_letters (quotient 0 1 ∷ product 3 2 ∷ [])) ≡ bytes "a/b*c"
  pub quotient_right_in_product : text 4 (with_letters (quotient 1 2 ∷ product 0 3 ∷ [])) ≡ bytes "a*b/c"
  pub power_left_in_product : text 4 (with_letters (power 0 2 ∷ product 3 2 ∷ [])) ≡ bytes "a^2*c"
  pub power_right_in_product : text 4 (with_letters (power 1 2 ∷ product 0 3 ∷ [])) ≡ bytes "a*b^2"
  -- Div(a, b) => a at cur_precedence, which is 1, b at cur_precedence + 1
  pub sum_left_in_quotient : text 4 (with_letters (sum 0 1 ∷ quotient 3 2 ∷ [])) ≡ bytes "(a + b)/c"
  pub sum_right_in_quotient : text 4 (with_letters (sum 1 2 ∷ quotient 0 3 ∷ [])) ≡ bytes "a/(b + c)"
  pub product_left_in_quotient : text 4 (with_letters (product 0 1 ∷ quotient 3 2 ∷ [])) ≡ bytes "a*b/c"
  pub product_right_in_quotient : text 4 (with_letters (product 1 2 ∷ quotient 0 3 ∷ [])) ≡ bytes "a/(b*c)"
  pub quotient_left_in_quotient : text 4 (with_letters (quotient 0 1 ∷ quotient 3 2 ∷ [])) ≡ bytes "a/b/c"
  pub quotient_right_in_quotient : text 4 (with_letters (quotient 1 2 ∷ quotient 0 3 ∷ [])) ≡ bytes "a/(b/c)"
  pub power_left_in_quotient : text 4 (with_letters (power 0 2 ∷ quotient 3 2 ∷ [])) ≡ bytes "a^2/c"
  pub power_right_in_quotient : text 4 (with_letters (power 1 2 ∷ quotient 0 3 ∷ [])) ≡ bytes "a/b^2"
  -- Pow(a, exp) => a at cur_precedence + 1, which is 3
  pub power_of_sum : text 4 (with_letters (sum 0 1 ∷ power 3 2 ∷ [])) ≡ bytes "(a + b)^2"
  pub power_of_product : text 4 (with_letters (product 0 1 ∷ power 3 2 ∷ [])) ≡ bytes "(a*b)^2"
  pub power_of_quotient : text 4 (with_letters (quotient 0 1 ∷ power 3 2 ∷ [])) ≡ bytes "(a/b)^2"
  pub power_of_power : text 4 (with_letters (power 0 2 ∷ power 3 3 ∷ [])) ≡ bytes "(a^2)^3"
  pub power_of_exp : text 4 (with_letters (exponential 0 ∷ power 3 2 ∷ [])) ≡ bytes "exp(a)^2"
  pub power_of_log : text 4 (with_letters (logarithm 0 ∷ power 3 2 ∷ [])) ≡ bytes "log(a)^2"
  -- Exp(a), Log(a) => a at 0
  pub exp_of_sum : text 4 (with_letters (sum 0 1 ∷ exponential 3 ∷ [])) ≡ bytes "exp(a + b)"
  pub log_of_sum : text 4 (with_letters (sum 0 1 ∷ logarithm 3 ∷ [])) ≡ bytes "log(a + b)"
  pub exp_in_product : text 4 (with_letters (exponential 0 ∷ product 3 1 ∷ [])) ≡ bytes "exp(a)*b"
  pub log_in_quotient : text 4 (with_letters (logarithm 1 ∷ quotient 0 3 ∷ [])) ≡ bytes "a/log(b)"
  -- Lit(x) => a minus is never bracketed: the words of -1 and -2
  pub sum_with_minus_one : text 4 (with_letters (literal 18446744073709551615 ∷ sum 0 3 ∷ [])) ≡ bytes "a + -1"
  pub quotient_by_minus_one : text 4 (with_letters (literal 18446744073709551615 ∷ quotient 0 3 ∷ [])) ≡ bytes "a/-1"
  pub power_of_minus_two : text 4 (with_letters (literal 18446744073709551614 ∷ power 3 3 ∷ [])) ≡ bytes "-2^3"
  -- "numbers 0 to 25 as the letters a to z, from 26 on as x_ and the number"
  pub variable_25 : text 3 (with_letters (variable 25 ∷ [])) ≡ bytes "z"
  pub variable_26 : text 3 (with_letters (variable 26 ∷ [])) ≡ bytes "x_26"
  pub variable_65535 : text 3 (with_letters (variable 65535 ∷ [])) ≡ bytes "x_65535"
