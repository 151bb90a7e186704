-- What is said of every call: it refuses by the table, and in the table's order.
-- Assumes nothing.
use Rattle.std.specs.Prelude.{◌≡◌, Bool, true, false, ◌&&◌, List, [], ◌∷◌, ℕ, leb, ltb, ℤ, length, Float, Ok, Err, Some, None}
use Rattle.literal.specs.Literal.{is_literal}
use Rattle.pool.specs.Nodes.{all_below, greatest_variable}
use Rattle.pool.specs.Pool.{Run, is_pool}
use Rattle.constructors.specs.Build.{calls, depth}
use Rattle.shape.specs.File.{is_sized, are_nodes, is_in_order, read_file}
use Rattle.taylor.specs.Expansion.{Expansion, coeff, derivative, negate, exponential, logarithm, power, add_to, sub_from, times, quotient, maximum, subst}
use Rattle.taylor.specs.Coefficients.{terms}
use Rattle.lent.specs.Call.{on_pool, given_nodes}
use Rattle.engine.specs.Build.{lit_work, var_work}
use Rattle.c_answers.specs.Interface.{number_of}
use Rattle.engine_walk.specs.Walks.{substitute_work, derive_work}
use Rattle.engine_values.specs.Values.{most_values, are_residues, evaluate_call, evaluate_residue_call}
use Rattle.engine_print.specs.Printing.{print_call}
use Rattle.engine_file.specs.Write.{write_call}
use Rattle.key_strip.specs.Machine.{is_strip}
use Rattle.engine_strip.specs.Strips.{strip_call, run_strip_call}
use Rattle.lent_series.specs.declared.series.Series.{Series}
use Rattle.lent_series.specs.Series.{nodes_of, length_ok, given}
use Rattle.lent_series.specs.Call.{Outcome, accepted, series_on_pool, given_series, given_two}
use Rattle.engine_index.specs.Indices.{has_index, given_index}
use Rattle.engine_given.specs.Variable.{var_call}
use Rattle.engine_given.specs.Read.{count_of, coefficients_of}
use Rattle.engine_pairs.specs.Pairs.{agree}
use Rattle.engine_expand.specs.Expressions.{expand_work}
use Rattle.situations.specs.Refusal.{Refusal, by, Among, of_answer}
use Rattle.situations.specs.Refusal as refusal
use Rattle.situation_calls.specs.Table as table
use Rattle.situation_calls.specs.Table.{Call, checked, met}

-- ---- what is said of a call

-- the number of the first check that fails
abbrev pub first_failed : List Bool → List ℕ → Refusal
first_failed [] ks = refusal.none
first_failed (t ∷ tests) [] = refusal.none
first_failed (true ∷ tests) (k ∷ ks) = first_failed tests ks
first_failed (false ∷ tests) (k ∷ ks) = by k

-- "1 to 9 are checked first, smallest number first. Then the work runs": where a check fails, its number; where none does, one that the work can meet, or no refusal
pub record Situated (checks meets : List ℕ) (tests : List Bool) (r : Refusal) : Type 0 where
  pub first : (k : ℕ) → first_failed tests checks ≡ by k → r ≡ by k
  pub worked : first_failed tests checks ≡ refusal.none → Among meets r

-- a call refuses by the table
abbrev pub ByTable : Call → List Bool → Refusal → Type 0
ByTable c tests r = Situated (checked c) (met c) tests r

-- so does one that gives an expansion, and the number 0, as a caller in C gets it, comes with an expansion, never with a refusal
pub record ExpansionByTable (c : Call) (tests : List Bool) (o : Outcome) : Type 0 where
  pub by_table : ByTable c tests (of_answer o)
  pub zero_accepts : number_of o ≡ 0 → (e : Expansion) × (o ≡ accepted e)

-- the tests of node numbers given
abbrev pub nodes_tested : List ℕ → List ℕ → ℕ → List ℕ → List Bool
nodes_tested ks ws n nodes = is_pool ks ws n ∷ all_below n nodes ∷ []

-- how a call that works on the pool refuses
abbrev pub refusal_of : Run → List ℕ → List ℕ → ℕ → Refusal
refusal_of work ks ws n = of_answer (on_pool work ks ws n).answer

-- ---- every call, on any lent tables and any count: the tests are what is checked, in order
pub record OfCalls (ks ws : List ℕ) (n : ℕ) : Type 0 where
  pub lit_by_table : (z : ℤ) → ByTable table.lit (is_pool ks ws n ∷ is_literal z ∷ []) (refusal_of (lit_work z) ks ws n)
  pub var_by_table : (v : ℕ) → ByTable table.var (is_pool ks ws n ∷ leb v greatest_variable ∷ []) (refusal_of (var_work v) ks ws n)
  pub add_by_table : (a b : ℕ) → ByTable table.add (nodes_tested ks ws n (a ∷ b ∷ [])) (refusal_of (given_nodes (a ∷ b ∷ []) ((calls depth).add_at a b)) ks ws n)
  pub mul_by_table : (a b : ℕ) → ByTable table.mul (nodes_tested ks ws n (a ∷ b ∷ [])) (refusal_of (given_nodes (a ∷ b ∷ []) ((calls depth).mul_at a b)) ks ws n)
  pub div_by_table : (a b : ℕ) → ByTable table.div (nodes_tested ks ws n (a ∷ b ∷ [])) (refusal_of (given_nodes (a ∷ b ∷ []) ((calls depth).div_at a b)) ks ws n)
  pub max_by_table : (a b : ℕ) → ByTable table.max (nodes_tested ks ws n (a ∷ b ∷ [])) (refusal_of (given_nodes (a ∷ b ∷ []) ((calls depth).max_at a b)) ks ws n)
  pub neg_by_table : (a : ℕ) → ByTable table.neg (nodes_tested ks ws n (a ∷ [])) (refusal_of (given_nodes (a ∷ []) ((calls depth).neg_at a)) ks ws n)
  pub exp_by_table : (a : ℕ) → ByTable table.exp (nodes_tested ks ws n (a ∷ [])) (refusal_of (given_nodes (a ∷ []) ((calls depth).exp_at a)) ks ws n)
  pub log_by_table : (a : ℕ) → ByTable table.log (nodes_tested ks ws n (a ∷ [])) (refusal_of (given_nodes (a ∷ []) ((calls depth).log_at a)) ks ws n)
  pub pow_by_table : (a e : ℕ) → ByTable table.pow (nodes_tested ks ws n (a ∷ [])) (refusal_of (given_nodes (a ∷ []) ((calls depth).pow_at a e)) ks ws n)
  pub substitute_var_by_table : (root v value : ℕ) → ByTable table.substitute_var (is_pool ks ws n ∷ all_below n (root ∷ value ∷ []) ∷ leb v greatest_variable ∷ []) (refusal_of (substitute_work root v value) ks ws n)
  pub derive_by_table : (root v : ℕ) → ByTable table.derive (is_pool ks ws n ∷ all_below n (root ∷ []) ∷ leb v greatest_variable ∷ []) (refusal_of (derive_work root v) ks ws n)
  pub evaluate_by_table : (root : ℕ) (values : List Float) → ByTable table.evaluate (is_pool ks ws n ∷ all_below n (root ∷ []) ∷ leb (length values) most_values ∷ []) (of_answer (evaluate_call ks ws n root values))
  pub evaluate_residue_by_table : (root : ℕ) (values : List ℕ) → ByTable table.evaluate_residue (is_pool ks ws n ∷ all_below n (root ∷ []) ∷ are_residues values ∷ []) (of_answer (evaluate_residue_call ks ws n root values))
  pub print_by_table : (root : ℕ) (out : List ℕ) → ByTable table.print (nodes_tested ks ws n (root ∷ [])) (of_answer (print_call ks ws n root out).answer)
  pub write_by_table : (root : ℕ) (out : List ℕ) → ByTable table.write (nodes_tested ks ws n (root ∷ [])) (of_answer (write_call ks ws n root out).answer)
  pub read_by_table : (bs : List ℕ) → ByTable table.read (is_pool ks ws n ∷ is_sized bs ∷ are_nodes bs ∷ is_in_order bs ∷ []) (refusal_of (read_file bs) ks ws n)
  pub strip_by_table : (root : ℕ) (out : List ℕ) → ByTable table.strip (nodes_tested ks ws n (root ∷ [])) (of_answer (strip_call ks ws n root out).answer)
  -- the machine has no pool
  pub run_strip_by_table : (bs : List ℕ) (values : List Float) → ByTable table.run_strip (leb (length values) most_values ∷ is_strip bs ∷ []) (of_answer (run_strip_call bs values))

-- the tests of one expansion, and of two with what is asked of their lengths
abbrev pub one_tested : List ℕ → List ℕ → ℕ → Series → Bool → List Bool
one_tested ks ws n s fits = is_pool ks ws n ∷ all_below n (nodes_of s) ∷ fits ∷ []

abbrev pub two_tested : List ℕ → List ℕ → ℕ → Series → Series → Bool → List Bool
two_tested ks ws n s t fits = is_pool ks ws n ∷ (all_below n (nodes_of s) && all_below n (nodes_of t)) ∷ fits ∷ []

-- ---- every call on expansions
pub record OfSeries (ks ws : List ℕ) (n : ℕ) : Type 0 where
  pub var_by_table : (x order : ℕ) → ExpansionByTable table.of_var (is_pool ks ws n ∷ all_below n (x ∷ []) ∷ ltb order terms ∷ []) (series_on_pool (var_call x order) ks ws n).answer
  pub coeff_by_table : (s : Series) (k : ℕ) → ByTable table.of_coeff (one_tested ks ws n s (has_index s k)) (refusal_of (given_index s k (coeff (given s) k)) ks ws n)
  pub derivative_by_table : (s : Series) (k : ℕ) → ByTable table.of_derivative (one_tested ks ws n s (has_index s k)) (refusal_of (given_index s k (derivative (given s) k)) ks ws n)
  pub order_by_table : (s : Series) → ByTable table.of_order (one_tested ks ws n s (length_ok s)) (of_answer (count_of ks ws n s))
  pub from_coefficients_by_table : (s : Series) → ExpansionByTable table.of_from_coefficients (one_tested ks ws n s (length_ok s)) (coefficients_of ks ws n s)
  pub neg_by_table : (s : Series) → ExpansionByTable table.of_neg (one_tested ks ws n s (length_ok s)) (series_on_pool (given_series s (negate (given s))) ks ws n).answer
  pub exp_by_table : (s : Series) → ExpansionByTable table.of_exp (one_tested ks ws n s (length_ok s)) (series_on_pool (given_series s (exponential (given s))) ks ws n).answer
  pub log_by_table : (s : Series) → ExpansionByTable table.of_log (one_tested ks ws n s (length_ok s)) (series_on_pool (given_series s (logarithm (given s))) ks ws n).answer
  pub pow_by_table : (s : Series) (e : ℕ) → ExpansionByTable table.of_pow (one_tested ks ws n s (length_ok s)) (series_on_pool (given_series s (power (given s) e)) ks ws n).answer
  pub add_by_table : (s t : Series) → ExpansionByTable table.of_add (two_tested ks ws n s t (length_ok s && length_ok t)) (series_on_pool (given_two s t (length_ok s && length_ok t) (add_to (given s) (given t))) ks ws n).answer
  pub sub_by_table : (s t : Series) → ExpansionByTable table.of_sub (two_tested ks ws n s t (length_ok s && length_ok t)) (series_on_pool (given_two s t (length_ok s && length_ok t) (sub_from (given s) (given t))) ks ws n).answer
  pub mul_by_table : (s t : Series) → ExpansionByTable table.of_mul (two_tested ks ws n s t (length_ok s && length_ok t)) (series_on_pool (given_two s t (length_ok s && length_ok t) (times (given s) (given t))) ks ws n).answer
  pub div_by_table : (s t : Series) → ExpansionByTable table.of_div (two_tested ks ws n s t (length_ok s && length_ok t)) (series_on_pool (given_two s t (length_ok s && length_ok t) (quotient (given s) (given t))) ks ws n).answer
  pub max_by_table : (s t : Series) → ExpansionByTable table.of_max (two_tested ks ws n s t (length_ok s && length_ok t)) (series_on_pool (given_two s t (length_ok s && length_ok t) (maximum (given s) (given t))) ks ws n).answer
  pub subst_by_table : (s t : Series) → ExpansionByTable table.of_subst (two_tested ks ws n s t ((length_ok s && length_ok t) && agree s t)) (series_on_pool (given_two s t ((length_ok s && length_ok t) && agree s t) (subst (given s) (given t))) ks ws n).answer
  pub coeffs_by_table : (root v order : ℕ) → ExpansionByTable table.coeffs (is_pool ks ws n ∷ all_below n (root ∷ []) ∷ leb v greatest_variable ∷ ltb order terms ∷ []) (series_on_pool (expand_work root v None order) ks ws n).answer
  pub coeffs_at_by_table : (root v : ℕ) (z : ℤ) (order : ℕ) → ExpansionByTable table.coeffs_at (is_pool ks ws n ∷ all_below n (root ∷ []) ∷ leb v greatest_variable ∷ is_literal z ∷ ltb order terms ∷ []) (series_on_pool (expand_work root v (Some z) order) ks ws n).answer
