-- The calls on expansions: checks in their order, then the work, whose numbers the crate situations has; and the number 0 stands beside an expansion only.
-- Assumes nothing.
use Rattle.std.specs.Prelude.{Ok, Err, Some, None}
use mathlib.Core.Path.{◌≡◌, refl}
use mathlib.Core.Bool.{Bool, true, false, ◌&&◌}
use mathlib.Core.List.{List, [], ◌∷◌, ◌++◌}
use Prim.Native.Nat.{ℕ, zero, suc, ◌^◌, ◌<◌}
use native.Mathlib.Omega.{arith}
use lib.Dec.{leb, ltb}
use lib.IntN.{ℤ}
use lib.ListN.{get_or}
use Rattle.refusals.specs.Refusals.{broken_pool, unknown_node, unknown_variable, not_literal, wrong_order}
use Rattle.literal.specs.Literal.{is_literal}
use Rattle.pool.specs.Nodes.{all_below, greatest_variable}
use Rattle.pool.specs.Pool.{Pool, is_pool, done, refused}
use Rattle.shape.specs.Demand.{KeepsRules}
use Rattle.taylor.specs.Work.{Result, Work}
use Rattle.taylor.specs.Expansion.{Expansion, order, var, coeff, derivative, negate, exponential, logarithm, power, add_to, sub_from, times, quotient, maximum, subst}
use Rattle.taylor.specs.Expand.{Point, expand}
use Rattle.taylor.specs.Coefficients.{terms}
use Rattle.lent.specs.Call.{leaves, lent_pool, demand, on_pool}
use Rattle.lent_series.specs.declared.series.Series.{Series}
use Rattle.lent_series.specs.Series.{nodes_of, length_ok, given}
use Rattle.lent_series.specs.Call.{accepted, refused_outcome, series_on_pool, given_series, given_two}
use Rattle.engine_index.specs.Indices.{has_index, given_index}
use Rattle.engine_given.specs.Variable.{var_call}
use Rattle.engine_given.specs.Read.{count_of, coefficients_of}
use Rattle.engine_pairs.specs.Pairs.{agree}
use Rattle.engine_expand.specs.Expressions.{expand_work}
use Rattle.situations.specs.Refusal.{Among, of_result, of_answer}
use Rattle.situations.specs.Situations.{OfExpansions}
use Rattle.situations.proofs.Situations.{of_walks, of_expansions}
use Rattle.situation_calls.specs.Table as table
use Rattle.situation_calls.specs.Table.{Call, checked, met}
use Rattle.situation_calls.specs.Answers.{Situated, ByTable, ExpansionByTable, one_tested, two_tested, OfSeries}
use Rattle.situation_calls.proofs.Laws.{working, passing, failing, demanded, numbers, not_zero, no_zero}
use Rattle.situation_calls.proofs.Nodes.{rules, root_below, node_call}

module _ {checks meets : List ℕ} {tests : List Bool} where
  asked : {A : Type 0} (t : Bool) (k : ℕ) (x : Result A) → (t ≡ true → Situated checks meets tests (of_result x)) → Situated (k ∷ checks) meets (t ∷ tests) (of_result (demand refused t k x))
  asked = demanded of_result refused (λ k. refl)

-- an answer that is an expansion
given_out : (c : Call) {tests : List Bool} (ks ws : List ℕ) (n : ℕ) (x : Result Expansion) → ByTable c tests (of_result x) → ExpansionByTable c tests (leaves accepted refused_outcome ks ws n x).answer
given_out c ks ws n (done e P) s = record { by_table = s; zero_accepts = λ z. (e, refl) }
given_out c ks ws n (refused zero) s = absurd (not_zero (checked c ++ met c) (no_zero c) (numbers s))
given_out c ks ws n (refused (suc k)) s = record { by_table = s; zero_accepts = λ z. absurd (omega arith) }

module _ (ks ws : List ℕ) (n : ℕ) (fit : (i : ℕ) → get_or ws i 0 < 2 ^ 64) where
  abbrev P : Pool
  P = lent_pool ks ws n

  -- 1, then the rest
  series_call : (c : Call) {tests : List Bool} (work : Work Expansion) → ByTable c tests (of_result (demand refused (is_pool ks ws n) broken_pool (work P))) → ExpansionByTable c tests (series_on_pool work ks ws n).answer
  series_call c work s = given_out c ks ws n (demand refused (is_pool ks ws n) broken_pool (work P)) s

  -- nodes, then 5: of a variable, of one expansion, of two
  module _ {meets : List ℕ} (below fits : Bool) {A : Type 0} (work : Work A) (h : KeepsRules P → Among meets (of_result (work P))) where
    two_checks : KeepsRules P → Situated (unknown_node ∷ wrong_order ∷ []) meets (below ∷ fits ∷ []) (of_result (demand refused below unknown_node (demand refused fits wrong_order (work P))))
    two_checks r = asked below unknown_node (demand refused fits wrong_order (work P)) (λ e. asked fits wrong_order (work P) (λ f. working (h r)))

    three_checks : Situated (broken_pool ∷ unknown_node ∷ wrong_order ∷ []) meets (is_pool ks ws n ∷ below ∷ fits ∷ []) (of_result (demand refused (is_pool ks ws n) broken_pool (demand refused below unknown_node (demand refused fits wrong_order (work P)))))
    three_checks = asked (is_pool ks ws n) broken_pool (demand refused below unknown_node (demand refused fits wrong_order (work P))) (λ e. two_checks (rules ks ws n fit e))

  -- a coefficient or a derivative: the answer is a node
  index_call : {meets : List ℕ} (s : Series) (k : ℕ) (work : Work ℕ) → (KeepsRules P → Among meets (of_result (work P))) → Situated (broken_pool ∷ unknown_node ∷ wrong_order ∷ []) meets (one_tested ks ws n s (has_index s k)) (of_answer (on_pool (given_index s k work) ks ws n).answer)
  index_call s k work h =
      node_call ks ws n fit (given_index s k work) (λ r. two_checks (all_below n (nodes_of s)) (has_index s k) work h r)

  -- one expansion, and two
  one_call : {meets : List ℕ} (s : Series) (work : Work Expansion) → (KeepsRules P → Among meets (of_result (work P))) → Situated (broken_pool ∷ unknown_node ∷ wrong_order ∷ []) meets (one_tested ks ws n s (length_ok s)) (of_result (demand refused (is_pool ks ws n) broken_pool (given_series s work P)))
  one_call s work h = three_checks (all_below n (nodes_of s)) (length_ok s) work h

  two_call : {meets : List ℕ} (s t : Series) (fits : Bool) (work : Work Expansion) → (KeepsRules P → Among meets (of_result (work P))) → Situated (broken_pool ∷ unknown_node ∷ wrong_order ∷ []) meets (two_tested ks ws n s t fits) (of_result (demand refused (is_pool ks ws n) broken_pool (given_two s t fits work P)))
  two_call s t fits work h = three_checks (all_below n (nodes_of s) && all_below n (nodes_of t)) fits work h

  -- what is only read
  order_answers : (s : Series) → ByTable table.of_order (one_tested ks ws n s (length_ok s)) (of_answer (count_of ks ws n s))
  order_answers s = go (is_pool ks ws n) (all_below n (nodes_of s)) (length_ok s)
    where
      go : (p b l : Bool) → ByTable table.of_order (p ∷ b ∷ l ∷ []) (of_answer (demand Err p broken_pool (demand Err b unknown_node (demand Err l wrong_order (Ok (order (given s)))))))
      go true true true = passing 1 (passing 2 (passing 5 (working tt)))
      go true true false = passing 1 (passing 2 (failing 5))
      go true false l = passing 1 (failing 2)
      go false b l = failing 1

  read_answers : (s : Series) → ExpansionByTable table.of_from_coefficients (one_tested ks ws n s (length_ok s)) (coefficients_of ks ws n s)
  read_answers s = go (is_pool ks ws n) (all_below n (nodes_of s)) (length_ok s)
    where
      go : (p b l : Bool) → ExpansionByTable table.of_from_coefficients (p ∷ b ∷ l ∷ []) (demand refused_outcome p broken_pool (demand refused_outcome b unknown_node (demand refused_outcome l wrong_order (accepted (given s)))))
      go true true true = record { by_table = passing 1 (passing 2 (passing 5 (working tt))); zero_accepts = λ z. (given s, refl) }
      go true true false = record { by_table = passing 1 (passing 2 (failing 5)); zero_accepts = λ z. absurd (omega arith) }
      go true false l = record { by_table = passing 1 (failing 2); zero_accepts = λ z. absurd (omega arith) }
      go false b l = record { by_table = failing 1; zero_accepts = λ z. absurd (omega arith) }

  -- an expression: 1, 2, 3, then 4 of a point, then 5
  module _ (root v order : ℕ) where
    abbrev last : Point → Result Expansion
    last x = demand refused (ltb order terms) wrong_order (expand root v x order P)

    last_checked : is_pool ks ws n ≡ true → all_below n (root ∷ []) ≡ true → (x : Point) → Situated (wrong_order ∷ []) (met table.coeffs) (ltb order terms ∷ []) (of_result (last x))
    last_checked r e x = asked (ltb order terms) wrong_order (expand root v x order P) (λ f. working ((of_walks P (rules ks ws n fit r) root (root_below ks ws n fit root [] e)).expansion v x order))

    coeffs_answers : ByTable table.coeffs (is_pool ks ws n ∷ all_below n (root ∷ []) ∷ leb v greatest_variable ∷ ltb order terms ∷ []) (of_result (demand refused (is_pool ks ws n) broken_pool (expand_work root v None order P)))
    coeffs_answers =
        asked (is_pool ks ws n) broken_pool _ (λ r.
        asked (all_below n (root ∷ [])) unknown_node _ (λ e.
        asked (leb v greatest_variable) unknown_variable (last None) (λ f. last_checked r e None)))

    coeffs_at_answers : (z : ℤ) → ByTable table.coeffs_at (is_pool ks ws n ∷ all_below n (root ∷ []) ∷ leb v greatest_variable ∷ is_literal z ∷ ltb order terms ∷ []) (of_result (demand refused (is_pool ks ws n) broken_pool (expand_work root v (Some z) order P)))
    coeffs_at_answers z =
        asked (is_pool ks ws n) broken_pool _ (λ r.
        asked (all_below n (root ∷ [])) unknown_node _ (λ e.
        asked (leb v greatest_variable) unknown_variable _ (λ f.
        asked (is_literal z) not_literal (last (Some z)) (λ g. last_checked r e (Some z)))))

  pub of_series : OfSeries ks ws n
  of_series =
      let E : KeepsRules P → OfExpansions P = of_expansions P in
      record {
        var_by_table = λ x order. series_call table.of_var (var_call x order) (three_checks (all_below n (x ∷ [])) (ltb order terms) (var x order) (λ r. (E r).var_meets x order));
        coeff_by_table = λ s k. index_call s k (coeff (given s) k) (λ r. (E r).coeff_meets (given s) k);
        derivative_by_table = λ s k. index_call s k (derivative (given s) k) (λ r. (E r).derivative_meets (given s) k);
        order_by_table = order_answers;
        from_coefficients_by_table = read_answers;
        neg_by_table = λ s. series_call table.of_neg (given_series s (negate (given s))) (one_call s (negate (given s)) (λ r. (E r).neg_meets (given s)));
        exp_by_table = λ s. series_call table.of_exp (given_series s (exponential (given s))) (one_call s (exponential (given s)) (λ r. (E r).exp_meets (given s)));
        log_by_table = λ s. series_call table.of_log (given_series s (logarithm (given s))) (one_call s (logarithm (given s)) (λ r. (E r).log_meets (given s)));
        pow_by_table = λ s e. series_call table.of_pow (given_series s (power (given s) e)) (one_call s (power (given s) e) (λ r. (E r).pow_meets (given s) e));
        add_by_table = λ s t. series_call table.of_add (given_two s t (length_ok s && length_ok t) (add_to (given s) (given t))) (two_call s t (length_ok s && length_ok t) (add_to (given s) (given t)) (λ r. (E r).add_meets (given s) (given t)));
        sub_by_table = λ s t. series_call table.of_sub (given_two s t (length_ok s && length_ok t) (sub_from (given s) (given t))) (two_call s t (length_ok s && length_ok t) (sub_from (given s) (given t)) (λ r. (E r).sub_meets (given s) (given t)));
        mul_by_table = λ s t. series_call table.of_mul (given_two s t (length_ok s && length_ok t) (times (given s) (given t))) (two_call s t (length_ok s && length_ok t) (times (given s) (given t)) (λ r. (E r).mul_meets (given s) (given t)));
        div_by_table = λ s t. series_call table.of_div (given_two s t (length_ok s && length_ok t) (quotient (given s) (given t))) (two_call s t (length_ok s && length_ok t) (quotient (given s) (given t)) (λ r. (E r).div_meets (given s) (given t)));
        max_by_table = λ s t. series_call table.of_max (given_two s t (length_ok s && length_ok t) (maximum (given s) (given t))) (two_call s t (length_ok s && length_ok t) (maximum (given s) (given t)) (λ r. (E r).max_meets (given s) (given t)));
        subst_by_table = λ s t. series_call table.of_subst (given_two s t ((length_ok s && length_ok t) && agree s t) (subst (given s) (given t))) (two_call s t ((length_ok s && length_ok t) && agree s t) (subst (given s) (given t)) (λ r. (E r).subst_meets (given s) (given t)));
        coeffs_by_table = λ root v order. series_call table.coeffs (expand_work root v None order) (coeffs_answers root v order);
        coeffs_at_by_table = λ root v z order. series_call table.coeffs_at (expand_work root v (Some z) order) (coeffs_at_answers root v order z);
      }
