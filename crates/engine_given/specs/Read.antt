-- What is only read of an expansion that is given: its order, and the expansion of given coefficients.
-- Assumes nothing.
use Rattle.std.specs.Prelude.{List, ℕ, Result, Ok, Err}
use Rattle.refusals.specs.Demand.{demand}
use Rattle.refusals.specs.Refusals.{broken_pool, unknown_node, wrong_order}
use Rattle.pool.specs.Nodes.{all_below}
use Rattle.pool.specs.Pool.{is_pool}
use Rattle.taylor.specs.Expansion.{order}
use Rattle.lent_series.specs.declared.series.Series.{Series}
use Rattle.lent_series.specs.Series.{nodes_of, length_ok, given}
use Rattle.lent_series.specs.Call.{Outcome, accepted, refused_outcome}

-- 1, then 2 and 5 of the expansion given
abbrev pub given_to_read : {A : Type 0} → (ℕ → A) → List ℕ → List ℕ → ℕ → Series → A → A
given_to_read refuses ks ws n s then =
    demand refuses (is_pool ks ws n) broken_pool (demand refuses (all_below n (nodes_of s)) unknown_node (demand refuses (length_ok s) wrong_order then))

-- how many coefficients, or the refusal number
abbrev pub Counted : Type 0
Counted = Result ℕ ℕ

abbrev pub count_of : List ℕ → List ℕ → ℕ → Series → Counted
count_of ks ws n s = given_to_read Err ks ws n s (Ok (order (given s)))

abbrev pub coefficients_of : List ℕ → List ℕ → ℕ → Series → Outcome
coefficients_of ks ws n s = given_to_read refused_outcome ks ws n s (accepted (given s))
