-- Expansions in C's terms: an order, and an array of 25 beside it.
-- Assumes nothing.
use Rattle.std.specs.Prelude.{List, ℕ, Result, Ok, Err}
use Rattle.lent.specs.Call.{Returned, returned}
use Rattle.lent_series.specs.declared.series.Series.{Series}
use Rattle.lent_series.specs.Call.{Outcome}
use Rattle.c_answers.specs.Interface.{ValueInC, answer_in_c}

abbrev pub series : ℕ → List ℕ → Series
series order coeffs = record { order = order; coeffs = coeffs }

-- how many coefficients, or what stood there before
abbrev pub count_in_c : ℕ → Result ℕ ℕ → ValueInC
count_in_c = answer_in_c

-- a call that gives an expansion: its order and coefficients, or what stood there before
pub record OutcomeInC : Type 0 where
  pub answer : ℕ
  pub order : ℕ
  pub coeffs : List ℕ

abbrev pub outcome_returned_in_c : ℕ → ℕ → List ℕ → OutcomeInC
outcome_returned_in_c r n cs = record { answer = r; order = n; coeffs = cs }

abbrev pub outcome_in_c : ℕ → List ℕ → Outcome → OutcomeInC
outcome_in_c n cs (Ok s) = outcome_returned_in_c 0 s.order s.coeffs
outcome_in_c n cs (Err k) = outcome_returned_in_c k n cs

-- the same of a call that works on the pool
abbrev pub series_returned_in_c : ℕ → List ℕ → List ℕ → ℕ → ℕ → List ℕ → Returned OutcomeInC
series_returned_in_c r ks ws n order coeffs = returned (outcome_returned_in_c r order coeffs) ks ws n

abbrev pub series_in_c : ℕ → List ℕ → Returned Outcome → Returned OutcomeInC
series_in_c order coeffs l = returned (outcome_in_c order coeffs l.answer) l.kinds l.words l.count
