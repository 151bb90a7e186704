-- A call from outside that answered an expansion, as its caller has it: the contract's equation, with that expansion.
-- Assumes nothing.
use Rattle.std.specs.Prelude.{◌≡◌, List, ℕ, length, Ok}
use Rattle.taylor.specs.Work.{Work}
use Rattle.taylor.specs.Expansion.{Expansion}
use Rattle.taylor.specs.Coefficients.{terms}
use Rattle.lent_series.specs.declared.series.Series.{Series}
use Rattle.lent.specs.Call.{returned}
use Rattle.lent_series.specs.Call.{Outcome, series_on_pool}

-- "arrays of 25", as every value of the type has
abbrev pub Array : Series → Type 0
Array s = length s.coeffs ≡ terms

-- the call of this work on the lent tables ks, ws and count n returned the expansion s, the tables ks', ws' and the count n'
pub record Answered (work : Work Expansion) (ks ws : List ℕ) (n : ℕ) (s : Series) (ks' ws' : List ℕ) (n' : ℕ) : Type 0 where
  pub outcome : Outcome
  -- the contract of the call
  pub contract : returned outcome ks' ws' n' ≡ series_on_pool work ks ws n
  -- the expansion is answered, and no refusal
  pub accepted : outcome ≡ Ok s
