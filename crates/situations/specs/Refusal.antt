-- By which numbers an answer refuses, the same for all kinds of answers.
-- Assumes nothing.
use Rattle.std.specs.Prelude.{◌≡◌, ◌⊎◌, List, [], ◌∷◌, ℕ, Ok, Err}
use Rattle.std.specs.Prelude as std
use Rattle.pool.specs.Pool.{Out, done, refused}
use Rattle.taylor.specs.Work.{Result}

-- no refusal, or one by a number
pub data Refusal : Type 0 where
  none : Refusal
  by : ℕ → Refusal

abbrev pub OneOf : List ℕ → ℕ → Type 0
OneOf [] k = ⊥
OneOf (n ∷ more) k = (k ≡ n) ⊎ OneOf more k

-- no refusal, or one by one of these numbers
abbrev pub Among : List ℕ → Refusal → Type 0
Among ks none = Unit {0}
Among ks (by k) = OneOf ks k

-- ---- how an answer of each kind refuses
abbrev pub of_out : Out → Refusal
of_out (done i P) = none
of_out (refused k) = by k

abbrev pub of_result : {A : Type 0} → Result A → Refusal
of_result (done x P) = none
of_result (refused k) = by k

-- a node, a value, a length or an expansion
abbrev pub of_answer : {A : Type 0} → std.Result A ℕ → Refusal
of_answer (Ok x) = none
of_answer (Err k) = by k
