-- What a C function leaves: its answer, 0 or the refusal number, and everything that was lent to it. The places for answers are lent bytes
-- too: "After a refusal all lent bytes and the count are unchanged."
-- Assumes nothing.
use Rattle.std.specs.Prelude.{Bool, true, false, List, ℕ, Result, Ok, Err}
use Rattle.refusals.specs.Refusals.{broken_pool}
use Rattle.lent.specs.Call.{Returned, returned}
use Rattle.lent.specs.Writing.{Put}
use Rattle.lent.specs.Answer.{Answer}

-- the test of a pool: 0, or 1
abbrev pub check_number : Bool → ℕ
check_number true = 0
check_number false = broken_pool

-- 0, or the refusal number
abbrev pub number_of : {A : Type 0} → Result A ℕ → ℕ
number_of (Ok x) = 0
number_of (Err k) = k

-- what is given, or what stood there before
abbrev pub given_or : {A : Type 0} → Result A ℕ → A → A
given_or (Ok x) before = x
given_or (Err k) before = before

-- an answer that is a number, and the place for it
pub record ValueInC : Type 0 where
  pub answer : ℕ
  pub value : ℕ

abbrev pub value_in_c : ℕ → ℕ → ValueInC
value_in_c r x = record { answer = r; value = x }

abbrev pub answer_in_c : ℕ → Result ℕ ℕ → ValueInC
answer_in_c before a = value_in_c (number_of a) (given_or a before)

-- a call that works on the pool and gives a node
abbrev pub returned_in_c : ℕ → List ℕ → List ℕ → ℕ → ℕ → Returned ValueInC
returned_in_c r ks ws n i = returned (value_in_c r i) ks ws n

abbrev pub in_c : ℕ → Returned Answer → Returned ValueInC
in_c before l = returned_in_c (number_of l.answer) l.kinds l.words l.count (given_or l.answer before)

-- a call that writes to an output
pub record OutputInC : Type 0 where
  pub answer : ℕ
  pub out : List ℕ
  pub written : ℕ

abbrev pub output_in_c : ℕ → List ℕ → ℕ → OutputInC
output_in_c r out n = record { answer = r; out = out; written = n }

abbrev pub written_in_c : ℕ → Put → OutputInC
written_in_c before o = output_in_c (number_of o.answer) o.out (given_or o.answer before)
