-- A call that fills a lent output: its answer, and what the output holds then.
-- Assumes nothing.
use Rattle.std.specs.Prelude.{◌≡◌, List, [], ◌++◌, ℕ, length, take, drop, Ok, Err}
use Rattle.lent.specs.Answer.{Written}

pub record Put : Type 0 where
  pub answer : Written
  pub out : List ℕ

abbrev pub put : Written → List ℕ → Put
put r out = record { answer = r; out = out }

-- "After a refusal all lent bytes .. are unchanged"
abbrev pub unwritten : List ℕ → ℕ → Put
unwritten out k = put (Err k) out

-- "After an accepted call the output's bytes past the result are unchanged."
abbrev pub writes : List ℕ → List ℕ → Put
writes bytes out = put (Ok (length bytes)) (bytes ++ drop (length bytes) out)

-- the call is accepted, with a length
abbrev pub Accepted : Put → Type 0
Accepted o = (m : ℕ) × (o.answer ≡ Ok m)

-- the bytes that it has written in the output, none after a refusal
abbrev pub bytes_in : Written → List ℕ → List ℕ
bytes_in (Ok m) out = take m out
bytes_in (Err k) out = []

abbrev pub bytes_written : Put → List ℕ
bytes_written o = bytes_in o.answer o.out
