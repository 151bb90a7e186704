-- What calls from outside give.
-- Assumes nothing.
use Rattle.std.specs.Prelude.{ℕ, Result}

-- a node number, or the refusal number
abbrev pub Answer : Type 0
Answer = Result ℕ ℕ

-- of a call that fills an output: how many bytes were written, or the refusal number
abbrev pub Written : Type 0
Written = Result ℕ ℕ
