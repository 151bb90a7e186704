-- What a call answers, for the statement on the papers' numbers: a number, or the refusal number.
-- Assumes nothing.
use Rattle.std.specs.Prelude.{List, [], ℕ, Float, replicate, take, Ok, Err}
use Rattle.std.specs.Float.{binary64}
use Rattle.std.specs.Float.Ieee.{to_bits}
use Rattle.double.specs.Double.{Valued}
use Rattle.residue.specs.Residue.{Divided}
use Rattle.pool.specs.Pool.{Run}
use Rattle.taylor.specs.Work.{Work}
use Rattle.taylor.specs.Expansion.{Expansion}
use Rattle.lent.specs.Call.{on_pool}
use Rattle.lent.specs.Answer as lent_answer
use Rattle.lent_series.specs.declared.series.Series.{Series}
use Rattle.lent_series.specs.Call.{Outcome, series_on_pool}
use Rattle.engine_given.specs.Read.{coefficients_of}
use Rattle.engine_values.specs.Values.{evaluate_call, evaluate_residue_call}
use Rattle.lent.specs.Answer.{Written}
use Rattle.engine_print.specs.Printing.{print_call}
use Rattle.engine_file.specs.Write.{write_call}
use Rattle.limits.specs.Lent.{Lent}

-- a number, which is what an accepted call gives, or a refusal number
pub data Answer : Type 0 where
  gives : ℕ → Answer
  refuses : ℕ → Answer

-- ---- calls that give a node
abbrev pub node_given : lent_answer.Answer → Answer
node_given (Ok i) = gives i
node_given (Err k) = refuses k

unfoldable pub called : Run → Lent → Answer
called work P = node_given (on_pool work P.kinds P.words P.count).answer

-- ---- calls that give an expansion: `order` of it
abbrev pub order_given : Outcome → Answer
order_given (Ok s) = gives s.order
order_given (Err k) = refuses k

unfoldable pub expanded : Work Expansion → Lent → Answer
expanded work P = order_given (series_on_pool work P.kinds P.words P.count).answer

-- an expansion that is lent: an array of 25 node numbers, all 0, of which so many are its list; 2^64 - 1 for the constant
abbrev pub list_of : ℕ → Series
list_of n = record { order = n; coeffs = replicate 25 0 }

-- `from_coefficients`
unfoldable pub listed : Series → Lent → Answer
listed s P = order_given (coefficients_of P.kinds P.words P.count s)

-- ---- evaluation: the double's bits, the residue
abbrev pub bits_given : Valued → Answer
bits_given (Ok x) = gives (to_bits binary64 x)
bits_given (Err k) = refuses k

unfoldable pub evaluated : List Float → ℕ → Lent → Answer
evaluated values root P = bits_given (evaluate_call P.kinds P.words P.count root values)

abbrev pub residue_given : Divided → Answer
residue_given (Ok x) = gives x
residue_given (Err k) = refuses k

unfoldable pub evaluated_by_residues : List ℕ → ℕ → Lent → Answer
evaluated_by_residues values root P = residue_given (evaluate_residue_call P.kinds P.words P.count root values)

-- ---- printing and writing into an output of so many bytes: how many were written
abbrev pub length_written : Written → Answer
length_written (Ok n) = gives n
length_written (Err k) = refuses k

abbrev pub output : ℕ → List ℕ
output n = replicate n 0

unfoldable pub printed : ℕ → ℕ → Lent → Answer
printed room root P = length_written (print_call P.kinds P.words P.count root (output room)).answer

unfoldable pub written : ℕ → ℕ → Lent → Answer
written room root P = length_written (write_call P.kinds P.words P.count root (output room)).answer

-- and the bytes that are then in the output: none after a refusal
abbrev pub bytes_in : Answer → List ℕ → List ℕ
bytes_in (gives n) out = take n out
bytes_in (refuses k) out = []

unfoldable pub text : ℕ → Lent → List ℕ
text root P =
    let put = print_call P.kinds P.words P.count root (output 64) in
    bytes_in (length_written put.answer) put.out

unfoldable pub file : ℕ → ℕ → Lent → List ℕ
file room root P =
    let put = write_call P.kinds P.words P.count root (output room) in
    bytes_in (length_written put.answer) put.out
