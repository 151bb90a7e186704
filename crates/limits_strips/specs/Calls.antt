-- What the calls on key strips answer, and the pools at their limits.
-- Assumes nothing.
use Rattle.std.specs.Prelude.{List, [], ◌∷◌, ◌++◌, ℕ, zero, suc, Float}
use Rattle.engine_strip.specs.Strips.{strip_call, run_strip_call}
use Rattle.limits.specs.Lent.{Entry, Lent, variable, sum, power, squares, products}
use Rattle.limits.specs.Calls.{Answer, bits_given, length_written, output, bytes_in}

-- making a strip into an output of so many bytes: how many were written
unfoldable pub stripped : ℕ → ℕ → Lent → Answer
stripped room root P = length_written (strip_call P.kinds P.words P.count root (output room)).answer

-- and the bytes that are then in an output
unfoldable pub strip : ℕ → Lent → List ℕ
strip root P =
    let put = strip_call P.kinds P.words P.count root (output 64) in
    bytes_in (length_written put.answer) put.out

-- running a strip: the double's bits
unfoldable pub ran : List ℕ → List Float → Answer
ran bs values = bits_given (run_strip_call bs values)

-- so many sums of x0 and the node before, the first being node i
abbrev pub sums : ℕ → ℕ → List Entry
sums zero i = []
sums (suc n) i = sum 0 i ∷ sums n (suc i)

-- x0 + (x0 + .. ) with so many sums, of which the last is the root
abbrev pub right_sums : ℕ → List Entry
right_sums n = variable 0 ∷ sums n 0

-- x0 2^14 times, in products: 2^14 × 3 + 2^14 - 1 = 65,535 bytes, node 14
abbrev pub strip65535 : List Entry
strip65535 = variable 0 ∷ squares 14 0

-- x0 2^14 - 1 times, once as the base of a power: (2^14 - 1) × 3 + 5 + 2^14 - 2 = 65,536 bytes, node 27
abbrev pub strip65536 : List Entry
strip65536 = variable 0 ∷ squares 13 0 ++ power 0 2 ∷ products 13 1 14

-- a key that pushes the literal 0, so many times
abbrev pub pushes : ℕ → List ℕ
pushes zero = []
pushes (suc n) = 2 ∷ 0 ∷ 0 ∷ 0 ∷ 0 ∷ 0 ∷ 0 ∷ 0 ∷ 0 ∷ pushes n

-- the keys that push the literals 2 and 3
abbrev pub two_and_three : List ℕ
two_and_three = 2 ∷ 2 ∷ 0 ∷ 0 ∷ 0 ∷ 0 ∷ 0 ∷ 0 ∷ 0 ∷ 2 ∷ 3 ∷ 0 ∷ 0 ∷ 0 ∷ 0 ∷ 0 ∷ 0 ∷ 0 ∷ []
