-- "`derivative` of a list multiplies by a factorial .. the literals of the source's fold are appended all the same": its products, given as factorials.
-- Assumes nothing.
use Rattle.std.specs.Prelude.{Bool, true, false, List, ℕ, leb, pos}
use Rattle.factorial.specs.Factorial.{factorial_of}
use Rattle.taylor.specs.Work.{Work, ◌>>=◌, yield, lit, from, one_lit, mul, at, fold}

-- up to this number the product is the number itself: 0! and 1! are 1, and 1 * x is x
abbrev pub itself : ℕ
itself = 2

abbrev pub product : Bool → ℕ → ℕ → Work ℕ
product true i n = yield n
product false i n = lit (pos (factorial_of i))

-- T::from(i), and i! where the product so far is (i - 1)!
abbrev pub factor : ℕ → ℕ → Work ℕ
factor acc i = do
  n ← from i
  product (leb i itself) i n

abbrev pub factorial_lits : ℕ → Work ℕ
factorial_lits k = do
  one ← one_lit
  fold factor 1 k one

-- k! * coeffs[k]
abbrev pub derivative_of : List ℕ → ℕ → Work ℕ
derivative_of cs k = do
  f ← factorial_lits k
  mul f (at cs k)
