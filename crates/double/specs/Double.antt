-- Doubles, from document 01's "Values": the toolchain's account of IEEE 754 at binary64, with 01's own rules for Pow and Max.
-- Assumes nothing.
use Rattle.std.specs.Prelude.{◌||◌, cond, ℕ, zero, suc, ◌/◌, ◌%◌, eqb, ℤ, pos, Float, Result, Ok, Err}
use Rattle.std.specs.Float.{binary64}
use Rattle.std.specs.Float.Ieee.{mul, lt, is_nan, of_int}
use Rattle.refusals.specs.Refusals.{not_literal}
use Rattle.literal.specs.Literal.{is_literal}

-- a double, or the refusal number
abbrev pub Valued : Type 0
Valued = Result Float ℕ

-- "Every literal is exact as a double"; any other number is none: 4
unfoldable pub double_of : ℤ → Valued
double_of z = cond (is_literal z) (Ok (of_int binary64 z)) (Err not_literal)

-- acc, multiplied where the lowest bit of n is one
abbrev pub with_lowest : Float → Float → ℕ → Float
with_lowest acc b n = cond (eqb (n % 2) 1) (mul binary64 acc b) acc

-- "Pow .. takes the exponent's bits from the lowest, multiplies where a bit is one, then squares while higher bits remain": a turn for each bit of n, at most k of them
unfoldable pub pow_from : ℕ → Float → Float → ℕ → Float
pow_from zero acc b n = acc
pow_from (suc k) acc b n =
    let multiplied = with_lowest acc b n in
    let higher = pow_from k multiplied (mul binary64 b b) (n / 2) in
    cond (eqb (n / 2) 0) multiplied higher

-- "Pow starts at 1"; an exponent has 32 bits
unfoldable pub pow_of : Float → ℕ → Float
pow_of x e = pow_from 32 (of_int binary64 (pos 1)) x e

-- "Max is the left value if it is greater or the right is NaN, else the right."
unfoldable pub max_of : Float → Float → Float
max_of x y = cond (lt y x || is_nan y) x y
