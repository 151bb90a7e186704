-- Factorials grow, so that nineteen of them are literals: 0! to 18!.
-- Assumes nothing.
use mathlib.Core.Bool.{Bool, true, false}
use mathlib.Core.Path.{◌≡◌, refl}
use Prim.Native.Nat.{ℕ, zero, suc, ◌+◌, ◌-◌, ◌*◌, ◌<◌, ◌≤◌}
use native.Mathlib.Nat.{le_trans, mul-le-mul_right, suc-add, zero-add}
use native.Mathlib.Omega.{arith}
use lib.Dec.{leb, leb→le, ltb→lt}
use borrow.Author.Tests.{leb-true, leb-false}
use Rattle.literal.specs.Literal.{greatest}
use Rattle.factorial.specs.Factorial.{factorial_of}

one_more : (n : ℕ) → factorial_of n ≤ factorial_of (suc n)
unfolding factorial_of
one_more n =
    let h : 1 * factorial_of n ≤ suc n * factorial_of n = mul-le-mul_right (factorial_of n) (omega arith) in
    omega arith

grows_by : (k m : ℕ) → factorial_of m ≤ factorial_of (k + m)
grows_by zero m = rw zero-add (omega arith)
grows_by (suc k) m = rw (suc-add k m) (le_trans (grows_by k m) (one_more (k + m)))

pub factorials_grow : (m n : ℕ) → m ≤ n → factorial_of m ≤ factorial_of n
factorials_grow m n h =
    let e : n - m + m ≡ n = omega arith in
    rw e at (grows_by (n - m) m)

-- how many factorials are literals: 0! to 18!
abbrev pub literal_factorials : ℕ
literal_factorials = 19

pub literal_below : (n : ℕ) → n < literal_factorials → factorial_of n ≤ greatest
unfolding factorial_of
literal_below n h = le_trans (factorials_grow n (literal_factorials - 1) (omega arith)) (leb→le (factorial_of (literal_factorials - 1)) greatest tt)

pub no_literal_from : (n : ℕ) → literal_factorials ≤ n → greatest < factorial_of n
unfolding factorial_of
no_literal_from n h = omega (arith, ltb→lt greatest (factorial_of literal_factorials) tt, factorials_grow literal_factorials n h)

pub literal_is_below_nineteen : (n : ℕ) → factorial_of n ≤ greatest → n < literal_factorials
literal_is_below_nineteen n small = go (leb literal_factorials n) refl
  where
    go : (t : Bool) → leb literal_factorials n ≡ t → n < literal_factorials
    go true e = omega (arith, small, no_literal_from n (leb-true literal_factorials n e))
    go false e = leb-false literal_factorials n e
