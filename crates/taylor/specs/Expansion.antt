-- `TaylorExpansion` of src/univariate_taylor.rs: its operations in the Rust's order of evaluation, its literals appended where the Rust appends them.
-- Assumes nothing.
use Rattle.std.specs.Prelude.{cond, List, [], ◌∷◌, reverse, ℕ, zero, suc, ◌-◌, ◌/◌, ◌%◌, ◌^◌, min, eqb, length, replicate}
use Rattle.refusals.specs.Refusals.{max_reached}
pub use Rattle.taylor.specs.Coefficients.{greatest_order}
use Rattle.taylor.specs.declared.expansion.Expansion as coded
use Rattle.taylor.specs.declared.expansion.Expansion.TheVariants.{Constant, Polynomial}
use Rattle.taylor.specs.Work.{Work, ◌>>=◌, yield, refuse, from, zero_lit, one_lit, add, mul, div, neg, sub, exp, log, max, at, each, each_two, fold, fill}

-- "An expansion is a constant, or a list of 1 to 25 node numbers, coefficient 0 first." The code's type has these two cases:
--   Constant c: the constant, which is the node number c
--   Polynomial cs: the list cs of coefficients; that it has 1 to 25 of them is kept by the code's type of lists
abbrev pub Expansion : Type 0
Expansion = coded.Expansion

abbrev pub polynomial : Work (List ℕ) → Work Expansion
polynomial work = do
  cs ← work
  yield (Polynomial cs)

abbrev pub constant : Work ℕ → Work Expansion
constant work = do
  c ← work
  yield (Constant c)

-- the list with another coefficient 0: `coeffs[0] += ..`
abbrev pub first : (ℕ → Work ℕ) → List ℕ → Work (List ℕ)
first f [] = yield []
first f (c ∷ cs) = do
  r ← f c
  yield (r ∷ cs)

-- fn var(x, order): [zero; order + 1], coefficient 1 a one if there is room for it, coefficient 0 the point
abbrev pub var_coeffs : ℕ → ℕ → Work (List ℕ)
var_coeffs x zero = do
  z ← zero_lit
  yield (x ∷ [])
var_coeffs x (suc n) = do
  z ← zero_lit
  o ← one_lit
  yield (x ∷ o ∷ replicate n z)

abbrev pub var : ℕ → ℕ → Work Expansion
var x order = polynomial (var_coeffs x order)

-- fn coeff(order)
abbrev pub coeff : Expansion → ℕ → Work ℕ
coeff (Polynomial cs) k = yield (at cs k)
coeff (Constant c) zero = yield c
coeff (Constant c) (suc k) = zero_lit

-- fn order(): usize::MAX of a constant
abbrev pub endless : ℕ
endless = 2 ^ 64 - 1

abbrev pub order : Expansion → ℕ
order (Polynomial cs) = length cs
order (Constant c) = endless

-- fn derivative(order): (1..=order).fold(one, |acc, i| acc * T::from(i)) * coeffs[order]
abbrev pub derivative : Expansion → ℕ → Work ℕ
derivative (Polynomial cs) k = do
  one ← one_lit
  factorial ← fold (λ acc i. from i >>= (λ n. mul acc n)) 1 k one
  mul factorial (at cs k)
derivative (Constant c) zero = yield c
derivative (Constant c) (suc k) = zero_lit

-- ---- add_assign
abbrev pub add_to : Expansion → Expansion → Work Expansion
-- rhs is a constant: *lhs += rhs, coeffs[0] += rhs
add_to (Constant l) (Constant r) = constant (add l r)
add_to (Polynomial cs) (Constant r) = polynomial (first (λ c. add c r) cs)
-- rhs is a list: ws[0] += c, ws[i] += us[i]
add_to (Constant c) (Polynomial ws) = polynomial (first (λ w. add w c) ws)
add_to (Polynomial us) (Polynomial ws) = polynomial (each_two (λ u w. add w u) us ws)

-- ---- neg
abbrev pub negate : Expansion → Work Expansion
negate (Constant c) = constant (neg c)
negate (Polynomial cs) = polynomial (each neg cs)

-- ---- sub_assign
abbrev pub sub_from : Expansion → Expansion → Work Expansion
-- *lhs -= rhs, coeffs[0] -= rhs
sub_from (Constant l) (Constant r) = constant (sub l r)
sub_from (Polynomial cs) (Constant r) = polynomial (first (λ c. sub c r) cs)
-- ws[i] = -ws[i] for all, then ws[0] += c
sub_from (Constant c) (Polynomial ws) = polynomial (each neg ws >>= first (λ w. add w c))
-- ws[i] = us[i] - ws[i]
sub_from (Polynomial us) (Polynomial ws) = polynomial (each_two (λ u w. sub u w) us ws)

-- ---- mul: coefficient k is (0..=k).fold(zero, |sum, j| sum + us[j] * ws[k - j])
abbrev pub product_term : List ℕ → List ℕ → ℕ → ℕ → ℕ → Work ℕ
product_term us ws k sum j = do
  t ← mul (at us j) (at ws (k - j))
  add sum t

abbrev pub product_at : List ℕ → List ℕ → ℕ → List ℕ → ℕ → Work ℕ
product_at us ws z res k = fold (product_term us ws k) 0 (suc k) z

unfoldable pub times : Expansion → Expansion → Work Expansion
times (Constant l) (Constant r) = constant (mul l r)
-- (Constant(c), Polynomial) | (Polynomial, Constant(c)): *coeff *= c
times (Constant c) (Polynomial ws) = polynomial (each (λ w. mul w c) ws)
times (Polynomial us) (Constant c) = polynomial (each (λ u. mul u c) us)
times (Polynomial us) (Polynomial ws) =
    polynomial (zero_lit >>= (λ z. fill (product_at us ws z) (min (length us) (length ws)) []))

-- ---- div: coefficient k is scale * (0..k).fold(start, |sum, i| sum - result[i] * ws[k - i])
abbrev pub quotient_term : List ℕ → List ℕ → ℕ → ℕ → ℕ → Work ℕ
quotient_term res ws k sum i = do
  t ← mul (at res i) (at ws (k - i))
  sub sum t

abbrev pub quotient_at : (ℕ → ℕ) → List ℕ → ℕ → List ℕ → ℕ → Work ℕ
quotient_at start ws scale res k = do
  s ← fold (quotient_term res ws k) 0 k (start k)
  mul scale s

abbrev pub quotient : Expansion → Expansion → Work Expansion
quotient (Constant l) (Constant r) = constant (div l r)
-- *coeff /= c
quotient (Polynomial us) (Constant c) = polynomial (each (λ u. div u c) us)
-- zero; scale = one / ws[0]; result[0] = c * scale
quotient (Constant c) (Polynomial ws) = polynomial (do
  z ← zero_lit
  o ← one_lit
  scale ← div o (at ws 0)
  r ← mul c scale
  fill (quotient_at (λ k. z) ws scale) (length ws - 1) (r ∷ []))
-- zero; scale = one / ws[0]; result[0] = scale * us[0]
quotient (Polynomial us) (Polynomial ws) = polynomial (do
  z ← zero_lit
  o ← one_lit
  scale ← div o (at ws 0)
  r ← mul scale (at us 0)
  fill (quotient_at (λ k. at us k) ws scale) (min (length us) (length ws) - 1) (r ∷ []))

-- ---- exp: (1..=k).fold(zero, |sum, j| sum + res[k - j] * coeffs[j] * T::from(j)) / T::from(k)
abbrev pub exp_term : List ℕ → List ℕ → ℕ → ℕ → ℕ → Work ℕ
exp_term res us k sum j = do
  p ← mul (at res (k - j)) (at us j)
  n ← from j
  t ← mul p n
  add sum t

abbrev pub exp_at : List ℕ → ℕ → List ℕ → ℕ → Work ℕ
exp_at us z res k = do
  s ← fold (exp_term res us k) 1 k z
  n ← from k
  div s n

abbrev pub exponential : Expansion → Work Expansion
exponential (Constant c) = constant (exp c)
exponential (Polynomial us) = polynomial (do
  z ← zero_lit
  r ← exp (at us 0)
  fill (exp_at us z) (length us - 1) (r ∷ []))

-- ---- log: (coeffs[k] * T::from(k) - (1..k).fold(zero, |sum, j| sum + coeffs[k - j] * res[j] * T::from(j))) / coeffs[0] / T::from(k)
abbrev pub log_term : List ℕ → List ℕ → ℕ → ℕ → ℕ → Work ℕ
log_term res us k sum j = do
  p ← mul (at us (k - j)) (at res j)
  n ← from j
  t ← mul p n
  add sum t

abbrev pub log_at : List ℕ → ℕ → List ℕ → ℕ → Work ℕ
log_at us z res k = do
  s ← fold (log_term res us k) 1 (k - 1) z
  n ← from k
  p ← mul (at us k) n
  d ← sub p s
  q ← div d (at us 0)
  m ← from k
  div q m

abbrev pub logarithm : Expansion → Work Expansion
logarithm (Constant c) = constant (log c)
logarithm (Polynomial us) = polynomial (do
  z ← zero_lit
  r ← log (at us 0)
  fill (log_at us z) (length us - 1) (r ∷ []))

-- ---- pow: while exp > 0 { if exp & 1 == 1 { res *= base }; base *= base; exp >>= 1 }, without "the square after the exponent's highest one bit"
unfoldable pub pow_from : ℕ → ℕ → Expansion → Expansion → Work Expansion
pow_from zero e res base = yield res
pow_from (suc k) e res base = do
  res2 ← cond (eqb (e % 2) 1) (times res base) (yield res)
  cond (eqb (e / 2) 0) (yield res2) (times base base >>= (λ base2. pow_from k (e / 2) res2 base2))

-- how many bits an exponent has
abbrev pub digits : ℕ
digits = 32

-- res starts as the constant one
abbrev pub power : Expansion → ℕ → Work Expansion
power base e = do
  o ← one_lit
  pow_from digits e (Constant o) base

-- ---- max: of two constants, else 10
abbrev pub maximum : Expansion → Expansion → Work Expansion
maximum (Constant a) (Constant b) = constant (max a b)
maximum (Constant a) (Polynomial ws) = refuse max_reached
maximum (Polynomial us) (Constant b) = refuse max_reached
maximum (Polynomial us) (Polynomial ws) = refuse max_reached

-- ---- subst, by Horner's method: res = zero(); for c in coeffs.rev() { res = res * subst + Constant(c) }
unfoldable pub horner : Expansion → List ℕ → Expansion → Work Expansion
horner inner [] res = yield res
horner inner (c ∷ cs) res = do
  p ← times res inner
  s ← add_to p (Constant c)
  horner inner cs s

abbrev pub subst : Expansion → Expansion → Work Expansion
subst (Constant c) inner = yield (Constant c)
subst (Polynomial cs) inner = do
  z ← zero_lit
  horner inner (reverse cs) (Constant z)
