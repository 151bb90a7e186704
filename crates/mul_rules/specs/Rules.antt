-- What the classifier of `mul` answers: each answer is a right side of the table. Below them stand the insides of its arms, each where one function of the code decides.
-- Assumes nothing.
use Rattle.std.specs.Prelude.{Option, Some, None, ℕ, ◌+◌, eqb, ℤ, pos, ◌*ℤ◌}
use Rattle.literal.specs.Literal.{is_zero, is_one}
use Rattle.pool.specs.declared.node.Node.{Node}
use Rattle.constructors.specs.Terms.{Term, #, lit, add, mul, exp, pow, Mul, Arm, leave, return, ◌>>=◌, ◌>>◌, ◌&◌, ◌or◌, inside}
use Rattle.constructors.specs.Tables.{lit?, mul?, exp?, pow?}
use Rattle.mul_rules.specs.declared.rule.MulRule.{MulRule}
use Rattle.mul_rules.specs.declared.rule.MulRule.TheVariants as rule

-- the term that an answer stands for
abbrev pub mul_term : MulRule → Term
mul_term rule.Zero = lit (pos 0)
mul_term (rule.Same a) = # a
mul_term (rule.ExpSum a b) = exp (add (# a) (# b))
mul_term (rule.Product a b) = lit (a *ℤ b)
mul_term (rule.Scaled a b c) = Mul (lit (a *ℤ b)) (# c)
mul_term (rule.OverExp x a b) = mul (# x) (exp (add (# a) (# b)))
mul_term (rule.OverExps x y a b) = mul (mul (# x) (# y)) (exp (add (# a) (# b)))
mul_term (rule.Scales a b c d) = Mul (lit (a *ℤ b)) (mul (# c) (# d))
mul_term (rule.Under a b c) = Mul (# a) (mul (# b) (# c))
mul_term (rule.Power a b e₁ e₂) = mul (# a) (pow (# b) (e₁ + e₂))
mul_term (rule.Plain a b) = Mul (# a) (# b)

-- one `match` of the Rust: it returns a rule, or the next statement is reached
abbrev pub arm_of : Option MulRule → Arm Term
arm_of (Some r) = return (mul_term r)
arm_of None = leave

-- (Lit(a), Lit(b))
unfoldable pub two_lits : ℤ → ℤ → ℕ → ℕ → Arm Term
two_lits a b lhs rhs =
    (do
      is_zero a
      return (lit (pos 0)))
    or (do
      is_zero b
      return (lit (pos 0)))
    or (do
      is_one a
      return (# rhs))
    or (do
      is_one b
      return (# lhs))
    or return (lit (a *ℤ b))

module _ (at : ℕ → Node) where
  -- (Lit(a), other) or (other, Lit(a)), where the other factor is no literal
  unfoldable pub one_lit : ℤ → ℕ → Arm Term
  one_lit a other =
      (do
        is_zero a
        return (lit (pos 0)))
      or (do
        is_one a
        return (# other))
      or (do
        (b1, b2) ← mul? at other
        inside (do
          b1 ← lit? at b1
          return (Mul (lit (a *ℤ b1)) (# b2))))

  -- (Mul(a1, a2), Exp(b)) or (Exp(b), Mul(a1, a2))
  unfoldable pub one_exp : ℕ → ℕ → ℕ → Arm Term
  one_exp a1 a2 b =
      (do
        a2 ← exp? at a2
        return (mul (# a1) (exp (add (# a2) (# b)))))
      or (do
        a1 ← exp? at a1
        return (mul (# a2) (exp (add (# a1) (# b)))))

  -- (Mul(a1, a2), Mul(b1, b2)), the exps
  unfoldable pub two_exps : ℕ → ℕ → ℕ → ℕ → Arm Term
  two_exps a1 a2 b1 b2 =
      (do
        (x, y) ← exp? at a1 & exp? at b1
        return (mul (mul (# a2) (# b2)) (exp (add (# x) (# y)))))
      or (do
        (x, y) ← exp? at a1 & exp? at b2
        return (mul (mul (# a2) (# b1)) (exp (add (# x) (# y)))))
      or (do
        (x, y) ← exp? at a2 & exp? at b1
        return (mul (mul (# a1) (# b2)) (exp (add (# x) (# y)))))
      or (do
        (x, y) ← exp? at a2 & exp? at b2
        return (mul (mul (# a1) (# b1)) (exp (add (# x) (# y)))))

  -- (Mul(a1, a2), Mul(b1, b2)), the literals
  unfoldable pub lits_ahead : ℕ → ℕ → ℕ → ℕ → Arm Term
  lits_ahead a1 a2 b1 b2 = do
    (x, y) ← lit? at a1 & lit? at b1
    return (Mul (lit (x *ℤ y)) (mul (# a2) (# b2)))

  -- (Mul(a1, a2), other) or (other, Mul(a1, a2)), where the other factor is no product
  unfoldable pub lit_ahead : ℕ → ℕ → ℕ → Arm Term
  lit_ahead a1 a2 other = do
    _ ← lit? at a1
    return (Mul (# a1) (mul (# a2) (# other)))

  -- (Mul(a1, a2), Pow(b, n))
  unfoldable pub two_pows : ℕ → ℕ → ℕ → ℕ → Arm Term
  two_pows a1 a2 b n =
      (do
        eqb a2 b
        return (mul (# a1) (pow (# a2) (n + 1))))
      or (do
        (a21, exp1) ← pow? at a2
        eqb a21 b
        return (mul (# a1) (pow (# a21) (exp1 + n))))
