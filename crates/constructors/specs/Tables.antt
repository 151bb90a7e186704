-- The rules of the constructors of `SymGenFunKind` in src/symbolic.rs, arm by arm in the Rust's order. `at i` is the node behind the number i.
-- Assumes nothing.
use Rattle.std.specs.Prelude.{ℕ, ◌+◌, eqb, ℤ, pos, negsuc, ◌+ℤ◌, ◌*ℤ◌}
use Rattle.literal.specs.Literal.{is_zero, is_one}
use Rattle.pool.specs.declared.node.Node.{Node}
use Rattle.constructors.specs.Patterns.{lit_in, add_in, mul_in, exp_in, pow_in}
use Rattle.constructors.specs.Terms.{Term, #, lit, lit_exp, lit_log, add, mul, exp, log, pow, Add, Mul, Div, Max, Exp, Log, Pow, Arm, return, ◌>>=◌, ◌>>◌, ◌&◌, swap, ◌or◌, inside, ◌then◌}

module _ (at : ℕ → Node) where
  abbrev pub lit? : ℕ → Arm ℤ
  lit? i = lit_in (at i)

  abbrev pub add? : ℕ → Arm (ℕ × ℕ)
  add? i = add_in (at i)

  abbrev pub mul? : ℕ → Arm (ℕ × ℕ)
  mul? i = mul_in (at i)

  abbrev pub exp? : ℕ → Arm ℕ
  exp? i = exp_in (at i)

  abbrev pub pow? : ℕ → Arm (ℕ × ℕ)
  pow? i = pow_in (at i)

  -- ---- fn add(lhs, rhs): match (lhs, rhs)
  unfoldable pub add_arms : ℕ → ℕ → Arm Term
  add_arms lhs rhs =
      -- (Lit(a), _) if a.is_zero() => return rhs
      (do
        a ← lit? lhs
        is_zero a
        return (# rhs))
      -- (_, Lit(b)) if b.is_zero() => return lhs
      or (do
        b ← lit? rhs
        is_zero b
        return (# lhs))
      -- (Lit(a), Lit(b)) => return lit(a + b)
      or (do
        (a, b) ← lit? lhs & lit? rhs
        return (lit (a +ℤ b)))
      -- (Lit(l), Add(b, a)) => match a { Lit(a) => return add(b, lit(l + a)), _ => return Add(rhs, lhs) }
      or (do
        (l, (b, a)) ← lit? lhs & add? rhs
        (do
          a ← lit? a
          return (add (# b) (lit (l +ℤ a)))) or return (Add (# rhs) (# lhs)))
      -- (Add(a, b), Lit(l)) => match a { Lit(a) => return add(b, lit(l + a)), _ => return Add(lhs, rhs) }
      or (do
        ((a, b), l) ← add? lhs & lit? rhs
        (do
          a ← lit? a
          return (add (# b) (lit (l +ℤ a)))) or return (Add (# lhs) (# rhs)))
      -- (Add(a, b), Add(c, d)) => match (b, d) {
      or (do
        ((a, b), (c, d)) ← add? lhs & add? rhs
        inside (
            -- (Lit(b), Lit(d)) => return add(add(a, c), lit(b + d))
            (do
              (b, d) ← lit? b & lit? d
              return (add (add (# a) (# c)) (lit (b +ℤ d))))
            -- (Lit(_), _) => return add(add(a, rhs), b)
            or (do
              _ ← lit? b
              return (add (add (# a) (# rhs)) (# b)))
            -- (_, Lit(_)) => return add(add(lhs, c), d)
            or (do
              _ ← lit? d
              return (add (add (# lhs) (# c)) (# d)))))

  abbrev pub add_table : ℕ → ℕ → Term
  add_table lhs rhs = add_arms lhs rhs then Add (# lhs) (# rhs)

  -- ---- fn mul(lhs, rhs): literal simplifications
  unfoldable pub mul_lits : ℕ → ℕ → Arm Term
  mul_lits lhs rhs =
      -- (Lit(a), _) if a.is_zero() => return zero()
      (do
        a ← lit? lhs
        is_zero a
        return (lit (pos 0)))
      -- (_, Lit(b)) if b.is_zero() => return zero()
      or (do
        b ← lit? rhs
        is_zero b
        return (lit (pos 0)))
      -- (Lit(a), _) if a.is_one() => return rhs
      or (do
        a ← lit? lhs
        is_one a
        return (# rhs))
      -- (_, Lit(b)) if b.is_one() => return lhs
      or (do
        b ← lit? rhs
        is_one b
        return (# lhs))
      -- (Exp(a), Exp(b)) => return exp(add(a, b))
      or (do
        (a, b) ← exp? lhs & exp? rhs
        return (exp (add (# a) (# b))))
      -- (Lit(a), Lit(b)) => return lit(a * b)
      or (do
        (a, b) ← lit? lhs & lit? rhs
        return (lit (a *ℤ b)))
      -- (Lit(a), Mul(b1, b2)) | (Mul(b1, b2), Lit(a)) => if let Lit(b1) = b1 { return Mul(lit(a * b1), b2) }
      or (do
        (a, (b1, b2)) ← (lit? lhs & mul? rhs) or swap (mul? lhs & lit? rhs)
        inside (do
          b1 ← lit? b1
          return (Mul (lit (a *ℤ b1)) (# b2))))

  -- ---- fn mul: exp simplifications
  unfoldable pub mul_exps : ℕ → ℕ → Arm Term
  mul_exps lhs rhs =
      -- (Mul(a1, a2), Exp(b)) | (Exp(b), Mul(a1, a2)) => {
      (do
        ((a1, a2), b) ← (mul? lhs & exp? rhs) or swap (exp? lhs & mul? rhs)
        inside (
            -- if let Exp(a2) = a2 { return mul(a1, exp(add(a2, b))) }
            (do
              a2 ← exp? a2
              return (mul (# a1) (exp (add (# a2) (# b)))))
            -- if let Exp(a1) = a1 { return mul(a2, exp(add(a1, b))) }
            or (do
              a1 ← exp? a1
              return (mul (# a2) (exp (add (# a1) (# b)))))))
      -- (Mul(a1, a2), Mul(b1, b2)) => match (a1, a2, b1, b2) {
      or (do
        ((a1, a2), (b1, b2)) ← mul? lhs & mul? rhs
        inside (
            -- (Exp(a1), _, Exp(b1), _) => return mul(mul(a2, b2), exp(add(a1, b1)))
            (do
              (x, y) ← exp? a1 & exp? b1
              return (mul (mul (# a2) (# b2)) (exp (add (# x) (# y)))))
            -- (Exp(a1), _, _, Exp(b2)) => return mul(mul(a2, b1), exp(add(a1, b2)))
            or (do
              (x, y) ← exp? a1 & exp? b2
              return (mul (mul (# a2) (# b1)) (exp (add (# x) (# y)))))
            -- (_, Exp(a2), Exp(b1), _) => return mul(mul(a1, b2), exp(add(a2, b1)))
            or (do
              (x, y) ← exp? a2 & exp? b1
              return (mul (mul (# a1) (# b2)) (exp (add (# x) (# y)))))
            -- (_, Exp(a2), _, Exp(b2)) => return mul(mul(a1, b1), exp(add(a2, b2)))
            or (do
              (x, y) ← exp? a2 & exp? b2
              return (mul (mul (# a1) (# b1)) (exp (add (# x) (# y)))))))

  -- ---- fn mul: moving literals left
  unfoldable pub mul_left : ℕ → ℕ → Arm Term
  mul_left lhs rhs =
      -- (Mul(a1, a2), Mul(b1, b2)) => if let (Lit(a1), Lit(b1)) = (a1, b1) { return Mul(lit(a1 * b1), mul(a2, b2)) }
      (do
        ((a1, a2), (b1, b2)) ← mul? lhs & mul? rhs
        inside (do
          (x, y) ← lit? a1 & lit? b1
          return (Mul (lit (x *ℤ y)) (mul (# a2) (# b2)))))
      -- (Mul(a1, a2), _) => if let Lit(_) = a1 { return Mul(a1, mul(a2, rhs)) }
      or (do
        (a1, a2) ← mul? lhs
        inside (do
          _ ← lit? a1
          return (Mul (# a1) (mul (# a2) (# rhs)))))
      -- (_, Mul(b1, b2)) => if let Lit(_) = b1 { return Mul(b1, mul(b2, lhs)) }
      or (do
        (b1, b2) ← mul? rhs
        inside (do
          _ ← lit? b1
          return (Mul (# b1) (mul (# b2) (# lhs)))))

  -- ---- fn mul: pow simplifications; `same_ref` is equality of numbers
  unfoldable pub mul_pows : ℕ → ℕ → Arm Term
  mul_pows lhs rhs =
      -- (Mul(a1, a2), _) if same_ref(a2, rhs) => return mul(a1, pow(a2, 2))
      (do
        (a1, a2) ← mul? lhs
        eqb a2 rhs
        return (mul (# a1) (pow (# a2) 2)))
      -- (Mul(a1, a2), Pow(b, n)) if same_ref(a2, b) => return mul(a1, pow(a2, n + 1))
      or (do
        ((a1, a2), (b, n)) ← mul? lhs & pow? rhs
        eqb a2 b
        return (mul (# a1) (pow (# a2) (n + 1))))
      -- (Mul(a1, a2), Pow(b, exp2)) => if let Pow(a21, exp1) = a2 { if same_ref(a21, b) { return mul(a1, pow(a21, exp1 + exp2)) } }
      or (do
        ((a1, a2), (b, exp2)) ← mul? lhs & pow? rhs
        inside (do
          (a21, exp1) ← pow? a2
          eqb a21 b
          return (mul (# a1) (pow (# a21) (exp1 + exp2)))))

  -- ---- fn mul: the last statements
  unfoldable pub mul_last : ℕ → ℕ → Arm Term
  mul_last lhs rhs =
      -- if let Lit(_) = rhs { return Mul(rhs, lhs) }
      (do
        _ ← lit? rhs
        return (Mul (# rhs) (# lhs)))

  abbrev pub mul_table : ℕ → ℕ → Term
  mul_table lhs rhs =
      mul_lits lhs rhs
      then mul_exps lhs rhs
      then mul_left lhs rhs
      then mul_pows lhs rhs
      then mul_last lhs rhs
      then Mul (# lhs) (# rhs)

  -- ---- fn div(lhs, rhs): match (lhs, rhs)
  unfoldable pub div_table : ℕ → ℕ → Term
  div_table lhs rhs =
      -- (Lit(a), _) if a.is_zero() => zero()
      (do
        a ← lit? lhs
        is_zero a
        return (lit (pos 0)))
      -- (_, Lit(b)) if b.is_one() => lhs
      or (do
        b ← lit? rhs
        is_one b
        return (# lhs))
      -- _ => Div(lhs, rhs)
      then Div (# lhs) (# rhs)

  -- ---- fn neg(arg): mul(lit(-1), arg)
  abbrev pub neg_table : ℕ → Term
  neg_table arg = mul (lit (negsuc 0)) (# arg)

  -- ---- fn exp(arg): match arg
  unfoldable pub exp_arms : ℕ → Arm Term
  exp_arms arg =
      -- Lit(a) if a.is_zero() => return one()
      (do
        a ← lit? arg
        is_zero a
        return (lit (pos 1)))
      -- Lit(a) => return lit(a.exp())
      or (do
        a ← lit? arg
        return (lit_exp a))
      -- Add(a, b) => if let Lit(b) = b { return mul(lit(b.exp()), exp(a)) }
      or (do
        (a, b) ← add? arg
        inside (do
          b ← lit? b
          return (mul (lit_exp b) (exp (# a)))))

  abbrev pub exp_table : ℕ → Term
  exp_table arg = exp_arms arg then Exp (# arg)

  -- ---- fn log(arg): match arg
  unfoldable pub log_arms : ℕ → Arm Term
  log_arms arg =
      -- Lit(a) if a.is_one() => return zero()
      (do
        a ← lit? arg
        is_one a
        return (lit (pos 0)))
      -- Lit(a) => return lit(a.log())
      or (do
        a ← lit? arg
        return (lit_log a))
      -- Mul(a, b) => if let Lit(a) = a { return add(log(b), lit(a.log())) }
      or (do
        (a, b) ← mul? arg
        inside (do
          a ← lit? a
          return (add (log (# b)) (lit_log a))))

  abbrev pub log_table : ℕ → Term
  log_table arg = log_arms arg then Log (# arg)

  -- ---- fn pow(base, exp)
  unfoldable pub pow_table : ℕ → ℕ → Term
  pow_table base e =
      -- if exp == 0 { one() }
      (do
        eqb e 0
        return (lit (pos 1)))
      -- else if exp == 1 { base }
      or (do
        eqb e 1
        return (# base))
      -- else match base { Lit(a) if a.is_zero() => zero()
      or (do
        a ← lit? base
        is_zero a
        return (lit (pos 0)))
      -- Lit(a) if a.is_one() => one()
      or (do
        a ← lit? base
        is_one a
        return (lit (pos 1)))
      -- _ => Pow(base, exp) }
      then Pow (# base) e

  -- ---- fn max(lhs, rhs): Max(lhs, rhs)
  abbrev pub max_table : ℕ → ℕ → Term
  max_table lhs rhs = Max (# lhs) (# rhs)
