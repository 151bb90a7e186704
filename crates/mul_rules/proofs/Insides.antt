-- The insides of the table's arms, at each of the code's answers.
-- Assumes nothing.
use mathlib.Core.Path.{◌≡◌, refl}
use mathlib.Core.Bool.{true, false}
use mathlib.Core.Logic.{◌≢◌}
use Prim.Native.Nat.{ℕ, ◌+◌}
use lib.IntN.{ℤ, pos, ◌*ℤ◌}
use borrow.Author.Tests.{eq-eqb, ne_eqb}
use Rattle.literal.specs.Literal.{is_zero, is_one}
use Rattle.pool.specs.declared.node.Node.{Node}
use Rattle.pool.specs.declared.node.Node.TheVariants as node
use Rattle.constructors.specs.Terms.{#, lit, add, mul, exp, pow, Mul, Arm, skip, leave, return, inside}
use Rattle.constructors.specs.Patterns.{lit_in, mul_in, exp_in, pow_in}
use Rattle.mul_rules.specs.Rules.{two_lits, one_lit, one_exp, two_exps, lits_ahead, lit_ahead, two_pows}

module _ (a b : ℤ) (lhs rhs : ℕ) where
  pub left_zero : is_zero a ≡ true → return (lit (pos 0)) ≡ inside (two_lits a b lhs rhs)
  unfolding two_lits
  left_zero p = simp p

  pub right_zero : is_zero a ≡ false → is_zero b ≡ true → return (lit (pos 0)) ≡ inside (two_lits a b lhs rhs)
  unfolding two_lits
  right_zero p q = simp (p, q)

  pub left_one : is_zero a ≡ false → is_zero b ≡ false → is_one a ≡ true → return (# rhs) ≡ inside (two_lits a b lhs rhs)
  unfolding two_lits
  left_one p q l = simp (p, q, l)

  pub right_one : is_zero a ≡ false → is_zero b ≡ false → is_one a ≡ false → is_one b ≡ true → return (# lhs) ≡ inside (two_lits a b lhs rhs)
  unfolding two_lits
  right_one p q l r = simp (p, q, l, r)

  pub both_others : is_zero a ≡ false → is_zero b ≡ false → is_one a ≡ false → is_one b ≡ false → return (lit (a *ℤ b)) ≡ inside (two_lits a b lhs rhs)
  unfolding two_lits
  both_others p q l r = simp (p, q, l, r)

module _ (at : ℕ → Node) where
  module _ (a : ℤ) (other : ℕ) where
    pub times_zero : is_zero a ≡ true → return (lit (pos 0)) ≡ inside (one_lit at a other)
    unfolding one_lit
    times_zero p = simp p

    pub times_one : is_zero a ≡ false → is_one a ≡ true → return (# other) ≡ inside (one_lit at a other)
    unfolding one_lit
    times_one p q = simp (p, q)

    pub no_product : is_zero a ≡ false → is_one a ≡ false → mul_in (at other) ≡ skip → leave ≡ inside (one_lit at a other)
    unfolding one_lit
    no_product p q m = simp (p, q, m)

    pub no_factor : {b1 b2 : ℕ} → is_zero a ≡ false → is_one a ≡ false → at other ≡ node.Mul b1 b2 → lit_in (at b1) ≡ skip → leave ≡ inside (one_lit at a other)
    unfolding one_lit
    no_factor p q m z = simp (p, q, m, z)

    pub scaled : {b1 b2 : ℕ} {b : ℤ} → is_zero a ≡ false → is_one a ≡ false → at other ≡ node.Mul b1 b2 → lit_in (at b1) ≡ return b → return (Mul (lit (a *ℤ b)) (# b2)) ≡ inside (one_lit at a other)
    unfolding one_lit
    scaled p q m z = simp (p, q, m, z)

  module _ (a1 a2 b : ℕ) where
    pub second_exp : {x : ℕ} → exp_in (at a2) ≡ return x → return (mul (# a1) (exp (add (# x) (# b)))) ≡ inside (one_exp at a1 a2 b)
    unfolding one_exp
    second_exp p = simp p

    pub first_exp : {x : ℕ} → exp_in (at a2) ≡ skip → exp_in (at a1) ≡ return x → return (mul (# a2) (exp (add (# x) (# b)))) ≡ inside (one_exp at a1 a2 b)
    unfolding one_exp
    first_exp p q = simp (p, q)

    pub no_exp : exp_in (at a2) ≡ skip → exp_in (at a1) ≡ skip → leave ≡ inside (one_exp at a1 a2 b)
    unfolding one_exp
    no_exp p q = simp (p, q)

  module _ (a1 a2 b1 b2 : ℕ) where
    pub exp_1_1 : {x y : ℕ} → exp_in (at a1) ≡ return x → exp_in (at b1) ≡ return y → return (mul (mul (# a2) (# b2)) (exp (add (# x) (# y)))) ≡ inside (two_exps at a1 a2 b1 b2)
    unfolding two_exps
    exp_1_1 p r = simp (p, r)

    pub exp_1_2 : {x y : ℕ} → exp_in (at a1) ≡ return x → exp_in (at b1) ≡ skip → exp_in (at b2) ≡ return y → return (mul (mul (# a2) (# b1)) (exp (add (# x) (# y)))) ≡ inside (two_exps at a1 a2 b1 b2)
    unfolding two_exps
    exp_1_2 p r s = simp (p, r, s)

    pub exp_2_1 : {x y : ℕ} → exp_in (at a1) ≡ skip → exp_in (at a2) ≡ return x → exp_in (at b1) ≡ return y → return (mul (mul (# a1) (# b2)) (exp (add (# x) (# y)))) ≡ inside (two_exps at a1 a2 b1 b2)
    unfolding two_exps
    exp_2_1 p q r = simp (p, q, r)

    pub exp_2_2 : {x y : ℕ} → exp_in (at a1) ≡ skip → exp_in (at a2) ≡ return x → exp_in (at b1) ≡ skip → exp_in (at b2) ≡ return y → return (mul (mul (# a1) (# b1)) (exp (add (# x) (# y)))) ≡ inside (two_exps at a1 a2 b1 b2)
    unfolding two_exps
    exp_2_2 p q r s = simp (p, q, r, s)

    pub no_left_exp : exp_in (at a1) ≡ skip → exp_in (at a2) ≡ skip → leave ≡ inside (two_exps at a1 a2 b1 b2)
    unfolding two_exps
    no_left_exp p q = simp (p, q)

    any_no_exp : (x y : Arm ℕ) → exp_in (at a1) ≡ x → exp_in (at a2) ≡ y → exp_in (at b1) ≡ skip → exp_in (at b2) ≡ skip → leave ≡ inside (two_exps at a1 a2 b1 b2)
    unfolding two_exps
    any_no_exp skip skip p q r s = simp (p, q, r, s)
    any_no_exp skip leave p q r s = simp (p, q, r, s)
    any_no_exp skip (return y) p q r s = simp (p, q, r, s)
    any_no_exp leave y p q r s = simp (p, q, r, s)
    any_no_exp (return x) skip p q r s = simp (p, q, r, s)
    any_no_exp (return x) leave p q r s = simp (p, q, r, s)
    any_no_exp (return x) (return y) p q r s = simp (p, q, r, s)

    pub no_right_exp : exp_in (at b1) ≡ skip → exp_in (at b2) ≡ skip → leave ≡ inside (two_exps at a1 a2 b1 b2)
    no_right_exp r s = any_no_exp (exp_in (at a1)) (exp_in (at a2)) refl refl r s

    pub left_not : lit_in (at a1) ≡ skip → leave ≡ inside (lits_ahead at a1 a2 b1 b2)
    unfolding lits_ahead
    left_not p = simp p

    pub right_not : {x : ℤ} → lit_in (at a1) ≡ return x → lit_in (at b1) ≡ skip → leave ≡ inside (lits_ahead at a1 a2 b1 b2)
    unfolding lits_ahead
    right_not p r = simp (p, r)

    pub both_ahead : {x y : ℤ} → lit_in (at a1) ≡ return x → lit_in (at b1) ≡ return y → return (Mul (lit (x *ℤ y)) (mul (# a2) (# b2))) ≡ inside (lits_ahead at a1 a2 b1 b2)
    unfolding lits_ahead
    both_ahead p r = simp (p, r)

  module _ (a1 a2 other : ℕ) where
    pub none_ahead : lit_in (at a1) ≡ skip → leave ≡ inside (lit_ahead at a1 a2 other)
    unfolding lit_ahead
    none_ahead p = simp p

    pub one_ahead : {x : ℤ} → lit_in (at a1) ≡ return x → return (Mul (# a1) (mul (# a2) (# other))) ≡ inside (lit_ahead at a1 a2 other)
    unfolding lit_ahead
    one_ahead p = simp p

  module _ (a1 a2 b n : ℕ) where
    pub same_base : a2 ≡ b → return (mul (# a1) (pow (# a2) (n + 1))) ≡ inside (two_pows at a1 a2 b n)
    unfolding two_pows
    same_base e = simp (eq-eqb a2 b e)

    module _ (e : a2 ≢ b) where
      pub no_base : pow_in (at a2) ≡ skip → leave ≡ inside (two_pows at a1 a2 b n)
      unfolding two_pows
      no_base p = simp (ne_eqb a2 b e, p)

      pub both_pows : {a21 exp1 : ℕ} → at a2 ≡ node.Pow a21 exp1 → a21 ≡ b → return (mul (# a1) (pow (# a21) (exp1 + n))) ≡ inside (two_pows at a1 a2 b n)
      unfolding two_pows
      both_pows {a21} p f = simp (ne_eqb a2 b e, p, eq-eqb a21 b f)

      pub other_base : {a21 exp1 : ℕ} → at a2 ≡ node.Pow a21 exp1 → a21 ≢ b → leave ≡ inside (two_pows at a1 a2 b n)
      unfolding two_pows
      other_base {a21} p f = simp (ne_eqb a2 b e, p, ne_eqb a21 b f)
