-- Series with their sums and products are a model and a ring, so powers of series have the laws of powers.
-- Assumes nothing.
use mathlib.Core.Path.{◌≡◌, refl, sym, ap, ◌∙◌, fun_ext}
use Prim.Native.Nat.{ℕ, zero, suc, ◌+◌}
use native.Mathlib.Omega.{arith}
use lib.IntN.{ℤ, pos, ◌+ℤ◌, ◌*ℤ◌}
use Rattle.meaning.specs.Model.{Algebra, Model, Distributive, power}
use Rattle.meaning.proofs.Values.{same_op}
use Rattle.meaning.proofs.Laws.{power_none, power_more, product_assoc}
use Rattle.taylor_meaning.specs.Series.{Series, constant_series, plus_series, times_series, series, polynomials}
use Rattle.taylor_meaning.proofs.SeriesRing.{constant_times, times_constant, times_comm, times_assoc, times_plus_left}

module _ {A : Algebra} (M : Model A) (D : Distributive A) where
  open A use {carrier, int, plus as ◌⊕◌, times as ◌⊗◌}

  infixl 20 ◌⊕◌
  infixl 30 ◌⊗◌
  none_above : (z : ℤ) (k : ℕ) → constant_series A (int z) (suc k) ≡ int (pos 0)
  none_above z k = refl

  plus_zero : (x : Series A) (k : ℕ) → plus_series A x (constant_series A (int (pos 0))) k ≡ x k
  plus_zero x zero = M.plus_zero (x 0)
  plus_zero x (suc k) = M.plus_zero (x (suc k))

  times_one : (x : Series A) (k : ℕ) → times_series A x (constant_series A (int (pos 1))) k ≡ x k
  times_one x k = times_constant M x (constant_series A (int (pos 1))) (none_above (pos 1)) k ∙ M.times_one (x k)

  times_zero : (x : Series A) (k : ℕ) → times_series A x (constant_series A (int (pos 0))) k ≡ constant_series A (int (pos 0)) k
  times_zero x zero = times_constant M x (constant_series A (int (pos 0))) (none_above (pos 0)) 0 ∙ M.times_zero (x 0)
  times_zero x (suc k) = times_constant M x (constant_series A (int (pos 0))) (none_above (pos 0)) (suc k) ∙ M.times_zero (x (suc k))

  int_plus : (a b : ℤ) (k : ℕ) → constant_series A (int (a +ℤ b)) k ≡ plus_series A (constant_series A (int a)) (constant_series A (int b)) k
  int_plus a b zero = M.int_plus a b
  int_plus a b (suc k) = sym (M.plus_zero (int (pos 0)))

  int_times : (a b : ℤ) (k : ℕ) → constant_series A (int (a *ℤ b)) k ≡ times_series A (constant_series A (int a)) (constant_series A (int b)) k
  int_times a b zero = M.int_times a b ∙ sym (constant_times M (constant_series A (int a)) (constant_series A (int b)) (none_above a) 0)
  int_times a b (suc k) = sym (constant_times M (constant_series A (int a)) (constant_series A (int b)) (none_above a) (suc k) ∙ M.times_zero (int a))

  pub polynomials_model : Model (polynomials A)
  polynomials_model =
      record {
        plus_comm = λ x y. fun_ext (λ k. M.plus_comm (x k) (y k));
        plus_assoc = λ x y z. fun_ext (λ k. M.plus_assoc (x k) (y k) (z k));
        plus_zero = λ x. fun_ext (plus_zero x);
        times_comm = λ x y. fun_ext (times_comm M x y);
        times_assoc = λ x y z. fun_ext (times_assoc M D x y z);
        times_one = λ x. fun_ext (times_one x);
        times_zero = λ x. fun_ext (times_zero x);
        int_plus = λ a b. fun_ext (int_plus a b);
        int_times = λ a b. fun_ext (int_times a b);
        zero_over = λ x. refl;
        over_one = λ x. refl;
        exp_zero = refl;
        exp_plus = λ x y. sym (fun_ext (times_one (constant_series A (int (pos 1)))));
        log_one = refl;
      }

  pub polynomials_ring : Distributive (polynomials A)
  polynomials_ring =
      record {
        distributes = λ x y z.
            fun_ext (λ k.
            times_comm M x (plus_series A y z) k
            ∙ times_plus_left M D y z x k
            ∙ same_op ◌⊕◌ (times_comm M y x k) (times_comm M z x k));
      }

  -- powers go by the product alone
  pub powers_same : (x : Series A) (n : ℕ) → power (polynomials A) x n ≡ power (series A) x n
  unfolding power
  powers_same x zero = refl
  powers_same x (suc n) = ap (λ y. times_series A y x) (powers_same x n)

  -- x^(2n) = (x^2)^n
  pub power_double : (x : Series A) (n : ℕ) → power (polynomials A) (times_series A x x) n ≡ power (polynomials A) x (n + n)
  power_double x zero = power_none polynomials_model (times_series A x x) ∙ sym (power_none polynomials_model x)
  power_double x (suc n) =
      power_more polynomials_model (times_series A x x) n
      ∙ ap (λ y. times_series A y (times_series A x x)) (power_double x n)
      ∙ sym (product_assoc polynomials_model (power (polynomials A) x (n + n)) x x)
      ∙ ap (λ y. times_series A y x) (sym (power_more polynomials_model x (n + n)))
      ∙ sym (power_more polynomials_model x (suc (n + n)))
      ∙ ap (power (polynomials A) x) (two_more n)
    where
      two_more : (n : ℕ) → suc (suc (n + n)) ≡ suc n + suc n
      two_more n = omega arith
