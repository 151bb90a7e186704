-- The residues of every modulus from 2 on are a model, a ring, and have fractions. Division is exact by every residue that has an inverse.
-- Assumes nothing.
use Rattle.std.specs.Prelude.{Ok, Err}
use mathlib.Core.Path.{◌≡◌, refl, sym, ap, ◌∙◌}
use mathlib.Core.Bool.{true, Bool-set}
use mathlib.Core.HLevel.{Σ_prop_path}
use Prim.Native.Nat.{ℕ, ◌+◌, ◌*◌, ◌%◌, ◌≤◌, ◌<◌}
use native.Mathlib.Nat.{mod-eq_of_lt, mod-mod, mod-add-mod, add-mod-mod, add-mod, add_comm, add_assoc, mul_comm, mul_assoc, mul-one, mul-add, zero-mul, zero-mod}
use native.Mathlib.Omega.{arith}
use lib.Dec.{ltb}
use lib.IntN.{pos}
use borrow.Author.Tests.{ltb-true}
use Rattle.residue.specs.Residue.{residue, quotient_of}
use Rattle.residue.specs.Residue.{Divided}
use Rattle.residue.proofs.Congruence.{factor_first, factor_second}
use Rattle.residue.proofs.Theorems.{quotient_is, quotient_exact, no_inverse_no_quotient, quotient_by_inverse}
use Rattle.meaning.specs.Model.{Model, Distributive}
use Rattle.taylor_meaning.specs.Series.{Fractions}
use Rattle.taylor_meaning.specs.Book.{Divides}
use Rattle.residue_meaning.specs.Residues.{Residues, reduced, or_zero, residues}
use Rattle.residue_meaning.proofs.Signs.{residue_sum, residue_product}

module _ (m : ℕ) (some : 2 ≤ m) where
  -- residues are equal by their numbers
  pub same : {a b : Residues m} → a.0 ≡ b.0 → a ≡ b
  same e = Σ_prop_path (λ a. Bool-set (ltb a m) true) e

  small : (a : Residues m) → a.0 < m
  small a = ltb-true a.0 m a.1

  pub number : (a : ℕ) → (reduced m some a).0 ≡ a % m
  unfolding reduced
  number a = refl

  pub reduced_same : (a b : ℕ) → a % m ≡ b % m → reduced m some a ≡ reduced m some b
  reduced_same a b e = same (number a ∙ e ∙ sym (number b))

  pub reduced_number : (a : Residues m) (b : ℕ) → b % m ≡ a.0 → reduced m some b ≡ a
  reduced_number a b e = same (number b ∙ e)

  stays : (a : Residues m) → a.0 % m ≡ a.0
  stays a = mod-eq_of_lt (small a)

  zero_is : (reduced m some (residue m (pos 0))).0 ≡ 0
  unfolding residue
  zero_is = number (0 % m) ∙ mod-mod 0 m ∙ zero-mod m

  one_is : (reduced m some (residue m (pos 1))).0 ≡ 1
  unfolding residue
  one_is = number (1 % m) ∙ mod-mod 1 m ∙ mod-eq_of_lt (omega arith)

  -- ---- quotients

  -- the quotient of a by d
  over : ℕ → ℕ → ℕ
  over a d = or_zero m some (quotient_of m a d)

  -- a quotient is the product with the quotient of 1
  over_product : (a d : ℕ) → a < m → over a d ≡ over 1 d * a % m
  unfolding over
  over_product a d h = go (quotient_of m 1 d) refl
    where
      go : (r : Divided) → quotient_of m 1 d ≡ r → over a d ≡ or_zero m some r * a % m
      go (Ok x) e = ap (or_zero m some) (quotient_by_inverse m a d x some h e) ∙ ap (λ n. n % m) (mul_comm a x)
      go (Err k) e = ap (or_zero m some) (no_inverse_no_quotient m a d k e) ∙ sym (ap (λ n. n % m) (zero-mul a) ∙ zero-mod m)

  zero_divided : (d : ℕ) → over 0 d ≡ 0
  zero_divided d = over_product 0 d (omega arith) ∙ ap (λ n. n % m) (nothing (over 1 d)) ∙ zero-mod m
    where
      nothing : (x : ℕ) → x * 0 ≡ 0
      nothing x = omega arith

  by_one : (a : ℕ) → a < m → over a 1 ≡ a
  unfolding over
  by_one a h = ap (or_zero m some) (quotient_is m a 1 1 (mod-eq_of_lt (omega arith)) h) ∙ ap (λ n. n % m) (mul-one a) ∙ mod-eq_of_lt h

  -- ---- the laws

  pub residues_model : Model (residues m some)
  unfolding over
  residues_model =
      record {
        plus_comm = λ a b. reduced_same _ _ (ap (λ n. n % m) (add_comm a.0 b.0));
        plus_assoc = λ a b c.
            reduced_same _ _
            (ap (λ n. (n + c.0) % m) (number (a.0 + b.0))
            ∙ mod-add-mod (a.0 + b.0) m c.0
            ∙ ap (λ n. n % m) (add_assoc a.0 b.0 c.0)
            ∙ sym (ap (λ n. (a.0 + n) % m) (number (b.0 + c.0)) ∙ add-mod-mod a.0 (b.0 + c.0) m));
        plus_zero = λ a. reduced_number a _ (ap (λ n. (a.0 + n) % m) zero_is ∙ ap (λ n. n % m) (nothing a.0) ∙ stays a);
        times_comm = λ a b. reduced_same _ _ (ap (λ n. n % m) (mul_comm a.0 b.0));
        times_assoc = λ a b c.
            reduced_same _ _
            (ap (λ n. n * c.0 % m) (number (a.0 * b.0))
            ∙ factor_first m (a.0 * b.0) c.0
            ∙ ap (λ n. n % m) (mul_assoc a.0 b.0 c.0)
            ∙ sym (ap (λ n. a.0 * n % m) (number (b.0 * c.0)) ∙ factor_second m a.0 (b.0 * c.0)));
        times_one = λ a. reduced_number a _ (ap (λ n. a.0 * n % m) one_is ∙ ap (λ n. n % m) (mul-one a.0) ∙ stays a);
        times_zero = λ a. same (number (a.0 * (reduced m some (residue m (pos 0))).0) ∙ ap (λ n. a.0 * n % m) zero_is ∙ ap (λ n. n % m) (none a.0) ∙ zero-mod m ∙ sym zero_is);
        int_plus = λ x y.
            reduced_same _ _
            (ap (λ n. n % m) (residue_sum m some x y)
            ∙ mod-mod (residue m x + residue m y) m
            ∙ sym (ap (λ n. (n + (reduced m some (residue m y)).0) % m) (number (residue m x)) ∙ ap (λ n. (residue m x % m + n) % m) (number (residue m y)) ∙ sym (add-mod (residue m x) (residue m y) m)));
        int_times = λ x y.
            reduced_same _ _
            (ap (λ n. n % m) (residue_product m some x y)
            ∙ mod-mod (residue m x * residue m y) m
            ∙ sym (ap (λ n. n * (reduced m some (residue m y)).0 % m) (number (residue m x)) ∙ ap (λ n. residue m x % m * n % m) (number (residue m y)) ∙ factor_second m (residue m x % m) (residue m y) ∙ factor_first m (residue m x) (residue m y)));
        zero_over = λ a.
            same (number (over (reduced m some (residue m (pos 0))).0 a.0) ∙ ap (λ n. over n a.0 % m) zero_is ∙ ap (λ n. n % m) (zero_divided a.0) ∙ zero-mod m ∙ sym zero_is);
        over_one = λ a. reduced_number a _ (ap (λ n. over a.0 n % m) one_is ∙ ap (λ n. n % m) (by_one a.0 (small a)) ∙ stays a);
        exp_zero = same (number 1 ∙ mod-eq_of_lt (omega arith) ∙ sym one_is);
        exp_plus = λ a b. same (number 1 ∙ sym (number ((reduced m some 1).0 * (reduced m some 1).0) ∙ ap (λ n. n * n % m) (number 1 ∙ mod-eq_of_lt (omega arith))));
        log_one = same (number 0 ∙ zero-mod m ∙ sym zero_is);
      }
    where
      nothing : (a : ℕ) → a + 0 ≡ a
      nothing a = omega arith

      none : (a : ℕ) → a * 0 ≡ 0
      none a = omega arith

  pub residues_ring : Distributive (residues m some)
  residues_ring =
      record {
        distributes = λ a b c.
            reduced_same _ _
            (ap (λ n. a.0 * n % m) (number (b.0 + c.0))
            ∙ factor_second m a.0 (b.0 + c.0)
            ∙ ap (λ n. n % m) (mul-add a.0 b.0 c.0)
            ∙ add-mod (a.0 * b.0) (a.0 * c.0) m
            ∙ sym (ap (λ n. (n + (reduced m some (a.0 * c.0)).0) % m) (number (a.0 * b.0)) ∙ ap (λ n. (a.0 * b.0 % m + n) % m) (number (a.0 * c.0))));
      }

  pub residues_fractions : Fractions (residues m some)
  unfolding over
  residues_fractions =
      record {
        as_product = λ a d.
            reduced_same _ _
            (ap (λ n. n % m) (over_product a.0 d.0 (small a))
            ∙ mod-mod (over 1 d.0 * a.0) m
            ∙ sym (ap (λ n. n * a.0 % m) (number (over (reduced m some (residue m (pos 1))).0 d.0) ∙ ap (λ n. over n d.0 % m) one_is) ∙ factor_first m (over 1 d.0) a.0));
      }

  -- division by a residue with an inverse is exact
  pub inverse_divides : (d : Residues m) (x : ℕ) → quotient_of m 1 d.0 ≡ Ok x → Divides (residues m some) d
  inverse_divides d x e a =
      let given = quotient_by_inverse m a.0 d.0 x some (small a) e in
      let exact = quotient_exact m a.0 d.0 (a.0 * x % m) (small a) given in
      reduced_number a _
      (ap (λ n. d.0 * n % m) (number (or_zero m some (quotient_of m a.0 d.0)) ∙ ap (λ r. or_zero m some r % m) given)
      ∙ factor_second m d.0 (a.0 * x % m)
      ∙ ap (λ n. n % m) (mul_comm d.0 (a.0 * x % m))
      ∙ exact.product)
