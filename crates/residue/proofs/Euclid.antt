-- Euclid's algorithm with a factor kept beside each remainder: a turn keeps the invariant, and at its end the first factor is the inverse, or there is none.
-- A remainder is its factor times the divisor, modulo m, and what divides both remainders divides the modulus and the divisor. Assumes nothing.
use Rattle.std.specs.Prelude.{Ok, Err}
use mathlib.Core.Path.{◌≡◌, sym, ap, ◌∙◌}
use Prim.Native.Nat.{ℕ, ◌+◌, ◌-◌, ◌*◌, ◌/◌, ◌%◌, ◌≤◌, ◌<◌, ◌∣◌}
use native.Mathlib.Nat.{mod-lt, mod-le, mod_self, zero-mod, zero-mul, one-mul, mod-eq_of_lt, mod-add-div', mul_assoc, add-mod-mod, add-mul-mod_self_left, dvd_refl, dvd-zero, dvd-mod_iff, div-le_self, dvd-mul_left_of_dvd, eq-one_of_dvd-one, le_trans, le_of_lt, sub-add_cancel}
use native.Mathlib.Omega.{arith}
use mir.Syntax.{w64}
use mir.Val.{Fits}
use Rattle.refusals.specs.Refusals.{no_inverse}
use Rattle.residue.specs.Residue.{Modulus, quotient_of}
use Rattle.residue.proofs.Congruence.{factor_first, factor_second, summand_cancels, product_fits}
use Rattle.residue.proofs.Theorems.{quotient_is, quotient_none}

pub record Euclid (m d r0 r1 t0 t1 : ℕ) : Type 0 where
  pub first : t0 * d % m ≡ r0 % m
  pub second : t1 * d % m ≡ r1 % m
  pub first_factor : t0 < m
  pub second_factor : t1 < m
  pub first_remainder : r0 ≤ m
  pub second_remainder : r1 ≤ m
  pub common : (g : ℕ) → g ∣ r0 → g ∣ r1 → (g ∣ m) × (g ∣ d)

pub euclid_begins : (m d : ℕ) → 2 ≤ m → d < m → Euclid m d m d 0 1
euclid_begins m d h below =
    record {
      first = ap (λ n. n % m) (zero-mul d) ∙ zero-mod m ∙ sym (mod_self m);
      second = ap (λ n. n % m) (one-mul d);
      first_factor = omega arith;
      second_factor = omega arith;
      first_remainder = omega arith;
      second_remainder = omega arith;
      common = λ g dm dd. (dm, dd);
    }

-- what a turn computes fits
pub factor_fits : {m d r0 r1 t0 t1 : ℕ} → Modulus m → Euclid m d r0 r1 t0 t1 → Fits w64 (r0 / r1 * t1)
factor_fits {r0 = r0} {r1} {t1 = t1} is now =
    product_fits is (r0 / r1) t1 (le_trans (div-le_self r0 r1) now.first_remainder) (le_of_lt now.second_factor)

-- the new factor is the first less q times the second, and so is the new remainder
module _ (m d r0 r1 t0 t1 q r2 : ℕ) (h : 0 < m) (first : t0 * d % m ≡ r0 % m) (second : t1 * d % m ≡ r1 % m) (split : r2 + q * r1 ≡ r0) where
  taken_away : q * t1 % m * d % m ≡ q * r1 % m
  taken_away =
      factor_first m (q * t1) d
      ∙ ap (λ n. n % m) (mul_assoc q t1 d)
      ∙ sym (factor_second m q (t1 * d))
      ∙ ap (λ n. q * n % m) second
      ∙ factor_second m q r1

  whole : (u : ℕ) → u < m → u * d % m ≡ q * r1 % m → ((t0 + (m - u)) * d + q * r1) % m ≡ (r2 + q * r1) % m
  whole u below away =
      sym (add-mod-mod ((t0 + (m - u)) * d) (q * r1) m)
      ∙ ap (λ n. ((t0 + (m - u)) * d + n) % m) (sym away)
      ∙ add-mod-mod ((t0 + (m - u)) * d) (u * d) m
      ∙ ap (λ n. n % m) (omega (arith, ap (λ n. n * d) (sub-add_cancel (le_of_lt below))))
      ∙ add-mul-mod_self_left (t0 * d) m d
      ∙ first
      ∙ ap (λ n. n % m) (sym split)

  pub next_factor : (t0 + (m - q * t1 % m)) % m * d % m ≡ r2 % m
  next_factor =
      factor_first m (t0 + (m - q * t1 % m)) d
      ∙ summand_cancels m (q * r1) ((t0 + (m - q * t1 % m)) * d) r2 h (whole (q * t1 % m) (mod-lt (q * t1) h) taken_away)

pub euclid_turns : (m d r0 r1 t0 t1 : ℕ) → 2 ≤ m → Euclid m d r0 r1 t0 t1 → Euclid m d r1 (r0 % r1) t1 ((t0 + (m - r0 / r1 * t1 % m)) % m)
euclid_turns m d r0 r1 t0 t1 h now =
    record {
      first = now.second;
      second = next_factor m d r0 r1 t0 t1 (r0 / r1) (r0 % r1) (omega arith) now.first now.second (mod-add-div' r0 r1);
      first_factor = now.second_factor;
      second_factor = mod-lt (t0 + (m - r0 / r1 * t1 % m)) (omega arith);
      first_remainder = now.second_remainder;
      second_remainder = le_trans (mod-le r0 r1) now.first_remainder;
      common = λ g d1 d2. now.common g ((dvd-mod_iff g d1).0 d2) d1;
    }

pub euclid_inverts : (m d r0 r1 t0 t1 : ℕ) → 2 ≤ m → r1 ≡ 0 → r0 ≡ 1 → Euclid m d r0 r1 t0 t1 → Ok t0 ≡ quotient_of m 1 d
euclid_inverts m d r0 r1 t0 t1 h none one last =
    sym
    (quotient_is m 1 d t0 (last.first ∙ ap (λ n. n % m) one ∙ mod-eq_of_lt h) h
    ∙ ap Ok (ap (λ n. n % m) (one-mul t0) ∙ mod-eq_of_lt last.first_factor))

-- the last remainder divides m and d, so it divides what any multiple of d leaves
pub euclid_refuses : (m d r0 r1 t0 t1 : ℕ) → r1 ≡ 0 → (r0 ≡ 1 → ⊥) → Euclid m d r0 r1 t0 t1 → Err no_inverse ≡ quotient_of m 1 d
euclid_refuses m d r0 r1 t0 t1 none more last =
    let both = last.common r0 (dvd_refl r0) (rw none (dvd-zero r0)) in
    sym (quotient_none m 1 d (λ x inverse. more (eq-one_of_dvd-one (rw inverse at ((dvd-mod_iff r0 both.0).1 (dvd-mul_left_of_dvd r0 both.1 x))))))
