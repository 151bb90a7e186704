-- Inverses of residues: that of a square, so that (1/d²) × d = 1/d also where d has none, and those of 1 to 24 at document 01's modulus.
-- Assumes nothing.
use Rattle.std.specs.Prelude.{Ok, Err}
use mathlib.Core.Path.{◌≡◌, refl, sym, ap, ◌∙◌}
use mathlib.Core.Bool.{true}
use mathlib.Core.List.{List, [], ◌∷◌}
use Prim.Native.Nat.{ℕ, suc, ◌*◌, ◌%◌, ◌≤◌, ◌<◌}
use native.Mathlib.Nat.{mod-mod, mod-eq_of_lt, mul-one, mul_assoc, one-mul, zero-mod, zero-mul}
use native.Mathlib.Omega.{arith}
use lib.Dec.{eqb}
use lib.IntN.{pos}
use lib.ListN.{get_or}
use borrow.Author.Tests.{eqb-true}
use Rattle.residue.specs.Residue.{fixed_modulus, residue, quotient_of}
use Rattle.residue.specs.Residue.{Divided}
use Rattle.residue.proofs.Congruence.{factor_first, factor_second}
use Rattle.residue.proofs.Theorems.{quotient_is, quotient_exact, quotient_none}
use Rattle.pool.specs.Pool.{each}
use Rattle.shape.proofs.Tests.{each_holds}
use Rattle.meaning.proofs.Laws.{power_two}
use Rattle.taylor_meaning.specs.Book.{Divides}
use Rattle.residue_meaning.specs.Residues.{Residues, or_zero, residues}
use Rattle.residue_meaning.proofs.Model.{same, number, residues_model, inverse_divides}
use Rattle.dual_residues.specs.DualResidues.{HasInverse}
use Rattle.dual_residues.proofs.Duals.{Squares}

module _ (m : ℕ) (some : 2 ≤ m) where
  -- 1/d, or 0
  inverse_of : ℕ → ℕ
  inverse_of d = or_zero m some (quotient_of m 1 d)

  square_inverse : (d x : ℕ) → x * d % m ≡ 1 → x * x * (d * d % m) % m ≡ 1
  square_inverse d x e =
      factor_second m (x * x) (d * d)
      ∙ ap (λ a. a % m) (regroup x d)
      ∙ sym (factor_first m (x * d) (x * d))
      ∙ ap (λ a. a * (x * d) % m) e
      ∙ ap (λ a. a % m) (one-mul (x * d))
      ∙ e
    where
      regroup : (x d : ℕ) → x * x * (d * d) ≡ x * d * (x * d)
      regroup x d = omega arith

  square_times : (d x : ℕ) → x * d % m ≡ 1 → 1 * (x * x) % m % m * d % m ≡ x % m
  square_times d x e =
      ap (λ a. a * d % m) (mod-mod (1 * (x * x)) m)
      ∙ factor_first m (1 * (x * x)) d
      ∙ ap (λ a. a % m) (regroup x d)
      ∙ sym (factor_second m x (x * d))
      ∙ ap (λ a. x * a % m) e
      ∙ ap (λ a. a % m) (mul-one x)
    where
      regroup : (x d : ℕ) → 1 * (x * x) * d ≡ x * (x * d)
      regroup x d = omega arith

  refused_is_none : {k q : ℕ} → Err k ≡ Ok q → ⊥
  refused_is_none e = let clash : ◌≡◌ {A = ℕ} 0 1 = cc in omega arith

  -- what has no inverse has none as a square
  no_square_inverse : (d k : ℕ) → quotient_of m 1 d ≡ Err k → (z : ℕ) → z * (d * d % m) % m ≡ 1 → ⊥
  no_square_inverse d k e z h =
      refused_is_none (sym e ∙ quotient_is m 1 d (z * d) (ap (λ a. a % m) (mul_assoc z d d) ∙ sym (factor_second m z (d * d)) ∙ h) some)

  inverse_of_square : (d : ℕ) → inverse_of (d * d % m) % m * d % m ≡ inverse_of d % m
  unfolding inverse_of
  inverse_of_square d = go (quotient_of m 1 d) refl
    where
      go : (r : Divided) → quotient_of m 1 d ≡ r → inverse_of (d * d % m) % m * d % m ≡ or_zero m some r % m
      go (Ok x) e =
          let inverse : x * d % m ≡ 1 = (quotient_exact m 1 d x some e).product in
          ap (λ r. or_zero m some r % m * d % m) (quotient_is m 1 (d * d % m) (x * x) (square_inverse d x inverse) some) ∙ square_times d x inverse
      go (Err k) e =
          ap (λ r. or_zero m some r % m * d % m) (quotient_none m 1 (d * d % m) (no_square_inverse d k e))
          ∙ ap (λ a. a * d % m) (zero-mod m)
          ∙ ap (λ a. a % m) (zero-mul d)

  one_is : ((residues m some).int (pos 1)).0 ≡ 1
  unfolding residue
  one_is = number m some (1 % m) ∙ mod-mod 1 m ∙ mod-eq_of_lt some

  inverse_number : (d : Residues m) → ((residues m some).over ((residues m some).int (pos 1)) d).0 ≡ inverse_of d.0 % m
  unfolding inverse_of
  inverse_number d = number m some _ ∙ ap (λ a. or_zero m some (quotient_of m a d.0) % m) one_is

  pub residues_squares : Squares (residues m some)
  residues_squares y =
      ap (λ z. (residues m some).times ((residues m some).over ((residues m some).int (pos 1)) z) y) (power_two (residues_model m some) y)
      ∙ same m some
      (number m some _
      ∙ ap (λ a. a * y.0 % m) (inverse_number ((residues m some).times y y) ∙ ap (λ a. inverse_of a % m) (number m some (y.0 * y.0)))
      ∙ inverse_of_square y.0
      ∙ sym (inverse_number y))

  pub unit_divides : (d : Residues m) → HasInverse m d.0 → Divides (residues m some) d
  unit_divides d (x, e) = inverse_divides m some d (1 * x % m) (quotient_is m 1 d.0 x e some)

  pub number_has_inverse : (k : ℕ) → HasInverse m k → HasInverse m ((residues m some).int (pos k)).0
  unfolding residue
  number_has_inverse k (x, e) = (x, ap (λ a. x * a % m) (number m some (k % m)) ∙ factor_second m x (k % m) ∙ factor_second m x k ∙ e)

-- ---- at document 01's modulus

pub fixed_modulus_fits : 2 ≤ fixed_modulus
fixed_modulus_fits = omega arith

-- the inverses of 1, .., 24
abbrev inverses : List ℕ
inverses =
    1 ∷ 1073741824 ∷ 1431655765 ∷ 536870912 ∷ 858993459 ∷ 1789569706 ∷ 1840700269 ∷ 268435456 ∷ 1908874353 ∷ 1503238553 ∷ 1952257861 ∷ 894784853
    ∷ 1486719448 ∷ 1994091958 ∷ 286331153 ∷ 134217728 ∷ 252645135 ∷ 2028179000 ∷ 1017229096 ∷ 1825361100 ∷ 2045222521 ∷ 2049870754 ∷ 840319688 ∷ 1521134250 ∷ []

all_tested : each 24 (λ k. eqb (get_or inverses k 0 * suc k % fixed_modulus) 1) ≡ true
unfolding each
all_tested = refl

pub small_have_inverses : (k : ℕ) → k < 24 → HasInverse fixed_modulus (suc k)
small_have_inverses k l = (get_or inverses k 0, eqb-true _ 1 (each_holds 24 (λ k. eqb (get_or inverses k 0 * suc k % fixed_modulus) 1) all_tested k l))
