-- The dual numbers over the residues of every modulus from 2 on are a ring with fractions, their exp is not constant, and division by a + b ε is exact where a has an inverse. At document 01's modulus 1 to 24 have one.
-- Assumes nothing.
use mathlib.Core.Path.{◌≡◌, sym, ap, ap₂, ◌∙◌}
use Prim.Native.Nat.{ℕ, suc, ◌%◌, ◌≤◌}
use native.Mathlib.Nat.{mod-mod, mod-eq_of_lt, zero-mod}
use native.Mathlib.Omega.{arith}
use lib.IntN.{pos}
use Rattle.residue.specs.Residue.{fixed_modulus, residue}
use Rattle.meaning.specs.Model.{Model, Distributive}
use Rattle.meaning.proofs.Laws.{product_one}
use Rattle.meaning.proofs.Duals.{duals_model, duals_ring}
use Rattle.taylor_meaning.specs.Series.{Fractions}
use Rattle.taylor_meaning.specs.Book.{Divides}
use Rattle.residue_meaning.specs.Residues.{Residues, residues}
use Rattle.residue_meaning.proofs.Model.{number, residues_model, residues_ring, residues_fractions}
use Rattle.dual_residues.specs.DualResidues.{dual_residues, HasInverse, NotTrivial}
use Rattle.dual_residues.proofs.Duals.{duals_fractions, duals_divide}
use Rattle.dual_residues.proofs.Inverses.{residues_squares, unit_divides, number_has_inverse, fixed_modulus_fits, small_have_inverses}

module _ (m : ℕ) (some : 2 ≤ m) where
  pub dual_residues_model : Model (dual_residues m some)
  dual_residues_model = duals_model (residues_model m some) (residues_ring m some)

  pub dual_residues_ring : Distributive (dual_residues m some)
  dual_residues_ring = duals_ring (residues_model m some) (residues_ring m some)

  pub dual_residues_fractions : Fractions (dual_residues m some)
  dual_residues_fractions = duals_fractions (residues_model m some) (residues_ring m some) (residues_fractions m some) (residues_squares m some)

  pub dual_residues_divide : (a b : Residues m) → HasInverse m a.0 → Divides (dual_residues m some) (a, b)
  dual_residues_divide a b inverse =
      duals_divide (residues_model m some) (residues_ring m some) (residues_fractions m some) (residues_squares m some) a (unit_divides m some a inverse) b

  pub dual_residues_divide_by : (k : ℕ) → HasInverse m k → Divides (dual_residues m some) ((dual_residues m some).int (pos k))
  dual_residues_divide_by k inverse = dual_residues_divide ((residues m some).int (pos k)) ((residues m some).int (pos 0)) (number_has_inverse m some k inverse)

  -- exp (a + b ε) = 1 + b ε
  pub exp_is : (a b : Residues m) → (dual_residues m some).exp (a, b) ≡ ((residues m some).int (pos 1), b)
  exp_is a b =
      let one = (residues_model m some).exp_zero in
      ap₂ (λ x y. (x, y)) one (ap ((residues m some).times b) one ∙ product_one (residues_model m some) b)

  one_is_not_zero : (residues m some).int (pos 1) ≡ (residues m some).int (pos 0) → ⊥
  unfolding residue
  one_is_not_zero e =
      let first : 1 % m % m ≡ 1 = mod-mod 1 m ∙ mod-eq_of_lt some in
      let second : 0 % m % m ≡ 0 = mod-mod 0 m ∙ zero-mod m in
      let same : 1 % m % m ≡ 0 % m % m = sym (number m some (1 % m)) ∙ ap (λ (a : Residues m). a.0) e ∙ number m some (0 % m) in
      differ (sym first ∙ same ∙ second)
    where
      differ : ◌≡◌ {A = ℕ} 1 0 → ⊥
      differ e = omega arith

  pub exp_is_not_constant : (dual_residues m some).exp ((residues m some).int (pos 0), (residues m some).int (pos 1)) ≡ (dual_residues m some).exp ((residues m some).int (pos 0), (residues m some).int (pos 0)) → ⊥
  exp_is_not_constant e =
      let zero = (residues m some).int (pos 0) in
      let one = (residues m some).int (pos 1) in
      one_is_not_zero (ap (λ (x : Residues m × Residues m). x.1) (sym (exp_is zero one) ∙ e ∙ exp_is zero zero))

-- at document 01's modulus
pub not_trivial : NotTrivial (dual_residues fixed_modulus fixed_modulus_fits)
not_trivial =
    let some : 2 ≤ fixed_modulus = fixed_modulus_fits in
    record {
      laws = dual_residues_model fixed_modulus some;
      ring = dual_residues_ring fixed_modulus some;
      fractions = dual_residues_fractions fixed_modulus some;
      divides = λ k l. dual_residues_divide_by fixed_modulus some (suc k) (small_have_inverses k l);
      some_value = ((residues fixed_modulus some).int (pos 0), (residues fixed_modulus some).int (pos 1));
      other_value = ((residues fixed_modulus some).int (pos 0), (residues fixed_modulus some).int (pos 0));
      exp_differs = exp_is_not_constant fixed_modulus some;
    }
