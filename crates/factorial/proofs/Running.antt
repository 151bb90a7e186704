-- The running product: one factor more makes the next factorial, and the first that is no literal ends it.
-- Assumes nothing.
use Rattle.std.specs.Prelude.{Ok, Err}
use mathlib.Core.Path.{◌≡◌, refl, ap, ◌∙◌, subst}
use Prim.Native.Nat.{ℕ, suc, ◌+◌, ◌*◌, ◌<◌, ◌≤◌}
use native.Mathlib.Nat.{mul_comm, le_trans, mul-le-mul_left, mul-le-mul_right}
use native.Mathlib.Numerals.{add-one}
use native.Mathlib.Omega.{arith}
use lib.IntN.{pos}
use mir.Syntax.{w64}
use mir.Val.{SFits, to_z}
use mir.ValLaws.{to_z_pos}
use Rattle.refusals.specs.Refusals.{out_of_range}
use Rattle.literal.specs.Literal.{greatest, folded}
use Rattle.literal.proofs.Folds.{folds, refuses, literal_fits}
use Rattle.factorial.specs.Factorial.{factorial_of}
use Rattle.factorial.proofs.Growth.{factorials_grow, literal_factorials, literal_is_below_nineteen}

-- i factors so far, and their product is a literal
pub record RunningProduct (n product i : ℕ) : Type 0 where
  pub within : i ≤ n
  pub is : product ≡ factorial_of i
  pub small : product ≤ greatest

pub at_first : (n : ℕ) → RunningProduct n 1 0
unfolding factorial_of
at_first n = record { within = omega arith; is = refl; small = omega arith }

module _ {n product i : ℕ} (so_far : RunningProduct n product i) where
  -- so a turn begins only below nineteen: no n takes more turns
  pub turn_is_below_nineteen : i < literal_factorials
  turn_is_below_nineteen = literal_is_below_nineteen i (subst (λ (x : ℕ). x ≤ greatest) so_far.is so_far.small)

  pub factor_fits : i + 1 ≤ literal_factorials
  factor_fits = omega (arith, turn_is_below_nineteen)

  pub product_fits : product * (i + 1) ≤ greatest * literal_factorials
  product_fits =
      le_trans (mul-le-mul_right (i + 1) so_far.small) (mul-le-mul_left greatest factor_fits)

  next_is : product * (i + 1) ≡ factorial_of (i + 1)
  unfolding factorial_of
  next_is = rw (add-one i) (mul_comm product (suc i) ∙ ap (λ (x : ℕ). suc i * x) so_far.is)

  pub next_product : i < n → product * (i + 1) ≤ greatest → RunningProduct n (product * (i + 1)) (i + 1)
  next_product more h = record { within = omega arith; is = next_is; small = h }

  pub product_past_the_literals : i < n → greatest < product * (i + 1) → Err out_of_range ≡ folded (pos (factorial_of n))
  product_past_the_literals more h = refuses (pos (factorial_of n)) (omega (arith, h, next_is, factorials_grow (i + 1) n (omega arith)))

  pub last_fits : SFits w64 (pos product)
  last_fits = literal_fits (pos product) so_far.small

  pub last_product : n ≤ i → Ok (to_z w64 product) ≡ folded (pos (factorial_of n))
  last_product end =
      let same : i ≡ n = omega (arith, so_far.within) in
      let is : product ≡ factorial_of n = so_far.is ∙ ap factorial_of same in
      ap Ok (to_z_pos w64 product last_fits.sfits) ∙ folds (pos product) so_far.small ∙ ap (λ (x : ℕ). folded (pos x)) is
