-- Worked examples of the papers, as statements of the definitions.
-- At the fixed modulus a quotient goes by the law, since no search gets to the end; at a small one it is computed. Assumes nothing.
use Rattle.std.specs.Prelude.{Ok, Err}
use mathlib.Core.Path.{◌≡◌, refl}
use Prim.Native.Nat.{ℕ, ◌-◌, ◌*◌, ◌%◌}
use native.Mathlib.Omega.{arith}
use lib.Dec.{lit<}
use lib.IntN.{negsuc}
use Rattle.refusals.specs.Refusals.{no_inverse}
use Rattle.residue.specs.Residue.{fixed_modulus, residue, first_below, quotient_of}
use Rattle.residue.proofs.Theorems.{quotient_is, quotient_none}

-- 01: "By residues 1/2 is 1,073,741,824."
pub one_half : quotient_of fixed_modulus 1 2 ≡ Ok 1073741824
one_half = quotient_is fixed_modulus 1 2 1073741824 refl (lit< tt)

-- C-17: "2 over 2 modulo 4 is refused by 17, although 1 × 2 is 2: 3 × 2 is 2 there as well."
pub two_over_two : quotient_of 4 2 2 ≡ Err no_inverse
unfolding quotient_of first_below
two_over_two = refl

pub one_times_two : 1 * 2 % 4 ≡ 2
one_times_two = refl

pub three_times_two : 3 * 2 % 4 ≡ 2
three_times_two = refl

-- a quotient that a search of the definition finds, modulo 4: 3 × 3 is 1 there
pub two_over_three : quotient_of 4 2 3 ≡ Ok 2
unfolding quotient_of first_below
two_over_three = refl

-- 0 has no inverse, so that 0/0 is refused too
pub over_zero : (a : ℕ) → quotient_of fixed_modulus a 0 ≡ Err no_inverse
over_zero a = quotient_none fixed_modulus a 0 (λ x e. omega arith)

-- "A negative literal counts as the residue from 0 up that differs from it by a multiple of the modulus."
pub minus_one : residue fixed_modulus (negsuc 0) ≡ fixed_modulus - 1
unfolding residue
minus_one = refl

pub minus_the_modulus : residue fixed_modulus (negsuc (fixed_modulus - 1)) ≡ 0
unfolding residue
minus_the_modulus = refl
