-- Residues, from document 01's "By residues .." and document 02's C-17: the modulus is a parameter, and need not be prime.
-- Assumes nothing.
use Rattle.std.specs.Prelude.{Bool, cond, ℕ, zero, suc, ◌+◌, ◌-◌, ◌*◌, ◌%◌, ◌^◌, ◌≤◌, eqb, ℤ, pos, negsuc, Result, Ok, Err}
use Rattle.refusals.specs.Refusals.{no_inverse}

-- a residue, or the refusal number
abbrev pub Divided : Type 0
Divided = Result ℕ ℕ

-- "By residues the modulus is 2,147,483,647."
abbrev pub fixed_modulus : ℕ
fixed_modulus = 2147483647

-- C-17: "a modulus from 2 to 2,147,483,647"
pub record Modulus (m : ℕ) : Type 0 where
  pub least : 2 ≤ m
  pub most : m ≤ fixed_modulus

-- "A negative literal counts as the residue from 0 up that differs from it by a multiple of the modulus."
unfoldable pub residue : ℕ → ℤ → ℕ
residue m (pos n) = n % m
residue m (negsuc n) = (m - 1) - n % m

abbrev pub sum_of : ℕ → ℕ → ℕ → ℕ
sum_of m a b = (a + b) % m

abbrev pub product_of : ℕ → ℕ → ℕ → ℕ
product_of m a b = a * b % m

abbrev pub power_of : ℕ → ℕ → ℕ → ℕ
power_of m a e = a ^ e % m

abbrev pub or_else : Divided → Divided → Divided
or_else (Ok q) other = Ok q
or_else (Err k) other = other

-- the first of 0, .., n - 1 that passes, and 17 where none does
unfoldable pub first_below : ℕ → (ℕ → Bool) → Divided
first_below zero passes = Err no_inverse
first_below (suc n) passes = or_else (first_below n passes) (cond (passes n) (Ok n) (Err no_inverse))

-- the residue whose product with the divisor is the dividend
abbrev pub divides_to : ℕ → ℕ → ℕ → Divided
divides_to m a d = first_below m (λ q. eqb (product_of m q d) a)

abbrev pub provided : Divided → Divided → Divided
provided (Ok q) other = other
provided (Err k) other = Err k

-- "A quotient is the one residue whose product with the divisor is the dividend"; C-17: it "exists exactly if the divisor has an inverse", else 17
unfoldable pub quotient_of : ℕ → ℕ → ℕ → Divided
quotient_of m a d = provided (divides_to m 1 d) (divides_to m a d)
