-- A double that is a whole number, by the toolchain's `HasValue x s a c`: x is finite, has the sign s (true below 0), and is a / c in size.
-- Assumes nothing.
use Rattle.std.specs.Prelude.{Bool, true, false, ℤ, pos, negsuc, nat_abs, Float, Ok, Err}
use Rattle.std.specs.Float.Ieee.Exact.{HasValue}
use Rattle.double.specs.Double.{Valued}

abbrev pub is_below_zero : ℤ → Bool
is_below_zero (pos n) = false
is_below_zero (negsuc n) = true

-- the double is z, no more and no less
abbrev pub Is : Float → ℤ → Type 0
Is x z = HasValue x (is_below_zero z) (nat_abs z) 1

-- the answer is the double that is z
abbrev pub GivesExactly : Valued → ℤ → Type 0
GivesExactly (Ok x) z = Is x z
GivesExactly (Err k) z = ⊥
