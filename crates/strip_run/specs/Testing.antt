-- How far the test of a strip has come: what is left, with the places in use, decides as the whole strip does.
-- Assumes nothing.
use Rattle.std.specs.Prelude.{◌≡◌, false, cond, List, ℕ, ◌+◌, ◌-◌, ◌<◌, ◌≤◌, ltb, eqb, length, drop, Option, Some, None}
use Rattle.literal.specs.Literal.{is_literal, signed}
use Rattle.pool.specs.Nodes.{least_exponent}
use Rattle.key_strip.specs.Strip.{most_places}
use Rattle.key_strip.specs.Machine.{keys_of, accepts, is_strip}
use Rattle.strip_run.specs.declared.testing.Passed.{Passed}

pub record Testing (s : List ℕ) (at d : ℕ) : Type 0 where
  pub within : at ≤ length s
  pub small : d ≤ most_places
  pub rest : is_strip s ≡ accepts d (keys_of (drop at s))

-- the test of the key at a place came to the next one, or decides
abbrev pub TestedTo : List ℕ → ℕ → Option Passed → Type 0
TestedTo s at (Some p) = (at < p.next) × Testing s p.next p.depth
TestedTo s at None = is_strip s ≡ false

abbrev pub on : ℕ → ℕ → Option Passed
on next d = Some record { next = next; depth = d }

-- the codes' own tests, d places being in use
unfoldable pub one_place_more : ℕ → ℕ → Option Passed
one_place_more d next = cond (ltb d most_places) (on next (d + 1)) None

unfoldable pub one_place_less : ℕ → ℕ → Option Passed
one_place_less d next = cond (ltb d 2) None (on next (d - 1))

unfoldable pub literal_tested : ℕ → ℕ → ℕ → Option Passed
literal_tested w d next = cond (is_literal (signed w)) (one_place_more d next) None

unfoldable pub exponent_tested : ℕ → ℕ → ℕ → Option Passed
exponent_tested e d next = cond (ltb e least_exponent) None (cond (eqb d 0) None (on next d))
