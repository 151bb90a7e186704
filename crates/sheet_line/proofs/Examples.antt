-- Lines worked out by hand from document 01's sentence on the input line, computed from the definitions.
-- Assumes nothing.
use mathlib.Core.Path.{◌≡◌, refl}
use lib.IntN.{pos, neg_ℤ}
use Rattle.text.specs.Text.{bytes}
use Rattle.sheet_text.specs.Line.{digits_from, decimal_of, point_of, fields, parse}
use Rattle.std.specs.Prelude.{ℕ, Some, None}
use Rattle.taylor.specs.Expand.{Point}
use Rattle.sheet_text.specs.Line.{Line}
use Rattle.sheet_line.specs.Cut.{cut_at, cut_line}

abbrev asks : ℕ → ℕ → Point → Line
asks v order x = Some (record { var = v; order = order; point = x })

-- a line end or none
pub with_a_line_end : cut_line (parse (bytes "0 2\n")) ≡ asks 0 2 None
unfolding parse fields decimal_of digits_from point_of
with_a_line_end = refl

pub without_a_line_end : cut_line (parse (bytes "10 24 -7")) ≡ asks 10 24 (Some (neg_ℤ (pos 7)))
unfolding parse fields decimal_of digits_from point_of
without_a_line_end = refl

-- numbers of any length have the form
pub long_numbers : cut_line (parse (bytes "99999999999999999999 18446744073709551616 -18446744073709551617")) ≡ asks cut_at cut_at (Some (neg_ℤ (pos cut_at)))
unfolding parse fields decimal_of digits_from point_of
long_numbers = refl

-- "decimals without leading zeros, one space between, a minus only before a nonzero point"
pub a_leading_zero : cut_line (parse (bytes "00 2")) ≡ None
unfolding parse fields decimal_of digits_from point_of
a_leading_zero = refl

pub two_spaces : cut_line (parse (bytes "0  2")) ≡ None
unfolding parse fields decimal_of digits_from point_of
two_spaces = refl

pub minus_zero : cut_line (parse (bytes "0 2 -0")) ≡ None
unfolding parse fields decimal_of digits_from point_of
minus_zero = refl
