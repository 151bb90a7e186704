-- What a line asks for as the code keeps it: each of its numbers cut off at one more than the greatest literal.
-- Assumes nothing.
use Rattle.std.specs.Prelude.{ℕ, suc, ◌+◌, min, ℤ, pos, negsuc, neg_ℤ, Option, Some, None}
use Rattle.literal.specs.Literal.{greatest}
use Rattle.sheet_text.specs.Line.{Line}

abbrev pub cut_at : ℕ
cut_at = greatest + 1

abbrev pub cut : ℕ → ℕ
cut n = min n cut_at

-- the same sign, and the size cut off
abbrev pub cut_size : ℤ → ℤ
cut_size (pos n) = pos (cut n)
cut_size (negsuc n) = neg_ℤ (pos (cut (suc n)))

-- numbers while the line is read
abbrev pub cut_number : Option ℕ → Option ℕ
cut_number None = None
cut_number (Some n) = Some (cut n)

abbrev pub cut_whole : Option ℤ → Option ℤ
cut_whole None = None
cut_whole (Some z) = Some (cut_size z)

-- the line
abbrev pub cut_line : Line → Line
cut_line None = None
cut_line (Some a) = Some (record { var = cut a.var; order = cut a.order; point = cut_whole a.point })
