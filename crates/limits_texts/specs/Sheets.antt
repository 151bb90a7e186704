-- The limits and the refusal numbers in the text that the program `sheet` prints.
-- Assumes nothing.
use Rattle.std.specs.Prelude.{◌≡◌, List, [], ◌++◌, ℕ, length, replicate}
use Rattle.sheet_text.specs.Sheet.{sheet}
use Rattle.limits.specs.Lent.{lent, text65535, text65536}
use Rattle.limits.specs.Calls.{file}
use Rattle.text.specs.Text.{bytes}
use Rattle.limits.specs.Digits.{hex}

-- the file of the literal 7
abbrev pub seven : List ℕ
seven = hex "01000000 02 0700000000000000"

-- a line of 4 bytes and so many digits 1
abbrev pub ones : ℕ → List ℕ
ones n = bytes "0 2 " ++ replicate n 49

pub record Sheets : Type 0 where
  -- "a line end .. or none, 64 bytes at most": a point of 60 digits is outside the range
  pub line_of_64 : sheet seven (ones 60) ≡ bytes "refused 4\n"
  pub line_of_65 : sheet seven (ones 61) ≡ bytes "usage\n"
  pub line_of_63_and_its_end : sheet seven (ones 59 ++ bytes "\n") ≡ bytes "refused 4\n"
  pub line_of_64_and_its_end : sheet seven (ones 60 ++ bytes "\n") ≡ bytes "usage\n"
  -- 3, 4, 5, before 7
  pub line_variable_65535 : sheet seven (bytes "65535 0\n") ≡ bytes "65535 0 none\n0: 7\n"
  pub line_variable_65536 : sheet [] (bytes "65536 25 9007199254740992\n") ≡ bytes "refused 3\n"
  pub line_point_greatest : sheet seven (bytes "0 0 9007199254740991\n") ≡ bytes "0 0 9007199254740991\n0: 7\n"
  pub line_point_above : sheet [] (bytes "0 25 9007199254740992\n") ≡ bytes "refused 4\n"
  pub line_point_least : sheet seven (bytes "0 0 -9007199254740991\n") ≡ bytes "0 0 -9007199254740991\n0: 7\n"
  pub line_point_below : sheet [] (bytes "0 0 -9007199254740992\n") ≡ bytes "refused 4\n"
  pub line_order_24 : sheet seven (bytes "0 24\n") ≡ bytes "0 24 none\n0: 7\n"
  pub line_order_25 : sheet [] (bytes "0 25\n") ≡ bytes "refused 5\n"
  -- "a missing one counting as 0 bytes"
  pub no_file : sheet [] (bytes "0 24\n") ≡ bytes "refused 7\n"
  -- "19 here means one coefficient's text above 65,535 bytes": the line `1 0 none`, then `0: `, the text and a line end
  pub coefficient_65535 : length (sheet (file 148 15 (lent text65535)) (bytes "1 0\n")) ≡ 65548
  pub coefficient_65536 : sheet (file 283 30 (lent text65536)) (bytes "1 0\n") ≡ bytes "refused 19\n"
