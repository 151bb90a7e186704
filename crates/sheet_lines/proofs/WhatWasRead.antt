-- What was read decides: of a line and of a file the room has enough, and of the file nothing matters where the line asks for no sheet.
-- Assumes nothing.
use mathlib.Core.Path.{◌≡◌, refl, sym, ap, ◌∙◌}
use mathlib.Core.Logic.{⊎_elim}
use mathlib.Core.List.{List}
use Prim.Native.Nat.{ℕ, ◌<◌, ◌≤◌}
use native.Mathlib.Omega.{arith}
use lib.ListN.{length, take}
use lib.Seq.{take_all, length-take-le}
use borrow.Author.Tests.{lt-leb}
use Rattle.shape.specs.File.{read_file}
use Rattle.shape.proofs.Lists.{below_or_not}
use Rattle.taylor.specs.Expand.{Point}
use Rattle.inputs.specs.Rooms.{Holds}
use Rattle.inputs.proofs.Enough.{longest_file, room_is_enough}
use Rattle.sheet_text.specs.Line.{Line, longest_line, parse}
use Rattle.std.specs.Prelude.{Some, None}
use Rattle.sheet_text.specs.Sheet.{empty, coefficients, sheet_text, answer_to, sheet}
use Rattle.sheet_lines.specs.Prepared.{LookedAt}

-- ---- the line
pub long_is_usage : (line : List ℕ) → longest_line < length line → parse line ≡ None
unfolding parse
long_is_usage line h = rw (lt-leb (length line) longest_line h) refl

pub first_bytes_decide : (m : ℕ) → longest_line < m → (line : List ℕ) → parse (take m line) ≡ parse line
first_bytes_decide m h line = ⊎_elim longer whole (below_or_not m (length line))
  where
    longer : m < length line → parse (take m line) ≡ parse line
    longer l =
        let long : length (take m line) ≡ m = length-take-le m line (omega arith) in
        long_is_usage (take m line) (omega arith) ∙ sym (long_is_usage line (omega arith))

    whole : length line ≤ m → parse (take m line) ≡ parse line
    whole l = ap parse (take_all m line l)

-- ---- the file
pub same_coefficients : (f g : List ℕ) → read_file f empty ≡ read_file g empty → (v order : ℕ) (x : Point) → coefficients f v order x ≡ coefficients g v order x
unfolding coefficients
same_coefficients f g e v order x = rw e refl

module _ (room : List ℕ) (n : ℕ) (big : longest_file < length room) where
  pub file_decides : (line : Line) (file : List ℕ) → LookedAt line room n file → answer_to (take n room) line ≡ answer_to file line
  file_decides None file h = refl
  file_decides (Some a) file h = ap (sheet_text a.var a.order a.point) (same_coefficients (take n room) file (room_is_enough room n big file h empty) a.var a.order a.point)

  pub what_was_read_decides : (line_room : List ℕ) (m : ℕ) → longest_line < length line_room → (file line : List ℕ) → Holds line_room m line → LookedAt (parse line) room n file
      → sheet (take n room) (take m line_room) ≡ sheet file line
  unfolding sheet
  what_was_read_decides line_room m long file line h k =
      ap (answer_to (take n room)) (ap parse h ∙ first_bytes_decide (length line_room) long line) ∙ file_decides (parse line) file k
