-- A sheet in pieces, line by line: the first line is one piece; of each further line the index, the text and the line end are one each.
-- Assumes nothing.
use Rattle.std.specs.Prelude.{◌≡◌, ◌&&◌, cond, List, [], ◌++◌, ℕ, zero, suc, ◌≤◌, ◌<◌, leb, ltb, length, drop, Result, Ok, Err}
use Rattle.low_bytes.specs.Output.{longest_text}
use Rattle.text.specs.Text.{decimal}
use Rattle.pool.specs.Pool.{node_in}
use Rattle.walks.specs.Print.{text_of}
use Rattle.refusals.specs.Numbers.{number}
use Rattle.taylor.specs.Coefficients.{terms, at}
use Rattle.taylor.specs.Expand.{Point}
use Rattle.sheet_text.specs.Sheet.{line_end, space, colon, usage_text, refused_text, point_text}
use Rattle.sheet_page.specs.declared.first.Page.{Page}
use Rattle.sheet_page.specs.declared.first.Message.{Message}
use Rattle.sheet_page.specs.declared.first.Message.TheVariants.{Usage, Refused}

abbrev pub Sheet : Type 0
Sheet = Result Page Message

-- `refused`, one space and the number
abbrev pub refused_line : ℕ → List ℕ
refused_line k = refused_text ++ decimal k ++ line_end

-- variable, order, point or `none`
abbrev pub first_line : ℕ → ℕ → Point → List ℕ
first_line v order x = decimal v ++ space ++ decimal order ++ space ++ point_text x ++ line_end

abbrev pub head_of : Sheet → List ℕ
head_of (Ok page) = first_line page.var page.order page.point
head_of (Err Usage) = usage_text ++ line_end
head_of (Err (Refused r)) = refused_line (number r)

-- the entries, of which the lines show the first ones; there are none where a message stands
abbrev pub nodes_in : Sheet → List ℕ
nodes_in (Ok page) = page.nodes
nodes_in (Err m) = []

-- how many coefficients follow the first line
abbrev pub lines_in : Sheet → ℕ
lines_in (Ok page) = page.lines
lines_in (Err m) = 0

-- how many pieces a line has at most
abbrev pub pieces : ℕ
pieces = 3

-- the pieces of the line of coefficient i
abbrev pub piece_of_line : List ℕ → ℕ → ℕ → List ℕ
piece_of_line text i zero = decimal i ++ colon
piece_of_line text i (suc zero) = text
piece_of_line text i (suc (suc zero)) = line_end
piece_of_line text i (suc (suc (suc part))) = []

-- the text of coefficient i
abbrev pub text_at : Sheet → List ℕ → List ℕ → ℕ → List ℕ
text_at sheet ks ws i = text_of (node_in ks ws) (at (nodes_in sheet) i)

unfoldable pub piece_of : Sheet → List ℕ → List ℕ → ℕ → ℕ → List ℕ
piece_of sheet ks ws zero zero = head_of sheet
piece_of sheet ks ws zero (suc part) = []
piece_of sheet ks ws (suc i) part = cond (ltb i (lines_in sheet)) (piece_of_line (text_at sheet ks ws i) i part) []

-- the pieces of a line, and of the first n lines
abbrev pub whole_line : Sheet → List ℕ → List ℕ → ℕ → List ℕ
whole_line sheet ks ws line = piece_of sheet ks ws line 0 ++ piece_of sheet ks ws line 1 ++ piece_of sheet ks ws line 2

unfoldable pub lines_up_to : Sheet → List ℕ → List ℕ → ℕ → List ℕ
lines_up_to sheet ks ws zero = []
lines_up_to sheet ks ws (suc n) = lines_up_to sheet ks ws n ++ whole_line sheet ks ws n

-- all pieces in order: the first line and those of the coefficients
abbrev pub whole_of : Sheet → List ℕ → List ℕ → List ℕ
whole_of sheet ks ws = lines_up_to sheet ks ws (suc (lines_in sheet))

-- a piece, unless it is above 65,535 bytes
abbrev pub short : List ℕ → List ℕ
short piece = cond (leb (length piece) longest_text) piece []

-- what is put of a piece: nothing where the output has no room for the longest text, or the page more lines than an expansion has entries
abbrev pub put_of : Sheet → List ℕ → List ℕ → ℕ → ℕ → ℕ → List ℕ
put_of sheet ks ws line part room = cond (leb longest_text room && leb (lines_in sheet) terms) (short (piece_of sheet ks ws line part)) []

-- "19 here means one coefficient's text above 65,535 bytes": no text is, and every piece is put whole (`whole_put` in proofs/)
pub record Printable (sheet : Sheet) (ks ws : List ℕ) : Type 0 where
  pub few : lines_in sheet ≤ terms
  pub short : (i : ℕ) → i < lines_in sheet → length (text_at sheet ks ws i) ≤ longest_text

-- a piece at the front of the output, which is otherwise as before
pub record AtFront (text before : List ℕ) (n : ℕ) (after : List ℕ) : Type 0 where
  pub long : n ≡ length text
  pub bytes : after ≡ text ++ drop (length text) before
