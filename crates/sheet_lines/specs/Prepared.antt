-- A sheet that is known to be whole before anything is printed.
-- Assumes nothing.
use Rattle.std.specs.Prelude.{◌≡◌, ◌≤◌, Bool, true, ◌&&◌, List, [], ◌∷◌, ℕ, leb, length, Some, None, IfOk}
use Rattle.low_bytes.specs.Output.{longest_text}
use Rattle.pool.specs.declared.node.Node.{Node}
use Rattle.pool.specs.Pool.{Out, done, refused}
use Rattle.walks.specs.Print.{text_of}
use Rattle.taylor.specs.Work.{Result}
use Rattle.taylor.specs.Expansion.{Expansion}
use Rattle.taylor.specs.Expand.{Point, expand}
use Rattle.taylor.specs.declared.expansion.Expansion.TheVariants.{Constant, Polynomial}
use Rattle.shape.specs.File.{read_file}
use Rattle.inputs.specs.Rooms.{Holds}
use Rattle.sheet_text.specs.Line.{Line, parse}
use Rattle.sheet_text.specs.Sheet.{Coefficients, empty, expand_root, sheet}
use Rattle.sheet_page.specs.Pages.{Sheet, whole_of, Printable}

-- no text is above 65,535 bytes
abbrev pub all_short : (ℕ → Node) → List ℕ → Bool
all_short at [] = true
all_short at (c ∷ cs) = leb (length (text_of at c)) longest_text && all_short at cs

-- a constant has coefficient 0 only
abbrev pub nodes_of : Expansion → List ℕ
nodes_of (Constant c) = c ∷ []
nodes_of (Polynomial cs) = cs

-- the expansion of the root that a file has
abbrev pub expand_found : ℕ → Point → ℕ → Out → Result Expansion
expand_found v x order (done root P) = expand root v x order P
expand_found v x order (refused k) = refused k

abbrev pub expand_file : List ℕ → ℕ → Point → ℕ → Result Expansion
expand_file file v x order = expand_found v x order (read_file file empty)

-- the coefficients, where the line's numbers are in their ranges
abbrev pub file_coefficients : List ℕ → ℕ → ℕ → Point → Coefficients
file_coefficients file v order x = expand_root v order x (read_file file empty)

-- the pieces of the page in order are the text, and each can be put; coefficient 0 is among them, where no message stands
pub record Prepared (page : Sheet) (ks ws text : List ℕ) : Type 0 where
  pub whole : whole_of page ks ws ≡ text
  pub printable : Printable page ks ws
  pub some : IfOk page (λ p. 1 ≤ p.lines)

-- "Anything else prints `usage`, before the file is looked at": where the line asks for a sheet, the room has what was read of the file
abbrev pub LookedAt : Line → List ℕ → ℕ → List ℕ → Type 0
LookedAt None room n file = Unit {0}
LookedAt (Some a) room n file = Holds room n file

-- whatever file and line were read into the rooms, n and m bytes of them, the page is their sheet
abbrev pub PreparedFrom : List ℕ → ℕ → List ℕ → ℕ → Sheet → List ℕ → List ℕ → Type 0
PreparedFrom fileRoom n line_room m page ks ws =
    (file line : List ℕ) → Holds line_room m line → LookedAt (parse line) fileRoom n file → Prepared page ks ws (sheet file line)
