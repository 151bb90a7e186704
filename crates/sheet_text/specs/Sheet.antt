-- The coefficient sheet, from the bytes of nodes.bin and of the line: the whole text that the program `sheet` prints.
-- Assumes nothing.
use Rattle.std.specs.Prelude.{Some, None, Ok, Err, List, [], ◌∷◌, ◌++◌, ℕ, suc, leb, length}
use Rattle.low_bytes.specs.Output.{longest_text}
use Rattle.refusals.specs.Refusals.{unknown_variable, not_literal, wrong_order, no_room}
use Rattle.refusals.specs.Demand.{demand}
use Rattle.text.specs.Text.{bytes, decimal, signed_decimal}
use Rattle.pool.specs.Nodes.{greatest_variable}
use Rattle.pool.specs.Pool.{Pool, Out, done, refused, node_at}
unfoldable pub use Rattle.pool.specs.Pool.{empty}
use Rattle.shape.specs.File.{read_file}
use Rattle.walks.specs.Print.{text_of}
use Rattle.std.specs.Prelude as std
use Rattle.taylor.specs.Work.{Result}
use Rattle.taylor.specs.Expansion.{Expansion, greatest_order}
use Rattle.taylor.specs.declared.expansion.Expansion.TheVariants.{Constant, Polynomial}
use Rattle.taylor.specs.Expand.{Point, is_point, expand}
use Rattle.sheet_text.specs.Line.{Line, parse}

-- the texts of the coefficients, or a refusal number
abbrev pub Coefficients : Type 0
Coefficients = std.Result (List (List ℕ)) ℕ

-- "19 here means one coefficient's text above 65,535 bytes"
abbrev pub printed : List ℕ → Coefficients → Coefficients
printed text (Ok more) = demand Err (leb (length text) longest_text) no_room (Ok (text ∷ more))
printed text (Err k) = Err k

abbrev pub print_all : Pool → List ℕ → Coefficients
print_all P [] = Ok []
print_all P (c ∷ cs) = printed (text_of (node_at P) c) (print_all P cs)

-- "A constant has the line for index 0 only."
abbrev pub coefficients_of : Result Expansion → Coefficients
coefficients_of (done (Constant c) P) = print_all P (c ∷ [])
coefficients_of (done (Polynomial cs) P) = print_all P cs
coefficients_of (refused k) = Err k

abbrev pub expand_root : ℕ → ℕ → Point → Out → Coefficients
expand_root v order x (done root P) = coefficients_of (expand root v x order P)
expand_root v order x (refused k) = Err k

-- "File and line then count as the arguments of one call, smallest number first": 3, 4, 5 of the line, 7, 8, 9 of the file, then the work
unfoldable pub coefficients : List ℕ → ℕ → ℕ → Point → Coefficients
unfolding empty
coefficients file v order x =
    demand Err (leb v greatest_variable) unknown_variable
    (demand Err (is_point x) not_literal
    (demand Err (leb order greatest_order) wrong_order
    (expand_root v order x (read_file file empty))))

abbrev pub line_end : List ℕ
line_end = bytes "\n"

abbrev pub space : List ℕ
space = bytes " "

abbrev pub colon : List ℕ
colon = bytes ": "

abbrev pub usage_text : List ℕ
usage_text = bytes "usage"

abbrev pub refused_text : List ℕ
refused_text = bytes "refused "

abbrev pub point_text : Point → List ℕ
point_text None = bytes "none"
point_text (Some z) = signed_decimal z

-- "each further line an index and its coefficient"
unfoldable pub lines_from : ℕ → List (List ℕ) → List ℕ
lines_from k [] = []
lines_from k (text ∷ more) = decimal k ++ colon ++ text ++ line_end ++ lines_from (suc k) more

-- "Line one is variable, order, point or `none`"; "A refusal prints `refused`, one space and the number as the only line"
abbrev pub sheet_text : ℕ → ℕ → Point → Coefficients → List ℕ
sheet_text v order x (Err k) = refused_text ++ decimal k ++ line_end
sheet_text v order x (Ok cs) = decimal v ++ space ++ decimal order ++ space ++ point_text x ++ line_end ++ lines_from 0 cs

-- "Anything else prints `usage`, before the file is looked at."
abbrev pub answer_to : List ℕ → Line → List ℕ
answer_to file None = usage_text ++ line_end
answer_to file (Some a) = sheet_text a.var a.order a.point (coefficients file a.var a.order a.point)

unfoldable pub sheet : List ℕ → List ℕ → List ℕ
sheet file line = answer_to file (parse line)
