-- The sheet that is made from what the code keeps of a line is the sheet of the line: that numbers are cut off cannot be told.
-- Assumes nothing.
use mathlib.Core.Path.{◌≡◌, refl, ap}
use mathlib.Core.Bool.{Bool, true, false}
use mathlib.Core.List.{List}
use Prim.Native.Nat.{ℕ}
use lib.Dec.{leb}
use Rattle.refusals.specs.Refusals.{unknown_variable, not_literal, wrong_order}
use Rattle.pool.specs.Nodes.{greatest_variable}
use Rattle.shape.specs.File.{read_file}
use Rattle.taylor.specs.Expand.{is_point}
use Rattle.std.specs.Prelude.{Some, None, Err}
use Rattle.sheet_text.specs.declared.Asked.{Asked}
use Rattle.sheet_text.specs.Line.{Line, parse}
use Rattle.taylor.specs.Expansion.{greatest_order}
use Rattle.refusals.specs.Demand.{demand}
use Rattle.sheet_text.specs.Sheet.{empty, expand_root, coefficients, sheet_text, answer_to, sheet}
use Rattle.sheet_line.specs.Cut.{cut, cut_whole, cut_line}
use Rattle.sheet_line.proofs.Cutting.{same_variable_test, whole_variable, same_order_test, whole_order, same_point_test, whole_point}

-- what is asked for, and the answer where each test holds
abbrev answer : List ℕ → Asked → Bool → Bool → Bool → List ℕ
answer file a s t u =
    sheet_text a.var a.order a.point
    (demand Err s unknown_variable
    (demand Err t not_literal
    (demand Err u wrong_order (expand_root a.var a.order a.point (read_file file empty)))))

-- a refusal names none of the numbers
same_answer : (file : List ℕ) (a b : Asked) (s t u : Bool) → (s ≡ true → t ≡ true → u ≡ true → a ≡ b) → answer file a s t u ≡ answer file b s t u
same_answer file a b false t u e = refl
same_answer file a b true false u e = refl
same_answer file a b true true false e = refl
same_answer file a b true true true e = ap (λ (c : Asked). answer file c true true true) (e refl refl refl)

-- the sheet of a line that was cut off is the sheet of the line
pub same_sheet_of : (file : List ℕ) (l : Line) → answer_to file (cut_line l) ≡ answer_to file l
unfolding coefficients
same_sheet_of file None = refl
same_sheet_of file (Some a) =
    rw (same_variable_test a.var, same_point_test a.point, same_order_test a.order)
    (same_answer file
    (record { var = cut a.var; order = cut a.order; point = cut_whole a.point })
    a
    (leb a.var greatest_variable)
    (is_point a.point)
    (leb a.order greatest_order)
    whole)
  where
    whole : leb a.var greatest_variable ≡ true → is_point a.point ≡ true → leb a.order greatest_order ≡ true → ◌≡◌ {A = Asked} (record { var = cut a.var; order = cut a.order; point = cut_whole a.point }) a
    whole s t u = rw (whole_variable a.var s, whole_order a.order u, whole_point a.point t)

pub same_sheet : (file line : List ℕ) → answer_to file (cut_line (parse line)) ≡ sheet file line
unfolding sheet
same_sheet file line = same_sheet_of file (parse line)
