-- The pieces are short enough to be put, and all of them in order are the sheet.
-- Assumes nothing.
use mathlib.Core.Path.{◌≡◌, refl, sym, ap, ◌∙◌}
use mathlib.Core.Bool.{Bool, true, false, ◌&&◌, cond}
use mathlib.Core.Logic.{◌≢◌}
use mathlib.Core.List.{List, [], ◌∷◌, ◌++◌, append-nil, append_assoc}
use Prim.Native.Nat.{ℕ, zero, suc, ◌+◌, ◌-◌, min, ◌≤◌, ◌<◌}
use native.Mathlib.Nat.{min-eq_left, add-zero}
use native.Mathlib.Omega.{arith}
use lib.IntN.{ℤ, pos, negsuc}
use lib.ListN.{length, length-append}
use lib.Dec.{leb, ltb}
use borrow.Author.Tests.{lt-ltb, le-ltb, ltb-true, le-leb, lt-leb, leb-true}
use Rattle.low_bytes.proofs.Writing.{counted, in_place}
use Rattle.text.specs.Text.{most_digits, decimal, signed_decimal}
use Rattle.text.proofs.Digits.{decimal_is_short}
use Rattle.low_bytes.specs.Output.{longest_text, Wrote}
use Rattle.print.specs.Output.{Printed}
use Rattle.std.specs.Prelude.{Some, None, Ok, Err}
use Rattle.taylor.specs.Coefficients.{terms}
use Rattle.taylor.specs.Expand.{Point}
use Rattle.refusals.specs.Numbers.{number}
use Rattle.sheet_page.specs.declared.first.Page.{Page}
use Rattle.sheet_page.specs.declared.first.Message.{Message}
use Rattle.sheet_text.specs.Sheet.{line_end, space, colon, refused_text, point_text, lines_from}
use Rattle.sheet_page.specs.Pages.{refused_line, first_line, Sheet, lines_in, head_of, piece_of_line, text_at, piece_of, whole_line, lines_up_to, whole_of, short, put_of, Printable, AtFront}
use Rattle.sheet_page.specs.declared.first.Message.TheVariants.{Usage, Refused}

-- ---- what is written is put
pub wrote_put : {l l' : List ℕ} {to : ℕ} (text : List ℕ) → Wrote 0 l text to l' → length text ≤ longest_text → longest_text ≤ length l → AtFront text l to l'
wrote_put text w short room =
    record { long = counted text w ∙ min-eq_left (omega arith); bytes = in_place text w (omega arith) short }

pub nothing_put : (l : List ℕ) {text : List ℕ} → [] ≡ text → AtFront text l 0 l
nothing_put l e = rw (← e) (record { long = refl; bytes = refl })

pub put_as : {x y before after : List ℕ} {n : ℕ} → x ≡ y → AtFront x before n after → AtFront y before n after
put_as e p = rw e at p

-- a piece that is short is put whole, a longer one not at all
pub put_short : {text before after : List ℕ} {n : ℕ} → length text ≤ longest_text → AtFront text before n after → AtFront (short text) before n after
put_short {text} h p = rw (le-leb (length text) longest_text h) p

-- a text by its counted length
module _ (text : List ℕ) {n : ℕ} (length_counted : n ≡ min (length text) (longest_text + 1)) where
  pub is_long : longest_text < n → longest_text < length text
  is_long h = omega (arith, length_counted)

  pub is_short : n ≤ longest_text → length text ≤ longest_text
  is_short h = omega (arith, length_counted)

-- a text that was printed into an output with room for the longest
module _ (text : List ℕ) {before after : List ℕ} {n : ℕ} (w : Printed text before n after) where
  pub long_not_put : longest_text < n → AtFront (short text) before 0 after
  long_not_put h =
      let long : longest_text < length text = is_long text w.counted h in
      rw (lt-leb (length text) longest_text long, w.too_long long) (record { long = refl; bytes = refl })

  pub short_put : n ≤ longest_text → longest_text ≤ length before → AtFront (short text) before n after
  short_put h room =
      let few : length text ≤ longest_text = is_short text w.counted h in
      let same : n ≡ length text = omega (arith, w.counted, few) in
      put_short {text = text} few (record { long = same; bytes = w.in_place few (omega arith) })

-- ---- lengths
joined_length : (xs ys : List ℕ) (m n : ℕ) → length xs ≤ m → length ys ≤ n → length (xs ++ ys) ≤ m + n
joined_length xs ys m n h k = omega (arith, length-append xs ys)

signed_short : (z : ℤ) → length (signed_decimal z) ≤ most_digits + 1
unfolding signed_decimal
signed_short (pos n) = omega (arith, decimal_is_short n)
signed_short (negsuc n) = omega (arith, decimal_is_short (suc n))

point_short : (x : Point) → length (point_text x) ≤ most_digits + 1
point_short None = omega arith
point_short (Some z) = signed_short z

pub end_short : length line_end ≤ longest_text
end_short = omega arith

pub label_short : (i : ℕ) → length (decimal i ++ colon) ≤ longest_text
label_short i = omega (arith, joined_length (decimal i) colon most_digits 2 (decimal_is_short i) two)
  where
    two : 2 ≤ 2
    two = omega arith

one : 1 ≤ 1
one = omega arith

refused_short : (k : ℕ) → length (refused_line k) ≤ longest_text
refused_short k =
    let eight : 8 ≤ 8 = omega arith in
    let front = joined_length refused_text (decimal k) 8 most_digits eight (decimal_is_short k) in
    omega (arith, joined_length (refused_text ++ decimal k) line_end (8 + most_digits) 1 front one)

first_short : (v order : ℕ) (x : Point) → length (first_line v order x) ≤ longest_text
first_short v order x =
    let n = most_digits in
    let a = joined_length (decimal v) space n 1 (decimal_is_short v) one in
    let b = joined_length (decimal v ++ space) (decimal order) (n + 1) n a (decimal_is_short order) in
    let c = joined_length (decimal v ++ space ++ decimal order) space (n + 1 + n) 1 b one in
    let d = joined_length (decimal v ++ space ++ decimal order ++ space) (point_text x) (n + 1 + n + 1) (n + 1) c (point_short x) in
    omega (arith, joined_length (decimal v ++ space ++ decimal order ++ space ++ point_text x) line_end (n + 1 + n + 1 + (n + 1)) 1 d one)

pub head_short : (page : Sheet) → length (head_of page) ≤ longest_text
head_short (Ok page) = first_short page.var page.order page.point
head_short (Err Usage) = omega arith
head_short (Err (Refused r)) = refused_short (number r)

-- ---- the lines of a page
pub no_lines : (sheet : Sheet) {m : Message} (line : ℕ) → sheet ≡ Err m → line ≢ 0 → lines_in sheet < line
no_lines sheet line is some = rw is (omega (arith, some))

pub beyond_lines : (sheet : Sheet) {page : Page} {n line : ℕ} → sheet ≡ Ok page → n ≡ page.lines → n < line → lines_in sheet < line
beyond_lines sheet is e h = rw is (omega arith)

-- ---- which piece it is
module _ (page : Sheet) (ks ws : List ℕ) where
  pub first_piece : {line part : ℕ} → line ≡ 0 → part ≡ 0 → head_of page ≡ piece_of page ks ws line part
  unfolding piece_of
  first_piece e d = rw (e, d) refl

  pub one_first_piece : {line part : ℕ} → line ≡ 0 → part ≢ 0 → [] ≡ piece_of page ks ws line part
  unfolding piece_of
  one_first_piece {line} {part} e d =
      let more : part ≡ suc (part - 1) = omega (arith, d) in
      ap (λ (n : ℕ). piece_of page ks ws 0 n) (sym more) ∙ ap (λ (n : ℕ). piece_of page ks ws n part) (sym e)

  module _ {line : ℕ} (some : line ≢ 0) where
    next : suc (line - 1) ≡ line
    next = omega (arith, some)

    pub no_line : (part : ℕ) → lines_in page < line → [] ≡ piece_of page ks ws line part
    unfolding piece_of
    no_line part h = rw (← next, le-ltb (line - 1) (lines_in page) (omega (arith, h, some))) refl

    pub of_line : line ≤ lines_in page → (part : ℕ) → piece_of_line (text_at page ks ws (line - 1)) (line - 1) part ≡ piece_of page ks ws line part
    unfolding piece_of
    of_line there part =
        ap (λ (t : Bool). cond t (piece_of_line (text_at page ks ws (line - 1)) (line - 1) part) []) (sym (lt-ltb (line - 1) (lines_in page) (omega (arith, there, some))))
        ∙ ap (λ (n : ℕ). piece_of page ks ws n part) next

-- a line has three pieces
pub no_part : (text : List ℕ) (i part : ℕ) → 2 < part → piece_of_line text i part ≡ []
no_part text i zero h = absurd (omega arith)
no_part text i (suc zero) h = absurd (omega arith)
no_part text i (suc (suc zero)) h = absurd (omega arith)
no_part text i (suc (suc (suc part))) h = refl

-- ---- all pieces in order
-- the texts of the coefficients from i on
unfoldable pub texts_from : Sheet → List ℕ → List ℕ → ℕ → ℕ → List (List ℕ)
texts_from page ks ws i zero = []
texts_from page ks ws i (suc todo) = text_at page ks ws i ∷ texts_from page ks ws (suc i) todo

module _ (page : Sheet) (ks ws : List ℕ) where
  -- the line of a coefficient
  line_is : (i : ℕ) → i < lines_in page → whole_line page ks ws (suc i) ≡ decimal i ++ colon ++ text_at page ks ws i ++ line_end
  unfolding piece_of
  line_is i h = rw (lt-ltb i (lines_in page) h) refl

  first_is : whole_line page ks ws 0 ≡ head_of page
  unfolding piece_of
  first_is = append-nil (head_of page ++ []) ∙ append-nil (head_of page)

  -- the lines of todo coefficients behind those before them
  lines_are : (todo i : ℕ) → i + todo ≤ lines_in page → lines_up_to page ks ws (suc (i + todo)) ≡ lines_up_to page ks ws (suc i) ++ lines_from i (texts_from page ks ws i todo)
  unfolding lines_up_to lines_from texts_from
  lines_are zero i h = ap (λ (n : ℕ). lines_up_to page ks ws (suc n)) (add-zero i) ∙ sym (append-nil (lines_up_to page ks ws (suc i)))
  lines_are (suc todo) i h =
      let here : i < lines_in page = omega arith in
      let next : suc i + todo ≡ i + suc todo = omega arith in
      let rest : suc i + todo ≤ lines_in page = omega arith in
      let line = decimal i ++ colon ++ text_at page ks ws i ++ line_end in
      ap (λ (n : ℕ). lines_up_to page ks ws (suc n)) (sym next) ∙ lines_are todo (suc i) rest
      ∙ ap (λ (l : List ℕ). (lines_up_to page ks ws (suc i) ++ l) ++ lines_from (suc i) (texts_from page ks ws (suc i) todo)) (line_is i here)
      ∙ append_assoc (lines_up_to page ks ws (suc i)) line (lines_from (suc i) (texts_from page ks ws (suc i) todo))

  -- the whole: the first line, and the lines of all coefficients
  pub whole_is : whole_of page ks ws ≡ head_of page ++ lines_from 0 (texts_from page ks ws 0 (lines_in page))
  unfolding lines_up_to
  whole_is =
      let all : 0 + lines_in page ≡ lines_in page = omega arith in
      let most : 0 + lines_in page ≤ lines_in page = omega arith in
      ap (λ (n : ℕ). lines_up_to page ks ws (suc n)) (sym all) ∙ lines_are (lines_in page) 0 most ∙ ap (λ (l : List ℕ). l ++ lines_from 0 (texts_from page ks ws 0 (lines_in page))) first_is

-- ---- every piece of a printable page is put whole, where there is room
module _ (page : Sheet) (ks ws : List ℕ) (p : Printable page ks ws) where
  piece_short : (line part : ℕ) → length (piece_of page ks ws line part) ≤ longest_text
  unfolding piece_of
  piece_short zero zero = head_short page
  piece_short zero (suc part) = omega arith
  piece_short (suc i) part = go (ltb i (lines_in page)) refl part
    where
      go : (t : Bool) → ltb i (lines_in page) ≡ t → (part : ℕ) → length (cond t (piece_of_line (text_at page ks ws i) i part) []) ≤ longest_text
      go true e zero = label_short i
      go true e (suc zero) = p.short i (ltb-true i (lines_in page) e)
      go true e (suc (suc zero)) = end_short
      go true e (suc (suc (suc part))) = omega arith
      go false e part = omega arith

  pub whole_put : (line part room : ℕ) → longest_text ≤ room → put_of page ks ws line part room ≡ piece_of page ks ws line part
  whole_put line part room h =
      rw (le-leb longest_text room h, le-leb (lines_in page) terms p.few, le-leb (length (piece_of page ks ws line part)) longest_text (piece_short line part)) refl

-- what is put is nothing, or the piece
module _ (page : Sheet) (ks ws : List ℕ) (line part room : ℕ) where
  pub no_room : room < longest_text → [] ≡ put_of page ks ws line part room
  no_room h = rw (lt-leb longest_text room h) refl

  pub too_many : longest_text ≤ room → terms < lines_in page → [] ≡ put_of page ks ws line part room
  too_many h k = rw (le-leb longest_text room h, lt-leb (lines_in page) terms k) refl

  pub may_be_put : longest_text ≤ room → lines_in page ≤ terms → short (piece_of page ks ws line part) ≡ put_of page ks ws line part room
  may_be_put h k = rw (le-leb longest_text room h, le-leb (lines_in page) terms k) refl

  -- what is put has room
  pub put_fits : length (put_of page ks ws line part room) ≤ room
  put_fits = go (leb longest_text room) (leb (lines_in page) terms) refl
    where
      piece : List ℕ
      piece = piece_of page ks ws line part

      is_short : (t : Bool) → leb (length piece) longest_text ≡ t → length (cond t piece []) ≤ longest_text
      is_short true e = leb-true (length piece) longest_text e
      is_short false e = omega arith

      go : (t u : Bool) → leb longest_text room ≡ t → length (cond (t && u) (short piece) []) ≤ room
      go true true e = omega (arith, is_short (leb (length piece) longest_text) refl, leb-true longest_text room e)
      go true false e = omega arith
      go false u e = omega arith
