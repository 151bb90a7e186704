-- What a page stands for: a refusal's one line, or the first line and those of the coefficients, none of which is too long.
-- Assumes nothing.
use mathlib.Core.Path.{◌≡◌, refl, sym, ap, ◌∙◌}
use mathlib.Core.Bool.{Bool, true, false, ◌&&◌, false≢true}
use mathlib.Core.Logic.{◌⊎◌, inl, inr}
use mathlib.Core.List.{List, [], ◌∷◌, ◌++◌, append-nil}
use Prim.Native.Nat.{ℕ, zero, suc, ◌+◌, ◌≤◌, ◌<◌}
use native.Mathlib.Omega.{arith}
use native.Mathlib.Decide.{ℕ_discrete}
use lib.Dec.{leb}
use lib.ListN.{length, take, drop, get_or}
use lib.Seq.{drop-cons, get_or-take, take_all}
use borrow.Author.Tests.{le-leb, lt-leb, leb-true}
use Rattle.low_bytes.specs.Output.{longest_text}
use Rattle.refusals.specs.Refusals.{unknown_variable, not_literal, wrong_order, no_room}
use Rattle.pool.specs.declared.node.Node.{Node}
use Rattle.pool.specs.Nodes.{greatest_variable}
use Rattle.shape.specs.File.{read_file}
use Rattle.lent.proofs.Finishing.{and_left, and_right}
use Rattle.walks.specs.Print.{text_of}
use Rattle.taylor.specs.Expansion.{Expansion, greatest_order}
use Rattle.taylor.specs.Expand.{Point, is_point}
use Rattle.sheet_page.proofs.Whole.{texts_from, whole_is}
use Rattle.std.specs.Prelude.{Result, Ok, Err}
use Rattle.std.specs.Result.{IsErrAnd}
use Rattle.refusals.specs.Numbers.{number}
use Rattle.refusals.specs.declared.Refusal.{Refusal}
use Rattle.pool.specs.Pool.{Pool, Out, done, refused, node_at, node_in}
use Rattle.pool.specs.Made.{made}
use Rattle.taylor.specs.Coefficients.{terms}
use Rattle.taylor.specs.declared.expansion.Expansion.TheVariants.{Constant, Polynomial}
use Rattle.sheet_text.specs.Sheet.{Coefficients, print_all, coefficients_of, coefficients, empty, expand_root, sheet_text, lines_from}
use Rattle.sheet_page.specs.declared.first.Message.{Message}
use Rattle.sheet_page.specs.declared.first.Message.TheVariants.{Refused}
use Rattle.sheet_page.specs.Pages.{Sheet, head_of, text_at, whole_of}
use Rattle.sheet_lines.specs.Prepared.{all_short, nodes_of, expand_found, expand_file, file_coefficients, Prepared}

none_below : {A : Type 0} {n : ℕ} → n < 0 → A
none_below {A} {n} h = absurd (never n h)
  where
    never : (n : ℕ) → n < 0 → ⊥
    never n h = omega arith

-- ---- a message
message_whole : (m : Message) (ks ws : List ℕ) → whole_of (Err m) ks ws ≡ head_of (Err m)
unfolding texts_from lines_from
message_whole m ks ws = whole_is (Err m) ks ws ∙ append-nil (head_of (Err m))

pub message_prepared : (m : Message) (ks ws : List ℕ) {text : List ℕ} → head_of (Err m) ≡ text → Prepared (Err m) ks ws text
message_prepared m ks ws h = record { whole = message_whole m ks ws ∙ h; printable = record { few = omega arith; short = λ i l. none_below l }; some = tt }

-- ---- the texts of all coefficients
module _ (at : ℕ → Node) where
  abbrev pub texts_of : List ℕ → List (List ℕ)
  texts_of [] = []
  texts_of (c ∷ cs) = text_of at c ∷ texts_of cs

  pub each_short : (cs : List ℕ) → all_short at cs ≡ true → (i : ℕ) → i < length cs → length (text_of at (get_or cs i 0)) ≤ longest_text
  each_short [] h i l = none_below l
  each_short (c ∷ cs) h zero l = leb-true (length (text_of at c)) longest_text (and_left (leb (length (text_of at c)) longest_text) _ h)
  each_short (c ∷ cs) h (suc i) l = each_short cs (and_right (leb (length (text_of at c)) longest_text) _ h) i (omega arith)

  -- ---- by a loop
  none_left : {A : Type 0} {m : ℕ} → suc m ≤ 0 → A
  none_left {A} {m} h = absurd (never m h)
    where
      never : (m : ℕ) → suc m ≤ 0 → ⊥
      never m h = omega arith

  all_are_short : (m : ℕ) (cs : List ℕ) → m ≤ length cs → ((i : ℕ) → i < m → length (text_of at (get_or cs i 0)) ≤ longest_text) → true ≡ all_short at (take m cs)
  all_are_short zero cs l h = refl
  all_are_short (suc m) [] l h = none_left l
  all_are_short (suc m) (c ∷ cs) l h =
      rw (le-leb (length (text_of at c)) longest_text (h 0 (omega arith)), ← all_are_short m cs (omega arith) (λ i k. h (suc i) (omega arith))) refl

  one_is_long : (m : ℕ) (cs : List ℕ) (i : ℕ) → m ≤ length cs → i < m → longest_text < length (text_of at (get_or cs i 0)) → false ≡ all_short at (take m cs)
  one_is_long zero cs i l k h = none_below k
  one_is_long (suc m) [] i l k h = none_left l
  one_is_long (suc m) (c ∷ cs) zero l k h = rw (lt-leb (length (text_of at c)) longest_text h) refl
  one_is_long (suc m) (c ∷ cs) (suc i) l k h = go (leb (length (text_of at c)) longest_text) (one_is_long m cs i (omega arith) (omega arith) h)
    where
      go : (t : Bool) → false ≡ all_short at (take m cs) → false ≡ (t && all_short at (take m cs))
      go true e = e
      go false e = refl

  pub long_one : (cs : List ℕ) (i : ℕ) → i < length cs → longest_text < length (text_of at (get_or cs i 0)) → false ≡ all_short at cs
  long_one cs i k h = one_is_long (length cs) cs i (omega arith) k h ∙ ap (all_short at) (take_all (length cs) cs (omega arith))

  pub all_ones : (cs : List ℕ) → ((i : ℕ) → i < length cs → length (text_of at (get_or cs i 0)) ≤ longest_text) → true ≡ all_short at cs
  all_ones cs h = all_are_short (length cs) cs (omega arith) h ∙ ap (all_short at) (take_all (length cs) cs (omega arith))

-- ---- printing them
module _ (P : Pool) where
  pub all_printed : (cs : List ℕ) → all_short (node_at P) cs ≡ true → print_all P cs ≡ Ok (texts_of (node_at P) cs)
  all_printed [] h = refl
  all_printed (c ∷ cs) h =
      let first : leb (length (text_of (node_at P) c)) longest_text ≡ true = and_left (leb (length (text_of (node_at P) c)) longest_text) _ h in
      let rest = all_printed cs (and_right (leb (length (text_of (node_at P) c)) longest_text) _ h) in
      rw (rest, first) refl

  -- one is too long: 19, since nothing else is refused
  only_19 : (cs : List ℕ) → (print_all P cs ≡ Ok (texts_of (node_at P) cs)) ⊎ (print_all P cs ≡ Err no_room)
  only_19 [] = inl refl
  only_19 (c ∷ cs) = go (only_19 cs) (leb (length (text_of (node_at P) c)) longest_text) refl
    where
      go : (print_all P cs ≡ Ok (texts_of (node_at P) cs)) ⊎ (print_all P cs ≡ Err no_room) → (t : Bool) → leb (length (text_of (node_at P) c)) longest_text ≡ t
          → (print_all P (c ∷ cs) ≡ Ok (texts_of (node_at P) (c ∷ cs))) ⊎ (print_all P (c ∷ cs) ≡ Err no_room)
      go (inl e) true h = inl (rw (e, h) refl)
      go (inl e) false h = inr (rw (e, h) refl)
      go (inr e) t h = inr (rw e refl)

  pub one_not_printed : (cs : List ℕ) → all_short (node_at P) cs ≡ false → print_all P cs ≡ Err no_room
  one_not_printed [] h = absurd (false≢true (sym h))
  one_not_printed (c ∷ cs) h = go (leb (length (text_of (node_at P) c)) longest_text) refl (only_19 cs) (one_not_printed cs)
    where
      go : (t : Bool) → leb (length (text_of (node_at P) c)) longest_text ≡ t → (print_all P cs ≡ Ok (texts_of (node_at P) cs)) ⊎ (print_all P cs ≡ Err no_room) → (all_short (node_at P) cs ≡ false → print_all P cs ≡ Err no_room)
          → print_all P (c ∷ cs) ≡ Err no_room
      go true e known rest = rw (rest (rw e at h)) refl
      go false e (inl known) rest = rw (known, e) refl
      go false e (inr known) rest = rw known refl

-- ---- the coefficients of an expansion
coefficients_are : (e : Expansion) (P : Pool) → coefficients_of (done e P) ≡ print_all P (nodes_of e)
coefficients_are (Constant c) P = refl
coefficients_are (Polynomial cs) P = refl

-- ---- a page with coefficients
-- the first n of its entries are the coefficients
module _ (v order : ℕ) (x : Point) (n : ℕ) (ns ks ws : List ℕ) {cs : List ℕ} (counted : n ≡ length cs) (least : 1 ≤ n) (few : n ≤ terms) (first : take (length cs) ns ≡ cs) (short : all_short (node_in ks ws) cs ≡ true) where
  abbrev page : Sheet
  page = Ok (record { var = v; order = order; point = x; lines = n; nodes = ns })

  entry_is : (i : ℕ) → i < length cs → get_or ns i 0 ≡ get_or cs i 0
  entry_is i h = sym (get_or-take (length cs) ns i 0 h) ∙ ap (λ (l : List ℕ). get_or l i 0) first

  texts_are : (todo i : ℕ) → i + todo ≤ length cs → texts_from page ks ws i todo ≡ texts_of (node_in ks ws) (take todo (drop i cs))
  unfolding texts_from
  texts_are zero i h = refl
  texts_are (suc todo) i h =
      let here : i < length cs = omega arith in
      let rest : suc i + todo ≤ length cs = omega arith in
      rw (drop-cons cs i 0 here, ← entry_is i here) (ap (λ (l : List (List ℕ)). text_at page ks ws i ∷ l) (texts_are todo (suc i) rest))

  pub lines_prepared : {c : Coefficients} → c ≡ Ok (texts_of (node_in ks ws) cs) → Prepared page ks ws (sheet_text v order x c)
  lines_prepared h =
      let most : 0 + length cs ≤ length cs = omega arith in
      let all : texts_from page ks ws 0 n ≡ texts_of (node_in ks ws) cs = ap (texts_from page ks ws 0) counted ∙ (texts_are (length cs) 0 most ∙ ap (texts_of (node_in ks ws)) (take_all (length cs) cs (omega arith))) in
      record {
        whole = rw h (whole_is page ks ws ∙ ap (λ (l : List (List ℕ)). head_of page ++ lines_from 0 l) all);
        printable = record { few = few; short = λ i l. let here : i < length cs = rw counted at l in rw (entry_is i here) (each_short (node_in ks ws) cs short i here) };
        some = least;
      }

-- ---- what the file gives
module _ (file : List ℕ) (v : ℕ) (x : Point) (order : ℕ) where
  found_is : (o : Out) → expand_root v order x o ≡ coefficients_of (expand_found v x order o)
  found_is (done root P) = refl
  found_is (refused k) = refl

  module _ {result : Result Expansion Refusal} (P : Pool) (a : made result P ≡ expand_file file v x order) where
    pub coefficients_found : {e : Expansion} → result ≡ Ok e → file_coefficients file v order x ≡ print_all P (nodes_of e)
    coefficients_found {e} is =
        let found : done e P ≡ expand_file file v x order = rw is at a in
        found_is (read_file file empty) ∙ ap coefficients_of (sym found) ∙ coefficients_are e P

    pub refusal_found : {r : Refusal} → result ≡ Err r → file_coefficients file v order x ≡ Err (number r)
    refusal_found {r} is =
        let found : refused (number r) ≡ expand_file file v x order = rw is at a in
        found_is (read_file file empty) ∙ ap coefficients_of (sym found)

-- ---- the line's numbers
module _ (file : List ℕ) (v order : ℕ) (x : Point) where
  pub no_variable : greatest_variable < v → coefficients file v order x ≡ Err unknown_variable
  unfolding coefficients
  no_variable h = rw (lt-leb v greatest_variable h) refl

  module _ (variable : v ≤ greatest_variable) where
    pub no_point : is_point x ≡ false → coefficients file v order x ≡ Err not_literal
    unfolding coefficients
    no_point h = rw (le-leb v greatest_variable variable, h) refl

    module _ (point : is_point x ≡ true) where
      pub no_order : terms ≤ order → coefficients file v order x ≡ Err wrong_order
      unfolding coefficients
      no_order h = rw (le-leb v greatest_variable variable, point, lt-leb order greatest_order (omega (arith, h))) refl

      pub in_range : order < terms → coefficients file v order x ≡ file_coefficients file v order x
      unfolding coefficients
      in_range h = rw (le-leb v greatest_variable variable, point, le-leb order greatest_order (omega (arith, h))) refl

-- what `?` makes of a refusal
pub refused_as : (r : Sheet) {k : Refusal} → IsErrAnd r (λ m. m ≡ Refused k) → r ≡ Err (Refused k)
refused_as (Ok p) h = absurd h
refused_as (Err m) h = ap Err h

-- a refusal as a sheet
pub refusal_prepared : (r : Refusal) (v order : ℕ) (x : Point) (ks ws : List ℕ) {c : Coefficients} → c ≡ Err (number r) → Prepared (Err (Refused r)) ks ws (sheet_text v order x c)
refusal_prepared r v order x ks ws h = rw h (message_prepared (Refused r) ks ws refl)

pub prepared_as : {page : Sheet} {ks ws a b : List ℕ} → a ≡ b → Prepared page ks ws a → Prepared page ks ws b
prepared_as e p = rw e at p

-- one text more that is short
pub one_more_short : (at : ℕ → Node) (cs : List ℕ) (i : ℕ) → ((j : ℕ) → j < i → length (text_of at (get_or cs j 0)) ≤ longest_text) → length (text_of at (get_or cs i 0)) ≤ longest_text → (j : ℕ) → j < i + 1 → length (text_of at (get_or cs j 0)) ≤ longest_text
one_more_short at cs i before here j h = go (ℕ_discrete j i)
  where
    go : Dec (j ≡ i) → length (text_of at (get_or cs j 0)) ≤ longest_text
    go (yes e) = rw e here
    go (no other) = before j (omega arith)
