-- What a line asks for, from its fields as they were read: a field that is no number is `usage`.
-- Assumes nothing.
use Rattle.std.proofs.Common.{◌≡◌, refl, ap, sym, ◌∙◌, List, [], ◌∷◌, length, take, pos}
use Prim.Native.Nat.{ℕ, zero, suc, ◌≤◌, ◌<◌}
use native.Mathlib.Omega.{arith}
use lib.IntN.{neg_ℤ}
use borrow.Author.Tests.{eq-eqb, ne_eqb, le-leb, lt-leb}
use mir.Syntax.{w64}
use mir.Val.{SFits}
use Rattle.std.specs.Prelude.{Option, Some, None}
use Rattle.std.proofs.lemmas.Int.{fits_signed_from_abs}
use Rattle.literal.proofs.Sizes.{size_negation}
use Rattle.sheet_text.specs.Line.{decimal_of, negative, positive, point_of, line_of, longest_line, parse}
use Rattle.sheet_line.specs.Cut.{cut_at, cut, cut_number, cut_whole, cut_line}
use Rattle.sheet_line.specs.Split.{content_length, split}
use Rattle.sheet_line.proofs.Cutting.{cut_within}
use Rattle.sheet_line.proofs.Splitting.{split_content}

pub no_value : {A : Type 0} (x : A) → None ≡ Some x → ⊥
no_value x e = cc

pub number_within : (r : Option ℕ) {n : ℕ} → Some n ≡ cut_number r → n ≤ cut_at
number_within None e = absurd (no_value _ (sym e))
number_within (Some m) {n} e = let f : n ≡ cut m = cc in omega (arith, cut_within m)

pub minus_fits : (n : ℕ) → n ≤ cut_at → SFits w64 (neg_ℤ (pos n))
minus_fits n h = fits_signed_from_abs w64 (neg_ℤ (pos n)) (omega (arith, size_negation (pos n)))

no_negative : (r : Option ℕ) → None ≡ cut_number r → None ≡ cut_whole (negative r)
no_negative None e = refl
no_negative (Some n) e = absurd (no_value _ e)

zero_negative : (r : Option ℕ) {n : ℕ} → Some n ≡ cut_number r → n ≡ 0 → None ≡ cut_whole (negative r)
zero_negative None e h = refl
zero_negative (Some zero) e h = refl
zero_negative (Some (suc m)) {n} e h = let f : n ≡ cut (suc m) = cc in absurd (omega arith)

some_negative : (r : Option ℕ) {n : ℕ} → Some n ≡ cut_number r → (n ≡ 0 → ⊥) → Some (neg_ℤ (pos n)) ≡ cut_whole (negative r)
some_negative None e h = absurd (no_value _ (sym e))
some_negative (Some zero) {n} e h = let f : n ≡ cut zero = cc in absurd (omega arith)
some_negative (Some (suc m)) {n} e h = let f : n ≡ cut (suc m) = cc in ap (λ (k : ℕ). Some (neg_ℤ (pos k))) f

no_positive : (r : Option ℕ) → None ≡ cut_number r → None ≡ cut_whole (positive r)
no_positive None e = refl
no_positive (Some n) e = absurd (no_value _ e)

some_positive : (r : Option ℕ) {n : ℕ} → Some n ≡ cut_number r → Some (pos n) ≡ cut_whole (positive r)
some_positive None e = absurd (no_value _ (sym e))
some_positive (Some m) {n} e = let f : n ≡ cut m = cc in ap (λ (k : ℕ). Some (pos k)) f

pub no_byte : (bytes : List ℕ) → length bytes ≡ 0 → None ≡ cut_whole (point_of bytes)
unfolding point_of
no_byte [] e = refl
no_byte (b ∷ bs) e = absurd (omega arith)

-- a minus in front
module _ (bytes : List ℕ) (b : ℕ) (bs : List ℕ) (is : bytes ≡ b ∷ bs) (minus : b ≡ 45) where
  after_minus : negative (decimal_of bs) ≡ point_of bytes
  unfolding point_of
  after_minus = rw (is, eq-eqb b 45 minus) refl

  pub minus_none : None ≡ cut_number (decimal_of bs) → None ≡ cut_whole (point_of bytes)
  minus_none e = no_negative (decimal_of bs) e ∙ ap cut_whole after_minus

  pub minus_zero : {n : ℕ} → Some n ≡ cut_number (decimal_of bs) → n ≡ 0 → None ≡ cut_whole (point_of bytes)
  minus_zero e h = zero_negative (decimal_of bs) e h ∙ ap cut_whole after_minus

  pub minus_some : {n : ℕ} → Some n ≡ cut_number (decimal_of bs) → (n ≡ 0 → ⊥) → Some (neg_ℤ (pos n)) ≡ cut_whole (point_of bytes)
  minus_some e h = some_negative (decimal_of bs) e h ∙ ap cut_whole after_minus

-- no minus in front
module _ (bytes : List ℕ) (b : ℕ) (bs : List ℕ) (is : bytes ≡ b ∷ bs) (plain : b ≡ 45 → ⊥) where
  without_minus : positive (decimal_of bytes) ≡ point_of bytes
  unfolding point_of
  without_minus = rw (is, ne_eqb b 45 plain) refl

  pub plain_none : None ≡ cut_number (decimal_of bytes) → None ≡ cut_whole (point_of bytes)
  plain_none e = no_positive (decimal_of bytes) e ∙ ap cut_whole without_minus

  pub plain_some : {n : ℕ} → Some n ≡ cut_number (decimal_of bytes) → Some (pos n) ≡ cut_whole (point_of bytes)
  plain_some e = some_positive (decimal_of bytes) e ∙ ap cut_whole without_minus

-- more than three fields
pub too_many : (var order : List ℕ) (more : List (List ℕ)) → 1 < length more → line_of (var ∷ order ∷ more) ≡ None
too_many var order [] h = absurd (omega arith)
too_many var order (f ∷ []) h = absurd (omega arith)
too_many var order (f ∷ q ∷ more) h = refl

-- the line
pub too_long : (line : List ℕ) → longest_line < length line → None ≡ cut_line (parse line)
unfolding parse
too_long line h = rw (lt-leb (length line) longest_line h)

pub not_too_long : (line : List ℕ) → length line ≤ longest_line → parse line ≡ line_of (split (take (content_length line) line))
unfolding parse
not_too_long line h = rw (le-leb (length line) longest_line h) (ap line_of (split_content line))
