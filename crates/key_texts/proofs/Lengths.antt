-- Every line has room, so that it stands whole at the front of the output.
-- Assumes nothing.
use mathlib.Core.Path.{◌≡◌, ap, sym, ◌∙◌}
use mathlib.Core.Bool.{Bool, true, false, cond}
use mathlib.Core.List.{List, [], ◌∷◌, ◌++◌}
use Prim.Native.Nat.{ℕ, suc, ◌+◌, ◌≤◌}
use native.Mathlib.Omega.{arith}
use lib.Dec.{ltb}
use lib.IntN.{ℤ, pos, negsuc}
use lib.ListN.{length, take, drop, length-append}
use lib.Seq.{take-append_seam}
use Rattle.low_bytes.specs.Output.{Wrote}
use Rattle.low_bytes.proofs.Writing.{counted, in_place}
use Rattle.text.specs.Text.{letters, letter_a, letter_x, underscore, bytes, decimal, signed_decimal, display}
use Rattle.text.proofs.Digits.{decimal_is_short}
use Rattle.pool.specs.declared.node.Node.{Node}
use Rattle.pool.specs.declared.node.Node.TheVariants.{Empty, Variable, Lit, Add, Mul, Div, Exp, Log, Pow, Max}
use Rattle.key_strip.specs.Machine.{keys_of}
use Rattle.key_texts.specs.Texts.{key_line, lines_of, listing_of}
use Rattle.key_texts.specs.Lines.{line_room}

-- ---- how long a line is

display_is_short : (v : ℕ) → length (display v) ≤ 22
unfolding display
display_is_short v = go (ltb v letters)
  where
    go : (t : Bool) → length (cond t ((letter_a + v) ∷ []) (letter_x ∷ underscore ∷ decimal v)) ≤ 22
    go true = omega arith
    go false = omega (arith, decimal_is_short v)

literal_is_short : (z : ℤ) → length (signed_decimal z) ≤ 22
unfolding signed_decimal
literal_is_short (pos n) = omega (arith, decimal_is_short n)
literal_is_short (negsuc n) = omega (arith, decimal_is_short (suc n))

abbrev line_end : List ℕ
line_end = bytes "\n"

pub line_is_short : (key : Node) → length (key_line key) ≤ line_room
line_is_short Empty = omega arith
line_is_short (Variable v) = omega (arith, display_is_short v, length-append (display v) line_end)
line_is_short (Lit z) = omega (arith, literal_is_short z, length-append (signed_decimal z) line_end)
line_is_short (Add a b) = omega arith
line_is_short (Mul a b) = omega arith
line_is_short (Div a b) = omega arith
line_is_short (Exp a) = omega arith
line_is_short (Log a) = omega arith
line_is_short (Pow a e) = omega (arith, decimal_is_short e, length-append (decimal e) line_end)
line_is_short (Max a b) = omega arith

-- ---- where it stands

module _ (text out : List ℕ) {to : ℕ} {after : List ℕ} (w : Wrote 0 out text to after) (short : length text ≤ line_room) (room : line_room ≤ length out) where
  end_is : to ≡ length text
  end_is = omega (arith, counted text w)

  stands : after ≡ text ++ drop (length text) out
  stands = in_place text w (omega arith) (omega arith)

  pub at_front : take to after ≡ text
  at_front = rw (stands, end_is) (take-append_seam text (drop (length text) out))

  pub end_fits : to ≤ length after
  end_fits = rw stands (omega (arith, end_is, length-append text (drop (length text) out)))

-- the first line of a listing, and the others
pub listing_from_its_first_key :
    (strip : List ℕ) (at next : ℕ) {key : Node} {line : List ℕ}
    → keys_of (drop at strip) ≡ key ∷ keys_of (drop next strip)
    → line ≡ key_line key
    → listing_of (drop at strip) ≡ line ++ listing_of (drop next strip)
unfolding lines_of
listing_from_its_first_key strip at next e f = ap lines_of e ∙ ap (λ (l : List ℕ). l ++ listing_of (drop next strip)) (sym f)
