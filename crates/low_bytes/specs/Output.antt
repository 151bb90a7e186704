-- A text written to an output from a position on, byte after byte, and cut off past the longest one.
-- Assumes nothing.
use Rattle.std.specs.Prelude.{◌≡◌, Bool, ◌&&◌, List, ℕ, ◌+◌, ◌≤◌, min, leb, length}
use Rattle.std.proofs.lemmas.List.Edits.{sets}

-- 19. "a text has more than 65,535 bytes"; C-20: "19 a strip above 65,535 bytes"
abbrev pub longest_text : ℕ
longest_text = 65535

-- not 19. "The lent output is too short, or a text has more than 65,535 bytes."
abbrev pub text_fits : List ℕ → List ℕ → Bool
text_fits text out = leb (length text) longest_text && leb (length text) (length out)

-- where counting stops: a text of this many bytes or more is too long
abbrev pub past_longest : ℕ
past_longest = longest_text + 1

-- a text written from a position on: the position after it, and, where that is not past the longest text, the bytes in place one by one
pub record Wrote (at : ℕ) (before text : List ℕ) (to : ℕ) (after : List ℕ) : Type 0 where
  pub end : to ≡ min (at + length text) past_longest
  pub bytes : at + length text ≤ longest_text → after ≡ sets before at text
