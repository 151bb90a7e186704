-- What is promised of a line in an output.
-- Assumes nothing.
use Rattle.std.specs.Prelude.{◌≡◌, List, ◌++◌, ℕ, ◌<◌, ◌≤◌, length, take, drop}
use Rattle.key_texts.specs.declared.keys.KeyLine.{KeyLine}
use Rattle.key_texts.specs.Texts.{listing_of}

-- how many bytes every line has room in
abbrev pub line_room : ℕ
line_room = 32

-- the line of the key at a place stands at the front of the output, and the listing goes on from the next key
pub record LineAt (strip : List ℕ) (at : ℕ) (r : KeyLine) (out : List ℕ) : Type 0 where
  pub later : at < r.next
  pub within : r.next ≤ length strip
  pub fits : r.end ≤ length out
  pub text : listing_of (drop at strip) ≡ take r.end out ++ listing_of (drop r.next strip)

-- a line at the front of an output
pub record AtFront (line : List ℕ) (n : ℕ) (out : List ℕ) : Type 0 where
  pub fits : n ≤ length out
  pub text : take n out ≡ line
