-- How the code holds a short text: at the end of an array, with zeros in front of it. No part of what a text is.
-- Assumes nothing.
use Rattle.std.specs.Prelude.{◌≡◌, List, ◌++◌, ℕ, ◌-◌, ◌≤◌, length, drop, replicate}
use Rattle.text.specs.Text.{room}

-- a text, and zeros in front of it
abbrev pub array_of : List ℕ → List ℕ
array_of t = replicate (room - length t) 0 ++ t

-- the bytes of an array from start on, and zeros in front of them
pub record Stored (start : ℕ) (bytes : List ℕ) : Type 0 where
  pub most : start ≤ room
  pub long : length bytes ≡ room
  pub from : room - length (drop start bytes) ≡ start
  pub whole : array_of (drop start bytes) ≡ bytes
