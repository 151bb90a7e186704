-- How the code holds a list of coefficients: an array of 25, "0 past the list's end". No part of what an expansion means.
-- Assumes nothing.
use Rattle.std.specs.Prelude.{◌≡◌, List, ◌++◌, ℕ, ◌-◌, ◌≤◌, length, take, replicate}
use Rattle.taylor.specs.Coefficients.{terms}

-- a list, and zeros past its end
abbrev pub array_of : List ℕ → List ℕ
array_of cs = cs ++ replicate (terms - length cs) 0

-- 1 to 25 entries of an array, and zeros past them
pub record Stored (len : ℕ) (entries : List ℕ) : Type 0 where
  pub least : 1 ≤ len
  pub most : len ≤ terms
  pub long : length (take len entries) ≡ len
  pub whole : array_of (take len entries) ≡ entries
