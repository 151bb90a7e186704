-- What the code keeps of a line of values: as many of them as find a place in the table.
-- Assumes nothing.
use Rattle.std.specs.Prelude.{◌≡◌, cond, List, ℕ, ◌+◌, ◌≤◌, min, ltb, Float, length, take, set, Option, Some, None}

-- the answer and the table, as what was read
abbrev pub in_table : Option ℕ → List Float → Option (List Float)
in_table None table = None
in_table (Some n) table = Some (take n table)

-- the first of the values, at most so many
abbrev pub at_most : ℕ → Option (List Float) → Option (List Float)
at_most room None = None
at_most room (Some xs) = Some (take room xs)

abbrev pub count_of : Option ℕ → ℕ
count_of None = 0
count_of (Some n) = n

-- the table has the values, as many as find a place
pub record Fills (r : Option ℕ) (table : List Float) (given : Option (List Float)) : Type 0 where
  pub gives : in_table r table ≡ at_most (length table) given
  pub within : count_of r ≤ length table

-- a table with one value more, if it has a place for it, and how many it has then
unfoldable pub kept : List Float → ℕ → Float → List Float
kept table n x = cond (ltb n (length table)) (set table n x) table

unfoldable pub place_after : ℕ → List Float → ℕ
place_after n table = min (n + 1) (length table)
