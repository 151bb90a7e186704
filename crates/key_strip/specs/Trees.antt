-- C-20: the strips of all trees that keep document 01's table. Nothing here speaks of nodes in a pool or of the machine.
-- Assumes nothing.
use Rattle.std.specs.Prelude.{◌≡◌, true, List, [], ◌∷◌, ◌++◌, ℕ, ◌+◌, ◌≤◌, max, ℤ}
use Rattle.low_bytes.specs.LowBytes.{low_bytes}
use Rattle.literal.specs.Literal.{is_literal, word}
use Rattle.pool.specs.Nodes.{greatest_variable, least_exponent, greatest_exponent}
use Rattle.key_strip.specs.Strip.{most_places, combines}

-- the strip of a tree, and the places that it needs
pub data StripOfTree : ℕ → List ℕ → Type 0 where
  -- "Code 1 pushes a variable (16 bits follow)"
  variable : (v : ℕ) → v ≤ greatest_variable → StripOfTree 1 (1 ∷ low_bytes 2 v)
  -- "2 a literal (64 bits follow)"
  literal : (z : ℤ) → is_literal z ≡ true → StripOfTree 1 (2 ∷ low_bytes 8 (word z))
  -- "3, 4, 5 and 9 combine the two topmost values, the lower one being the left": left part, right part, code
  combined : (code m n : ℕ) (left right : List ℕ) → combines code ≡ true → StripOfTree m left → StripOfTree n right → StripOfTree (max m (n + 1)) (left ++ (right ++ (code ∷ [])))
  -- "8 raises the topmost (32 bits of exponent follow)"
  raised : (e n : ℕ) (base : List ℕ) → least_exponent ≤ e → e ≤ greatest_exponent → StripOfTree n base → StripOfTree n (base ++ (8 ∷ low_bytes 4 e))

-- a tree's strip within the machine's places
abbrev pub IsTreesStrip : List ℕ → Type 0
IsTreesStrip bs = (n : ℕ) × (n ≤ most_places) × StripOfTree n bs
