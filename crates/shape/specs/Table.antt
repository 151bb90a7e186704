-- A table is a function from numbers, as `node_in` gives one for a pool; what it has at the first n numbers is a list.
-- Assumes nothing.
use Rattle.std.specs.Prelude.{List, [], ◌∷◌, ◌++◌, ℕ, zero, suc}

-- what the table q has at 0, .., n - 1
unfoldable pub up_to : {A : Type 0} → ℕ → (ℕ → A) → List A
up_to zero q = []
up_to (suc n) q = up_to n q ++ (q n ∷ [])
