-- The table that is filled while looking for a node that meets a test: its answers, and what it says of a part.
-- Assumes nothing.
use Rattle.std.specs.Prelude.{◌≡◌, Bool, false, cond, List, ℕ, ◌<◌, ltb, length, get_or}
use Rattle.pool.specs.Pool.{limit}
use Rattle.pool.specs.Reaches.{reaches}
use Rattle.pool.specs.declared.node.Node.{Node}

-- the answers of the code's test are those of the definition's
abbrev pub Decides : (Node → Bool → Type 0) → (Node → Bool) → Type 0
Decides answers is = (n : Node) (b : Bool) → answers n b → b ≡ is n

-- the answer for a part of node i
abbrev pub kept_below : List Bool → ℕ → ℕ → Bool
kept_below found i a = cond (ltb a i) (get_or found a false) false

-- the table has the answer of each node before number i
pub record FoundBelow (test : Node → Bool) (at : ℕ → Node) (i : ℕ) (found : List Bool) : Type 0 where
  pub long : length found ≡ limit
  pub answer : (j : ℕ) → j < i → get_or found j false ≡ reaches test at j
