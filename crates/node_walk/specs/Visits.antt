-- What the code that walks promises: what a visit does to the two tables that stand for the nodes done.
-- Assumes nothing.
use Rattle.std.specs.Prelude.{◌≡◌, List, ℕ, ◌+◌, length, get_or, set}
use Rattle.pool.specs.Pool.{limit}
use Rattle.pool.specs.declared.node.Node.{Node}
use Rattle.shape.specs.Order.{in_turn, walk}
use Rattle.shape.specs.Walked.{Walked}
use Rattle.node_walk.specs.declared.Numbering.{Numbering}

-- the tables stand for the nodes done o
abbrev pub StandsFor : (ℕ → Node) → List ℕ → Numbering → Type 0
StandsFor p o N = Walked p o N.number N.order N.done

-- the tables stand for some nodes done
abbrev pub Stands : (ℕ → Node) → Numbering → Type 0
Stands p N = (o : List ℕ) × StandsFor p o N

-- whatever nodes the tables stand for: after a visit of i they stand for those that the walk from i has then done
abbrev pub Visits : (ℕ → Node) → ℕ → Numbering → Numbering → Type 0
Visits p i N M = (o : List ℕ) → StandsFor p o N → StandsFor p (walk p limit o i) M

-- the same for visits of several nodes in turn
abbrev pub Turns : (ℕ → Node) → List ℕ → Numbering → Numbering → Type 0
Turns p is N M = (o : List ℕ) → StandsFor p o N → StandsFor p (in_turn (walk p limit) o is) M

-- no node has a number
pub record Fresh (N : Numbering) : Type 0 where
  pub number_long : length N.number ≡ limit
  pub order_long : length N.order ≡ limit
  pub none : (j : ℕ) → get_or N.number j 0 ≡ 0
  pub none_done : N.done ≡ 0

-- node i has got the next number
pub record Stored (N : Numbering) (i : ℕ) (M : Numbering) : Type 0 where
  pub numbers : M.number ≡ set N.number i (N.done + 1)
  pub orders : M.order ≡ set N.order N.done i
  pub counts : M.done ≡ N.done + 1
