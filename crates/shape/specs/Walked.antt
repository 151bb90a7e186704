-- What code that walks keeps of the nodes done: number[j], which is 0 or j's number + 1, and order[m], the node with number m. The list of nodes done, of which the definitions speak, is no value of the code.
-- Assumes nothing.
use Rattle.std.specs.Prelude.{◌≡◌, true, false, cond, List, [], ◌∷◌, reverse, ℕ, zero, suc, ◌<◌, eqb, length, get_or}
use Rattle.pool.specs.Nodes.{parts}
use Rattle.pool.specs.Pool.{limit}
use Rattle.pool.specs.declared.node.Node.{Node}
use Rattle.shape.specs.Shape.{has}

-- "Each part of a node has a smaller number than the node"
abbrev pub Falls : (ℕ → Node) → Type 0
Falls p = (i j : ℕ) → has (parts (p i)) j ≡ true → j < i

-- no node twice, and each after its parts
abbrev pub Built : (ℕ → Node) → List ℕ → Type 0
Built p [] = Unit {0}
Built p (i ∷ o) = (has o i ≡ false) × ((j : ℕ) → has (parts (p i)) j ≡ true → has o j ≡ true) × Built p o

-- number[i]
abbrev pub mark : List ℕ → ℕ → ℕ
mark [] i = zero
mark (j ∷ o) i = cond (eqb i j) (suc (length o)) (mark o i)

-- order[m]
abbrev pub node_numbered : List ℕ → ℕ → ℕ
node_numbered o m = get_or (reverse o) m 0

-- the tables `number` and `order`, and how many are done, stand for the nodes done o
pub record Walked (p : ℕ → Node) (o number order : List ℕ) (done : ℕ) : Type 0 where
  pub built : Built p o
  pub below : (i : ℕ) → has o i ≡ true → i < limit
  pub counted : length o ≡ done
  pub number_long : length number ≡ limit
  pub order_long : length order ≡ limit
  pub marked : (j : ℕ) → get_or number j 0 ≡ mark o j
  pub placed : (m : ℕ) → m < done → get_or order m 0 ≡ node_numbered o m
