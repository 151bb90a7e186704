-- The writing order of nodes.bin: the walk that numbers the nodes reachable from the roots, and the entries that stand by these numbers. It is stated for a list of roots in turn; a node file has one.
-- Assumes nothing.
use Rattle.std.specs.Prelude.{Bool, true, false, cond, List, [], ◌∷◌, map, reverse, ℕ, zero, suc, eqb, length}
use Rattle.pool.specs.Nodes.{parts}
use Rattle.pool.specs.Pool.{limit}
use Rattle.pool.specs.declared.node.Node.{Node}
use Rattle.shape.specs.Shape.{rename, has}

-- one visit after the other, "left first"; the nodes done are a list, the last done first
abbrev pub in_turn : (List ℕ → ℕ → List ℕ) → List ℕ → List ℕ → List ℕ
in_turn visit o [] = o
in_turn visit o (i ∷ more) = in_turn visit (visit o i) more

-- "numbers a node .. when its parts are done, left first, each node once"
abbrev pub visit_once : Bool → (List ℕ → ℕ → List ℕ) → List ℕ → ℕ → List ℕ → List ℕ
visit_once true visit o i its_parts = o
visit_once false visit o i its_parts = i ∷ in_turn visit o its_parts

-- the walk from node i in the table p, where o are done already and node numbers are below the bound k
unfoldable pub walk : (ℕ → Node) → ℕ → List ℕ → ℕ → List ℕ
walk p zero o i = o
walk p (suc k) o i = visit_once (has o i) (λ done j. walk p k done j) o i (parts (p i))

-- the nodes that the walk over the roots in turn numbers, the last one first
unfoldable pub numbered : (ℕ → Node) → List ℕ → List ℕ
numbered p roots = in_turn (walk p limit) [] roots

-- a node's number, "from 0": how many were done before it
abbrev pub num : List ℕ → ℕ → ℕ
num [] i = zero
num (j ∷ o) i = cond (eqb i j) (length o) (num o i)

-- "Entries stand by that number and parts are given by it": the entries of nodes done in the order o
abbrev pub entries : (ℕ → Node) → List ℕ → List Node
entries p o = map (λ i. rename (num o) (p i)) (reverse o)

unfoldable pub written : (ℕ → Node) → List ℕ → List Node
written p roots = entries p (numbered p roots)

-- the roots' own numbers; that of an only root is the last
unfoldable pub written_roots : (ℕ → Node) → List ℕ → List ℕ
written_roots p roots = map (num (numbered p roots)) roots
