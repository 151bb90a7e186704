-- The entries of a file by the tables of the walk: number[j], which is 0 or j's number + 1, and order[m], the node with number m.
-- Assumes nothing.
use Rattle.std.specs.Prelude.{true, ◌≡◌, List, ◌++◌, map, ℕ, ◌-◌, ◌<◌, ◌≤◌, get_or}
use Rattle.pool.specs.Nodes.{kind_of, parts}
use Rattle.pool.specs.Pool.{limit}
use Rattle.pool.specs.declared.node.Node.{Node}
use Rattle.shape.specs.Shape.{rename, has}
use Rattle.shape.specs.File.{word_bytes}
use Rattle.shape.specs.Table.{up_to}
use Rattle.node_walk.specs.declared.Numbering.{Numbering}

-- the number that a mark gives
abbrev pub number_in : List ℕ → ℕ → ℕ
number_in number j = get_or number j 0 - 1

-- node j has a number
pub record Marked (number : List ℕ) (j : ℕ) : Type 0 where
  pub below : j < limit
  pub some : 0 < get_or number j 0

abbrev pub AllMarked : List ℕ → List ℕ → Type 0
AllMarked number is = (j : ℕ) → has is j ≡ true → Marked number j

-- entry m: the node with number m, "and parts are given by it"
abbrev pub entry_by : (ℕ → Node) → Numbering → ℕ → Node
entry_by p N m = rename (number_in N.number) (p (get_or N.order m 0))

-- the entries of all nodes that have a number
abbrev pub all_entries : (ℕ → Node) → Numbering → List Node
all_entries p N = up_to N.done (entry_by p N)

-- "n kind bytes, then n words of 8 bytes"
abbrev pub bytes_of : List Node → List ℕ
bytes_of es = map kind_of es ++ word_bytes es

-- the nodes of the order are there, and all their parts have numbers
pub record Listed (p : ℕ → Node) (N : Numbering) : Type 0 where
  pub few : N.done ≤ limit
  pub parts_marked : (m : ℕ) → m < N.done → AllMarked N.number (parts (p (get_or N.order m 0)))
