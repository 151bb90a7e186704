-- What code promises that renames a node's parts by a closure.
-- Assumes nothing.
use Rattle.std.specs.Prelude.{◌≡◌, true, ℕ}
use Rattle.pool.specs.Nodes.{parts}
use Rattle.pool.specs.declared.node.Node.{Node}
use Rattle.shape.specs.Shape.{rename, has}

-- whatever function of the parts the calls have computed, the node is renamed by it; `gave part number` says that a call may have given that number
abbrev pub RenamedBy : (ℕ → ℕ → Type 0) → Node → Node → Type 0
RenamedBy gave node result = (f : ℕ → ℕ) → ((part number : ℕ) → has (parts node) part ≡ true → gave part number → number ≡ f part) → result ≡ rename f node
