-- Both tables of a pool that is only read, as the code has them: by reference. The node at each number.
-- Assumes nothing.
use Rattle.std.specs.Prelude.{ℕ}
use Rattle.pool.specs.Pool.{node_in}
use Rattle.pool.specs.declared.node.Node.{Node}
use Rattle.pool.specs.declared.table.Tables.{Tables}

abbrev pub nodes : Tables → ℕ → Node
nodes tables = node_in tables.kinds.now tables.words.now
