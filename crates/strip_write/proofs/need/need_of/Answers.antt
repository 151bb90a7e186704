-- `need::need_of` meets its contract: past the tables there is no node, and what the root needs is in the tables that were filled.
-- Assumes nothing.
use mathlib.Core.Path.{refl}
use native.Mathlib.Omega.{arith}
use Rattle.strip_write.proofs.Tables.{node_needs, no_node_needs}
use Rattle.strip_write.proofs.need.need_of.Goals as goal

pub returns-then-root-ge-LIMIT : goal.returns-then-root-ge-LIMIT
returns-then-root-ge-LIMIT c = no_node_needs c.args.tables.kinds.now c.args.tables.words.now c.if-root-ge-LIMIT.true refl refl

pub returns : goal.returns
returns c = node_needs c.fill.ensures c.of.ensures (omega arith)
