-- `node_write::put_entries` meets its contract: one entry more is put.
-- Assumes nothing.
use Rattle.std.proofs.Common.{rules}
use Rattle.node_write.proofs.Putting.{entry_put}
use Rattle.node_write.proofs.put_entries.Goals as goal

pub loop-m-preserved : goal.loop-m-preserved
loop-m-preserved c = search (rules, entry_put)
