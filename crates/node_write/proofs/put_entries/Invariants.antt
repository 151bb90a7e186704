-- `node_write::put_entries` meets its contract: after m turns the first m entries are put.
-- Assumes nothing.
use Rattle.pool.specs.Tables.{nodes}
use Rattle.node_write.specs.Entries.{entry_by}
use Rattle.node_write.proofs.Putting.{EntriesPut}
use Rattle.node_write.proofs.put_entries.Given as goal

abbrev pub invariant-loop-m : goal.invariant-loop-m
invariant-loop-m l = EntriesPut (entry_by (nodes l.tables) l.numbering) l.numbering.done l.first l.initial.out l.m l.out
