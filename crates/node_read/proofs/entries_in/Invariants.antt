-- `node_read::entries_in` meets its contract: the entries passed stand in the tables, and one that is no node ends the loop.
-- Assumes nothing.
use Rattle.node_read.proofs.Entering.{Entering}
use Rattle.node_read.proofs.entries_in.Given as goal

abbrev pub invariant-loop-i : goal.invariant-loop-i
invariant-loop-i l = Entering l.first l.n l.file l.i l.entries
