-- `node_read::entries_in` meets its contract: the entries passed stand in the tables, and one that is no node ends the loop.
-- Assumes nothing.
use Rattle.std.proofs.Common.{rules}
use Rattle.node_read.proofs.Entering.{none_entered, not_entered, all_entered}
use Rattle.node_read.proofs.entries_in.Goals as goal

pub loop-i-init : goal.loop-i-init
loop-i-init c = search (rules, none_entered)

pub returns-then-not-keeps_at : goal.returns-then-not-keeps_at
returns-then-not-keeps_at c = search (rules, not_entered)

pub returns : goal.returns
returns c = search (rules, all_entered)
