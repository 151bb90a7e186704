-- `Numbering::number_all` meets its contract: one root more is visited.
-- Assumes nothing.
use Rattle.std.proofs.Common.{rules}
use Rattle.node_walk.proofs.Visiting.{root_visited}
use Rattle.node_walk.proofs.Numbering.number_all.Goals as goal

pub loop-root-preserved : goal.loop-root-preserved
loop-root-preserved c = search (rules, root_visited)
