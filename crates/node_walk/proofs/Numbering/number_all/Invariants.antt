-- `Numbering::number_all` meets its contract: the roots passed are visited.
-- Assumes nothing.
use Rattle.pool.specs.Tables.{nodes}
use Rattle.node_walk.proofs.Visiting.{RootsVisited}
use Rattle.node_walk.proofs.Numbering.number_all.Given as goal

abbrev pub invariant-loop-root : goal.invariant-loop-root
invariant-loop-root l = RootsVisited (nodes l.tables) l.roots l.root-index l.self
