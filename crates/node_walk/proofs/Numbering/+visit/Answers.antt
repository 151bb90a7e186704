-- A walk from a node: its parts have been visited, and the node itself has a place and gets it.
-- Assumes nothing.
use Rattle.std.proofs.Common.{rules}
use Rattle.node_walk.proofs.Visiting.{has_a_place, numbered_next}
use Rattle.node_walk.proofs.Numbering.+visit.Goals as goal

pub visit-number_next-requires : goal.visit-number_next-requires
visit-number_next-requires t c = search (rules, has_a_place)

pub visit-returns : goal.visit-returns
visit-returns t c = search (rules, numbered_next)
