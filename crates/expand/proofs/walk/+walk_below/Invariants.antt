-- `expand::walk::walk_below` calls itself at numbers that are smaller.
-- Assumes nothing.
use Rattle.expand.proofs.walk.+walk_below.Given as goal

abbrev pub decreases-walk_below : goal.decreases-walk_below
decreases-walk_below l = l.bound
