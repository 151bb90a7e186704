-- `residue::inverse` meets its contract: the loop keeps Euclid's invariant, and its end decides between the inverse and none.
-- The measure is the second remainder. Assumes nothing.
use Rattle.residue.proofs.Euclid.{Euclid}
use Rattle.residue.proofs.Residues.inverse.Given as goal

abbrev pub invariant-loop-r1 : goal.invariant-loop-r1
invariant-loop-r1 l = Euclid l.m l.d l.r0 l.r1 l.t0 l.t1

abbrev pub decreases-loop-r1 : goal.decreases-loop-r1
decreases-loop-r1 l = l.r1
