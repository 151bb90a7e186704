-- `residue::inverse` meets its contract: the loop keeps Euclid's invariant, and its end decides between the inverse and none.
-- The measure is the second remainder. Assumes nothing.
use Rattle.residue.proofs.Euclid.{euclid_turns}
use Rattle.residue.proofs.Residues.inverse.Goals as goal

pub loop-r1-preserved : goal.loop-r1-preserved
loop-r1-preserved c = euclid_turns _ _ _ _ _ _ c.args.self.is_modulus.least c.loop-r1.invariant
