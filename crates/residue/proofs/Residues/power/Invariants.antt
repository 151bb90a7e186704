-- `residue::power` meets its contract. The loop's invariant: the product so far times the base to the exponent left is the whole power, modulo m.
-- The measure is the exponent left. Assumes nothing.
use Rattle.residue.proofs.Squaring.{Squares}
use Rattle.residue.proofs.Residues.power.Given as goal

abbrev pub invariant-loop-n : goal.invariant-loop-n
invariant-loop-n l = Squares l.self.modulus l.a l.e l.acc l.b l.n

abbrev pub decreases-loop-n : goal.decreases-loop-n
decreases-loop-n l = l.n
