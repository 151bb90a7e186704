-- `double::pow` meets its contract: at each turn what remains to be done gives the power, and the exponent's rest halves.
-- Assumes nothing.
use Rattle.double.proofs.Powers.{Remains}
use Rattle.double.proofs.pow.Given as goal

abbrev pub invariant-loop-n : goal.invariant-loop-n
invariant-loop-n l = Remains l.x l.e l.acc l.b l.n

abbrev pub decreases-loop-n : goal.decreases-loop-n
decreases-loop-n l = l.n
