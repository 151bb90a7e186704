-- `double::pow` meets its contract: at each turn what remains to be done gives the power, and the exponent's rest halves.
-- Assumes nothing.
use lib.Ieee.{of_int, of_bits}
use Rattle.double.proofs.Powers.{at_first}
use Rattle.double.proofs.pow.Goals as goal

pub loop-n-init : goal.loop-n-init
unfolding of_int of_bits
loop-n-init c = at_first c.args.x c.args.e c.ranges.e.fits
