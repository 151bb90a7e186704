-- `factorial::factorial` meets its contract: the product of i factors is i!, and one past the literals refuses n!.
-- Assumes nothing.
use native.Mathlib.Omega.{arith}
use Rattle.factorial.proofs.Running.{product_fits}
use Rattle.factorial.proofs.factorial.Goals as goal

pub overflow_mul-product : goal.overflow_mul-product
overflow_mul-product c = omega (arith, product_fits c.loop-i.invariant)
