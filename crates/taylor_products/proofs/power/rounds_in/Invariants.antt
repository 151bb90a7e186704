-- `taylor_products::power::rounds_in` meets its contract: each round is a turn of `pow_from`, and there are as many as the exponent has digits.
-- Assumes nothing.
use lib.Count.{count_leading_zeros}
use Rattle.taylor.specs.Expansion.{pow_from, digits}
use Rattle.taylor.specs.declared.expansion.Expansion.TheVariants.{Constant}
use Rattle.taylor_products.proofs.Powering.{Powering}
use Rattle.taylor_products.proofs.power.rounds_in.Given as goal

abbrev pub invariant-loop-left : goal.invariant-loop-left
invariant-loop-left l =
    Powering (count_leading_zeros digits l.exp) (pow_from digits l.exp (Constant l.one) l.base l.fn.pool) l.e l.left l.res l.square l.pool
