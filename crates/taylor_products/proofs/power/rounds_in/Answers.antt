-- `taylor_products::power::rounds_in` meets its contract: each round is a turn of `pow_from`, and there are as many as the exponent has digits.
-- Assumes nothing.
use Rattle.std.proofs.lemmas.Result.{err_from_is_err_and}
use Rattle.taylor_products.proofs.Powering.{pow_starts, square_stopped, pow_onward}
use Rattle.taylor_products.proofs.power.rounds_in.Goals as goal

pub loop-left-init : goal.loop-left-init
loop-left-init c = pow_starts c.args.exp _ c.args.base.now c.args.pool.now c.ranges.exp.fits

pub returns-in_err-square : goal.returns-in_err-square
returns-in_err-square c =
    let p = err_from_is_err_and c.from_residual-in_err-square.result c.from_residual-in_err-square.ensures.1 in
    rw (p.1, p.2) (square_stopped c.loop-left.invariant c.loop-left-test.true c.in_ok-res.ensures c.in_err-square.ensures)

pub loop-left-preserved : goal.loop-left-preserved
loop-left-preserved c = pow_onward c.loop-left.invariant c.loop-left-test.true c.in_ok-res.ensures c.in_ok-square.ensures
