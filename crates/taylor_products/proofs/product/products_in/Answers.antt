-- `taylor_products::product::products_in` meets its contract: the first coefficient, and then the others.
-- Assumes nothing.
use Rattle.std.proofs.Common.{rules, arith, ◌≤◌, refl, min, length}
use Rattle.std.proofs.lemmas.Result.{err_from_is_err_and}
use Rattle.taylor.specs.Expansion.{product_at}
use Rattle.taylor_base.proofs.Filling.{fill_first}
use Rattle.taylor_products.proofs.product.products_in.Goals as goal

pub returns-in_err-first : goal.returns-in_err-first
returns-in_err-first c =
    let p = err_from_is_err_and c.from_residual.result c.from_residual.ensures.1 in
    let some : 1 ≤ min (length c.args.us.now) (length c.args.ws.now) = omega (arith, c.len.ensures.is, c.len.ensures.least, c.len-2.ensures.is, c.len-2.ensures.least) in
    rw (p.1, p.2, fill_first (product_at c.args.us.now c.args.ws.now c.args.zero) (min (length c.args.us.now) (length c.args.ws.now)) c.args.pool.now some, ← c.in_err-first.ensures) refl

pub returns : goal.returns
returns c =
    let some : 1 ≤ min (length c.args.us.now) (length c.args.ws.now) = omega (arith, c.len.ensures.is, c.len.ensures.least, c.len-2.ensures.is, c.len-2.ensures.least) in
    rw (fill_first (product_at c.args.us.now c.args.ws.now c.args.zero) (min (length c.args.us.now) (length c.args.ws.now)) c.args.pool.now some, ← c.in_ok-first.ensures, ← c.len.ensures.is, ← c.len-2.ensures.is, ← c.min-n.ensures) (search rules)
