-- `lent::put_back` meets its contract: after each turn the tables are the new ones up to the entry and the old ones from there.
-- Assumes nothing.
use native.Mathlib.Omega.{arith}
use Rattle.lent.proofs.Overwrite.{starts_at, one_more}
use Rattle.lent.proofs.put_back.Goals as goal

pub loop-i-init : goal.loop-i-init
loop-i-init c = (starts_at c.requires.same_but.0, starts_at c.requires.same_but.1)

pub loop-i-preserved : goal.loop-i-preserved
loop-i-preserved c =
    let turn = c.loop-i-test.true in
    let inv = c.loop-i.invariant in
    let fits = c.requires.from_le_to.1 in
    let long = c.requires.kinds_len in
    (one_more inv.0 (omega (arith, turn, fits, long.0, inv.0.same)), one_more inv.1 (omega (arith, turn, fits, long.1, inv.1.same)))
