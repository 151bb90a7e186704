-- `pool::rows::keeps_at` meets its contract: the comparisons are those of the kind's row.
-- Assumes nothing.
use Rattle.std.proofs.Common.{arith}
use Rattle.pool.proofs.RowTests.{kind_beyond, low_fits, high_fits, table_tests}
use Rattle.pool.proofs.rows.keeps_at.Goals as goal

pub returns-then-k-ge-KINDS : goal.returns-then-k-ge-KINDS
returns-then-k-ge-KINDS c =
    let args = c.args in
    kind_beyond args.i args.kind args.word c.if-k-ge-KINDS.true

pub overflow_add-low-2 : goal.overflow_add-low-2
overflow_add-low-2 c =
    record { fits = omega (arith, low_fits c.args.table.now c.requires c.args.i c.args.word c.args.kind c.ranges.i.fits c.ranges.word.fits c.if-k-ge-KINDS.false, c.ranges.i.fits) }

pub overflow_add-high-2 : goal.overflow_add-high-2
overflow_add-high-2 c =
    record { fits = omega (arith, high_fits c.args.table.now c.requires c.args.i c.args.word c.args.kind c.ranges.i.fits c.ranges.word.fits c.if-k-ge-KINDS.false, c.ranges.i.fits) }

pub returns : goal.returns
returns c =
    table_tests c.args.table.now c.requires c.args.i c.args.word c.args.kind c.ranges.i.fits c.ranges.word.fits c.if-k-ge-KINDS.false c.wrapping_add_u64.result c.wrapping_add_u64.ensures.value
