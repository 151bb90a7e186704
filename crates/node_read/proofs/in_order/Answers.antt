-- `node_read::in_order` meets its contract: the walk marks each entry with its number + 1.
-- Assumes nothing.
use mathlib.Core.Path.{◌∙◌}
use Rattle.pool.specs.Pool.{node_at}
use Rattle.node_read.proofs.Places.{marks_pass, in_order_by_marks}
use Rattle.node_read.proofs.in_order.Goals as goal

pub returns : goal.returns
returns c =
    marks_pass _ c.args.n c.in_place.ensures ∙ in_order_by_marks (node_at c.args.entries.now) c.args.roots.now c.args.n
    (rw (c.tables.ensures.kinds, c.tables.ensures.words) at c.number_all.ensures)
