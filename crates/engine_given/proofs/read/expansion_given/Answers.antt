-- `engine_given::read::expansion_given` meets its contract: numbers below the count are nodes.
-- Assumes nothing.
use Rattle.refusals.specs.Refusals.{broken_pool, unknown_node}
use Rattle.pool.specs.Nodes.{all_below}
use Rattle.pool.specs.Pool.{is_pool}
use Rattle.lent.proofs.Calling.{is_met}
use Rattle.lent.proofs.Finishing.{pool_sized}
use Rattle.lent_series.specs.Series.{nodes_of}
use Rattle.lent_series.proofs.Numbers.{nodes}
use Rattle.engine_given.proofs.read.expansion_given.Goals as goal

pub expansion-requires : goal.expansion-requires
expansion-requires c =
    let a = c.args in
    let given = is_met (all_below a.count (nodes_of a.s)) unknown_node c.in_ok-nodes_given.ensures in
    let tested = is_met (is_pool a.kinds.now a.words.now a.count) broken_pool c.in_ok-tables.ensures.tested in
    nodes a.count (nodes_of a.s) (pool_sized a.kinds.now a.words.now a.count tested).small given
