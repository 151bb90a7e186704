-- `value_walk::value_from` meets its contract: past the limit there is no node, and the walk starts with nothing kept.
-- Assumes nothing.
use Rattle.value_walk.proofs.Walking.{none_kept, past_the_limit}
use Rattle.value_walk.proofs.value_from.Goals as goal

pub returns-then-root-ge-LIMIT : goal.returns-then-root-ge-LIMIT
returns-then-root-ge-LIMIT g c =
    past_the_limit (g.met.V.Values.laws c.args.of.now) c.args.tables.kinds.now c.args.tables.words.now c.args.root c.if-root-ge-LIMIT.true

pub value_at-requires-clause-keeps : goal.value_at-requires-clause-keeps
value_at-requires-clause-keeps g c = none_kept _ _ c.requires
