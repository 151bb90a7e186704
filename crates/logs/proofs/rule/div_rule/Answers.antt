-- `logs::rule::div_rule` meets its contract: what the tests of the two literals gave is what the guards of the table say. The search does not read what `is_some_and` ensures, so the laws are given it.
-- Assumes nothing.
use Rattle.pool.specs.Pool.{node_at}
use Rattle.logs.proofs.Rules.{zero_over, over_one, over_other}
use Rattle.logs.proofs.rule.div_rule.Goals as goal

pub returns-then-is_some_and : goal.returns-then-is_some_and
returns-then-is_some_and c = zero_over (node_at c.args.pool.now) c.args.lhs c.args.rhs _ c.literal_at.ensures c.is_some_and.ensures c.if-is_some_and.true

pub returns-then-is_some_and-2 : goal.returns-then-is_some_and-2
returns-then-is_some_and-2 c =
    over_one (node_at c.args.pool.now) c.args.lhs c.args.rhs _ _ c.literal_at.ensures c.is_some_and.ensures c.if-is_some_and.false c.literal_at-2.ensures c.is_some_and-2.ensures c.if-is_some_and-2.true

pub returns : goal.returns
returns c =
    over_other (node_at c.args.pool.now) c.args.lhs c.args.rhs _ _ c.literal_at.ensures c.is_some_and.ensures c.if-is_some_and.false c.literal_at-2.ensures c.is_some_and-2.ensures c.if-is_some_and-2.false
