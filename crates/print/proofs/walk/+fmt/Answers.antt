-- The cycle of calls that prints a node: three texts written one after the other, a node in brackets among them.
-- Assumes nothing.
use Rattle.std.proofs.Common.{◌<◌, rules}
use Rattle.low_bytes.proofs.Writing.{three_written}
use Rattle.pool.specs.Tables.{nodes}
use Rattle.walks.specs.Print.{precedence}
use Rattle.print.proofs.Bounded.{written_in_brackets}
use Rattle.print.proofs.walk.+fmt.Goals as goal

pub joined-returns : goal.joined-returns
joined-returns t c = search (three_written)

pub node_fmt-returns-then-precedence-under : goal.node_fmt-returns-then-precedence-under
node_fmt-returns-then-precedence-under t c =
    let less : precedence (nodes c.args.tables c.args.of) < c.args.under = rw (← c.node.ensures, ← c.precedence.ensures) c.if-precedence-under.true in
    search (rules, written_in_brackets)

pub power-returns : goal.power-returns
power-returns t c = search (three_written)

pub wrapped-returns : goal.wrapped-returns
wrapped-returns t c = search (three_written)
