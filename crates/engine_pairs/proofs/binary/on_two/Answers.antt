-- `engine_pairs::binary::on_two` meets its contract: given numbers are nodes, and the operation only appends.
-- Assumes nothing.
use borrow.Author.Rules.{rules}
use Rattle.lent_series.specs.Series.{given}
use Rattle.engine_pairs.specs.Pairs.{lengths_ok}
use Rattle.engine_pairs.proofs.Lengths.{accepted_two}
use Rattle.engine_pairs.proofs.binary.on_two.Goals as goal

pub returns : goal.returns
returns c =
    let given_two = accepted_two (lengths_ok c.args.op c.args.s c.args.t) c.in_ok-lhs.lhs c.in_ok-lhs.rhs (given c.args.s) (given c.args.t) c.in_ok-lhs.ensures in
    search rules
