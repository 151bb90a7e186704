-- `rewrite_unsettled` is a whole walk: it begins with no result kept, in a table of few entries where the root is small, and a root past the tables is no node.
-- Assumes nothing.
use native.Mathlib.Omega.{arith}
use Rattle.pool.specs.Pool.{limit}
use Rattle.rewrite_walk.specs.Steps.{rewrite_at}
use Rattle.rewrite_walk.specs.Walked.{few}
use Rattle.rewrite_walk.proofs.Turns.{whole, nowhere}
use Rattle.rewrite_walk.proofs.rewrite_unsettled.Goals as goal

pub returns-then-root-lt-FEW : goal.returns-then-root-lt-FEW
returns-then-root-lt-FEW g c =
    whole (rewrite_at (g.R.Rewriting.at_node c.args.of.now)) _ _ _ _ c.args.root few c.walk_at.ensures (omega arith)

pub returns-then-root-lt-LIMIT : goal.returns-then-root-lt-LIMIT
returns-then-root-lt-LIMIT g c =
    whole (rewrite_at (g.R.Rewriting.at_node c.args.of.now)) _ _ _ _ c.args.root limit c.walk_at-then-root-lt-LIMIT.ensures (omega arith)

pub returns : goal.returns
returns g c =
    nowhere (g.R.Rewriting.at_node c.args.of.now) _ c.args.root c.if-root-lt-LIMIT.false (g.met.R.Rewriting.empty_refused c.args.of.now)
