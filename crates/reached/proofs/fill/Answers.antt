-- `reached::fill` meets its contract: after each turn the table has the answers of the nodes that were passed, whatever test it is that the code's decides.
-- Assumes nothing.
use mathlib.Core.Path.{◌∙◌}
use native.Mathlib.Omega.{arith}
use lib.ListN.{length-set}
use Rattle.reached.proofs.Found.{one_more_found}
use Rattle.reached.proofs.fill.Goals as goal

pub loop-i-preserved : goal.loop-i-preserved
loop-i-preserved g c = (
  length-set c.loop-i.found c.loop-i.i c.node_reaches.result ∙ c.loop-i.invariant.0,
  λ is decides.
      one_more_found is (c.loop-i.invariant.1 is decides) _ (omega (arith, c.loop-i-test.true, c.requires.end_le_limit)) c.node.ensures (c.node_reaches.ensures is decides),
)
