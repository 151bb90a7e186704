-- `taylor_base::loops::fill_in` meets its contract: it is `fill` from the first coefficient on, one coefficient a turn.
-- Assumes nothing.
use Rattle.std.proofs.Common.{arith}
use Rattle.std.proofs.lemmas.Grind.{common_steps}
use Rattle.taylor_base.proofs.Filling.{fill_onward}
use Rattle.taylor_base.proofs.loops.fill_in.Goals as goal

pub loop-k-preserved : goal.loop-k-preserved
loop-k-preserved g c =
    record {
      long = grind (arith, common_steps);
      fills = λ f m. rw c.push.ensures (fill_onward (c.loop-k.invariant.fills f m) c.loop-k-test.true (m _ c.loop-k.k _ _ _ c.in_ok-next.ensures));
    }
