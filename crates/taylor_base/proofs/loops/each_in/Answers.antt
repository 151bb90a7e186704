-- `taylor_base::loops::each_in` meets its contract: one list is a list beside itself.
-- Assumes nothing.
use Rattle.std.proofs.Common.{◌∙◌, of_calls}
use Rattle.taylor_base.proofs.Entrywise.{each_is_two}
use Rattle.taylor_base.proofs.loops.each_in.Goals as goal

pub returns : goal.returns
returns g c f m =
    c.pairs_in.ensures (λ u w. f u) (λ u w p q r e. search (of_calls, m)) ∙ each_is_two (λ u w. f u) c.args.us.now c.args.pool.now
