-- `taylor_base::sums::var_unsettled` meets its contract: one zero more a turn.
-- Assumes nothing.
use Rattle.std.proofs.Common.{◌≡◌, ◌∷◌, ◌-◌, replicate}
use Rattle.taylor_base.proofs.sums.var_unsettled.Given as goal

abbrev pub invariant-loop : goal.invariant-loop
invariant-loop l = l.list ≡ l.x ∷ l.one ∷ replicate (l.counter - 1) l.zero
