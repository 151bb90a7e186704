-- `taylor_base::loops::pairs_in` meets its contract: one entry of both lists a turn.
-- Assumes nothing.
use Rattle.std.proofs.Common.{◌≡◌, ℕ, length}
use Rattle.pool.specs.Pool.{Run}
use Rattle.taylor.specs.Work.{each_two}
use Rattle.taylor_base.specs.Makes.{Makes}
use Rattle.taylor_base.proofs.Entrywise.{Paired}
use Rattle.taylor_base.proofs.loops.pairs_in.Given as goal

abbrev pub invariant-loop-k : goal.invariant-loop-k
invariant-loop-k g l =
    record {
      always : goal.F-IsAlwaysCallable g l.make;
      long : length l.list ≡ l.k;
      pairs :
          (f : ℕ → ℕ → Run) → ((u w : ℕ) → Makes (λ p. goal.F-post g l.make p u w) (f u w))
          → Paired f l.us l.ws (each_two f l.us l.ws l.fn.pool) l.k l.list l.pool;
    }
