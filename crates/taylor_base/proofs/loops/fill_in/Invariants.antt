-- `taylor_base::loops::fill_in` meets its contract: it is `fill` from the first coefficient on, one coefficient a turn.
-- Assumes nothing.
use Rattle.std.proofs.Common.{◌≡◌, ◌-◌, ℕ, List, [], ◌∷◌, length}
use denote.Ref.{Bor}
use Rattle.pool.specs.Pool.{Run}
use Rattle.taylor.specs.Work.{fill}
use Rattle.taylor_base.specs.Makes.{Makes}
use Rattle.taylor_base.proofs.Filling.{Filling}
use Rattle.taylor_base.proofs.loops.fill_in.Given as goal

abbrev pub invariant-loop-k : goal.invariant-loop-k
invariant-loop-k g l =
    record {
      long : length l.res ≡ l.k;
      fills :
          (f : List ℕ → ℕ → Run) → ((res : Bor (List ℕ)) (k : ℕ) → Makes (λ p. goal.F-post g l.next p res k) (f res.now k))
          → Filling f l.n (fill f (l.n - 1) (l.first ∷ []) l.fn.pool) l.k l.res l.pool;
    }
