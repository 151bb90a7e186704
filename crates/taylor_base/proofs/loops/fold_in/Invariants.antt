-- `taylor_base::loops::fold_in` meets its contract: it is `fold`, one term a turn.
-- Assumes nothing.
use Rattle.std.proofs.Common.{◌+◌, ℕ}
use Rattle.pool.specs.Pool.{Run}
use Rattle.taylor.specs.Work.{fold}
use Rattle.taylor_base.specs.Makes.{Makes}
use Rattle.taylor_base.proofs.Folding.{Folding}
use Rattle.taylor_base.proofs.loops.fold_in.Given as goal

abbrev pub invariant-loop-j : goal.invariant-loop-j
invariant-loop-j g l =
    (f : ℕ → ℕ → Run) → ((sum j : ℕ) → Makes (λ p. goal.F-post g l.next p sum j) (f sum j))
    → Folding f (l.first + l.todo) (fold f l.first l.todo l.fn.start l.fn.pool) l.j l.sum l.pool
