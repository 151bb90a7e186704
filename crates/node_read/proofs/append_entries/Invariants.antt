-- `node_read::append_entries` meets its contract: what is appended so far is what the definition appends.
-- Assumes nothing.
use Prim.Native.Nat.{◌+◌}
use Rattle.pool.specs.Pool.{node_at}
use Rattle.shape.specs.Shape.{rename}
use Rattle.node_read.proofs.OneByOne.{Appended}
use Rattle.node_read.proofs.append_entries.Given as goal

abbrev pub invariant-loop-i : goal.invariant-loop-i
invariant-loop-i l = Appended (λ i. rename (λ j. l.by + j) (node_at l.entries i)) l.initial.pool l.n l.i l.last l.pool
