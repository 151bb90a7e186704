-- Reading only appends to what was lent.
-- Assumes nothing.
use mathlib.Core.Path.{◌≡◌}
use mathlib.Core.Bool.{Bool, true, false}
use mathlib.Core.List.{List}
use Prim.Native.Nat.{ℕ, zero, suc, ◌+◌}
use Rattle.refusals.specs.Refusals.{wrong_length, wrong_entry, wrong_sequence}
use Rattle.pool.specs.Pool.{Pool, Out}
use Rattle.pool.specs.declared.node.Node.{Node}
use Rattle.shape.specs.Shape.{rename}
use Rattle.shape.specs.File.{size_of, entry_of, is_sized, are_nodes, is_in_order, passes, append_first, append_shifted, read_file}
use Rattle.lent.specs.Call.{lent_pool, Appended}
use Rattle.lent.proofs.Calling.{appended}
use Rattle.constructor_laws.proofs.Growth.{Growing, ◌>>=◌, grown_by_nothing, yield_grows, refuse_grows, append_grows}

passes_grows : (t : Bool) (k : ℕ) → Growing (passes t k)
passes_grows true k = yield_grows 0
passes_grows false k = refuse_grows k

first_grows : (n : ℕ) (q : ℕ → Node) → Growing (append_first n q)
unfolding append_first
first_grows zero q = record { grows = grown_by_nothing }
first_grows (suc n) q = record { grows = λ P. (first_grows n q >>= (λ before. append_grows (q n))).grows P }

shifted_grows : (n : ℕ) (p : ℕ → Node) → Growing (append_shifted n p)
shifted_grows n p = record { grows = λ P. (first_grows n (λ i. rename (λ j. P.count + j) (p i))).grows P }

reading_grows : (bs : List ℕ) → Growing (read_file bs)
unfolding read_file
reading_grows bs = do
  sized ← passes_grows (is_sized bs) wrong_length
  nodes ← passes_grows (are_nodes bs) wrong_entry
  ordered ← passes_grows (is_in_order bs) wrong_sequence
  shifted_grows (size_of bs) (entry_of bs)

pub read_appended : {ks ws : List ℕ} {n : ℕ} {P : Pool} {x : Out} (bs : List ℕ) → P ≡ lent_pool ks ws n → x ≡ read_file bs P → Appended ks ws n x
read_appended bs = appended (reading_grows bs)
