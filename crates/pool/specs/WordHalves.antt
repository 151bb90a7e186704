-- What the code reads of a word: the half that a node's left part or base has, and the half of the right part or exponent. Only contracts of the code's own steps name these.
-- Assumes nothing.
use Rattle.std.specs.Prelude.{ℕ, cond, List, nat_lt, slice_index}
use Rattle.pool.specs.Nodes.{low_of, high_of}
use Rattle.pool.specs.Pool.{limit}

abbrev pub left_in : List ℕ → ℕ → ℕ
left_in ws i = cond (nat_lt i limit) (low_of (slice_index ws i)) 0

abbrev pub right_in : List ℕ → ℕ → ℕ
right_in ws i = cond (nat_lt i limit) (high_of (slice_index ws i)) 0
