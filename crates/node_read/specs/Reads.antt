-- What the parts of the reader promise: the file's size, its entries in two tables, and the test of the whole file.
-- Assumes nothing.
use Rattle.std.specs.Prelude.{◌≡◌, Bool, true, List, ℕ, ◌+◌, ◌*◌, ◌≤◌, length, Result, Ok, Err}
use Rattle.refusals.specs.Demand.{demand}
use Rattle.refusals.specs.Refusals.{wrong_length, wrong_entry, wrong_sequence}
use Rattle.pool.specs.Nodes.{may_stand_at}
use Rattle.pool.specs.Pool.{limit, Pool, node_at, each}
use Rattle.shape.specs.File.{size_of, entry_in, entry_of, is_sized, are_nodes, is_in_order}
use Rattle.shape.specs.Walked.{Falls}

-- 7: a file's n, or the refusal
unfoldable pub size_tested : List ℕ → Result ℕ ℕ
size_tested bs = demand Err (is_sized bs) wrong_length (Ok (size_of bs))

-- the bytes are long enough for n entries whose kinds stand from place `first` on
pub record HasEntries (first n : ℕ) (bs : List ℕ) : Type 0 where
  pub few : n ≤ limit
  pub long : first + 9 * n ≤ length bs

-- the answer r is the test of 8; where it holds, the tables have the entries, and each part is below its node
pub record Entered (r : Bool) (first n : ℕ) (bs : List ℕ) (E : Pool) : Type 0 where
  pub tested : r ≡ each n (λ i. may_stand_at i (entry_in first n bs i))
  pub copied : r ≡ true → node_at E ≡ entry_in first n bs
  pub falls : r ≡ true → Falls (node_at E)

-- 7, 8 and 9, "smallest number first": how many entries the file has, or the refusal
unfoldable pub test_file : List ℕ → Result ℕ ℕ
test_file bs = demand Err (is_sized bs) wrong_length (demand Err (are_nodes bs) wrong_entry (demand Err (is_in_order bs) wrong_sequence (Ok (size_of bs))))

-- the answer is that test; where the file passes, the tables have its entries, and each part is below its node
pub record FileTested (r : Result ℕ ℕ) (bs : List ℕ) (E : Pool) : Type 0 where
  pub tested : r ≡ test_file bs
  pub copied : (n : ℕ) → r ≡ Ok n → node_at E ≡ entry_of bs
  pub falls : (n : ℕ) → r ≡ Ok n → Falls (node_at E)
