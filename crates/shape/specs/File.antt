-- nodes.bin: its bytes, written from a root and read back into a pool.
-- Assumes nothing.
use Rattle.std.specs.Prelude.{Bool, true, false, ◌&&◌, cond, List, [], ◌∷◌, ◌++◌, map, ℕ, zero, suc, ◌+◌, ◌-◌, ◌*◌, leb, ltb, eqb, length, get_or}
use Rattle.refusals.specs.Refusals.{wrong_length, wrong_entry, wrong_sequence}
use Rattle.low_bytes.specs.LowBytes.{low_bytes, number_at}
use Rattle.pool.specs.Nodes.{decode, kind_of, word_of, may_stand_at}
use Rattle.pool.specs.Pool.{limit, Pool, node_in, Run, done, yield, refuse, append, each, ◌>>=◌}
use Rattle.pool.specs.declared.node.Node.{Node}
use Rattle.pool.specs.declared.node.Node.TheVariants.{Empty}
use Rattle.shape.specs.Shape.{rename, has}
use Rattle.shape.specs.Order.{numbered, num, written}

-- "n words of 8 bytes"
abbrev pub word_bytes : List Node → List ℕ
word_bytes [] = []
word_bytes (e ∷ more) = low_bytes 8 (word_of e) ++ word_bytes more

-- "The size n comes first (32 bits, low byte first), then two parallel arrays: n kind bytes, then n words of 8 bytes, low byte first."
unfoldable pub file_of : List Node → List ℕ
file_of es = low_bytes 4 (length es) ++ (map kind_of es ++ word_bytes es)

-- the node file of a root in a pool with these tables
unfoldable pub written_file : List ℕ → List ℕ → ℕ → List ℕ
written_file ks ws root = file_of (written (node_in ks ws) (root ∷ []))

abbrev pub file_from : Pool → ℕ → List ℕ
file_from P root = written_file P.kinds P.words root

-- a file's n
abbrev pub size_of : List ℕ → ℕ
size_of bs = number_at 4 bs 0

-- entry i of n whose kind bytes stand from place `first` on, and whose words stand behind them: its kind byte and its word by the table of kinds
unfoldable pub entry_in : ℕ → ℕ → List ℕ → ℕ → Node
entry_in first n bs i = cond (ltb i n) (decode (get_or bs (first + i) 0) (number_at 8 bs (first + n + 8 * i))) Empty

-- the entries of a node file
abbrev pub entry_of : List ℕ → ℕ → Node
entry_of bs = entry_in 4 (size_of bs) bs

-- not 7. "A node file is shorter than 4 bytes, its n is 0 or above 4,096, or its length is not 4 + 9 × n."
unfoldable pub is_sized : List ℕ → Bool
is_sized bs = leb 4 (length bs) && (leb 1 (size_of bs) && (leb (size_of bs) limit && eqb (length bs) (4 + 9 * size_of bs)))

-- not 8. "An entry of the file is no node by the table and the literal range above, or a part is not below the entry's own number."
unfoldable pub are_nodes : List ℕ → Bool
are_nodes bs = each (size_of bs) (λ i. may_stand_at i (entry_of bs i))

-- the walk over these roots gives each of the entries 0, .., n - 1 its own place as a number
unfoldable pub are_in_order : (ℕ → Node) → List ℕ → ℕ → Bool
are_in_order p roots n = each n (λ i. has (numbered p roots) i && eqb (num (numbered p roots) i) i)

-- not 9. "the walk from entry n - 1 misses an entry or gives it another number than its place"
unfoldable pub is_in_order : List ℕ → Bool
is_in_order bs = are_in_order (entry_of bs) ((size_of bs - 1) ∷ []) (size_of bs)

-- a test that has to pass: else the refusal k
abbrev pub passes : Bool → ℕ → Run
passes true k = yield 0
passes false k = refuse k

-- the first n entries of a table appended one after the other: the number of the last, or 18
unfoldable pub append_first : ℕ → (ℕ → Node) → Run
append_first zero p P = done P.count P
append_first (suc n) p P = (append_first n p >>= (λ before. append (p n))) P

-- "Reading appends the n nodes with their parts shifted by the count and gives back the root."
abbrev pub append_shifted : ℕ → (ℕ → Node) → Run
append_shifted n p P = append_first n (λ i. rename (λ j. P.count + j) (p i)) P

-- 7, 8 and 9, "smallest number first", then the work
unfoldable pub read_file : List ℕ → Run
read_file bs = do
  sized ← passes (is_sized bs) wrong_length
  nodes ← passes (are_nodes bs) wrong_entry
  ordered ← passes (is_in_order bs) wrong_sequence
  append_shifted (size_of bs) (entry_of bs)
