-- What demand 3 speaks of beside shapes and files: pools that keep the rules, the empty pool, room, the node files, and what is accepted.
-- Assumes nothing.
use Rattle.std.specs.Prelude.{◌≡◌, true, false, List, [], ◌∷◌, ℕ, ◌+◌, ◌^◌, ◌<◌, ◌≤◌, get_or}
use Rattle.pool.specs.Pool.{limit, Pool, is_pool, node_at, done}
use Rattle.shape.specs.Shape.{has, OneShape}
use Rattle.shape.specs.File.{file_from, size_of, read_file}

-- "each pool keeps the rules of document 01": those that 1 tests, and that a word is "unsigned, 64 bits"
pub record KeepsRules (P : Pool) : Type 0 where
  pub rules : is_pool P.kinds P.words P.count ≡ true
  pub words_fit : (i : ℕ) → get_or P.words i 0 < 2 ^ 64

-- there is room for n more nodes
abbrev pub HasRoom : ℕ → Pool → Type 0
HasRoom n P = (P.count + n ≤ P.end) × (P.count + n ≤ limit)

-- roots below a bound, as "A node number given" has to be below the count
abbrev pub Below : ℕ → List ℕ → Type 0
Below n roots = (i : ℕ) → has roots i ≡ true → i < n

-- no number twice
abbrev pub Distinct : List ℕ → Type 0
Distinct [] = Unit {0}
Distinct (i ∷ more) = (has more i ≡ false) × Distinct more

-- the expressions of a root in one pool and a root in another, or in the same
abbrev pub SameShape : Pool → ℕ → Pool → ℕ → Type 0
SameShape P r Q s = OneShape (node_at P) (r ∷ []) (node_at Q) (s ∷ [])

-- "the node file of some root in some such pool"
abbrev pub IsNodeFile : List ℕ → Type 0
IsNodeFile bs = (P : Pool) × KeepsRules P × (r : ℕ) × (r < P.count) × (file_from P r ≡ bs)

-- "reading .. accepts them"
abbrev pub Accepts : List ℕ → Pool → Type 0
Accepts bs P = (r : ℕ) × (Q : Pool) × (read_file bs P ≡ done r Q)

-- what an accepted file leaves: the pool Q where P was, with the root r
pub record Leaves (bs : List ℕ) (P : Pool) (r : ℕ) (Q : Pool) : Type 0 where
  pub keeps_rules : KeepsRules Q
  pub grows : Q.count ≡ P.count + size_of bs
  pub end_kept : Q.end ≡ P.end
  pub root_last : r + 1 ≡ Q.count
  -- every old expression keeps its shape
  pub old_shapes : (roots : List ℕ) → Below P.count roots → OneShape (node_at P) roots (node_at Q) roots
  -- "and written again gives the same bytes"
  pub same_bytes : file_from Q r ≡ bs
