-- The pool of document 01: "a lent table of 4,096 kinds, one of 4,096 words, and a count from 0 to 4,096". The state of every definition is these two tables, the count, and the number at which the pool is full.
-- Assumes nothing.
use Rattle.std.specs.Prelude.{ℕ, zero, suc, ◌+◌, Bool, true, cond, ◌&&◌, List, length, replicate, ◌==◌, nat_le, nat_lt, slice_index, slice_set}
use Rattle.refusals.specs.Refusals.{pool_full}
use Rattle.pool.specs.Nodes.{decode, kind_of, word_of, may_stand_at}
pub use Rattle.pool.specs.Work.{Result, done, refused, WorkOn, bind, ◌>>=◌, yield, refuse}
use Rattle.pool.specs.declared.table.Pool as coded
use Rattle.pool.specs.declared.node.Node.{Node}
use Rattle.pool.specs.declared.node.Node.TheVariants.{Empty}

-- 4,096
abbrev pub limit : ℕ
limit = 4096

-- both tables, the count, and the number at which the pool is full: the limit. The code holds it as it is
abbrev pub Pool : Type 0
Pool = coded.Pool

abbrev pub pool : List ℕ → List ℕ → ℕ → ℕ → Pool
pool ks ws n m = record { kinds = ks; words = ws; count = n; end = m }

-- "An empty pool has count 0." Entries from the count on are 0
unfoldable pub empty : Pool
empty = pool (replicate limit 0) (replicate limit 0) 0 limit

-- the node at number i
unfoldable pub node_in : List ℕ → List ℕ → ℕ → Node
node_in ks ws i = cond (nat_lt i limit) (decode (slice_index ks i) (slice_index ws i)) Empty

abbrev pub node_at : Pool → ℕ → Node
node_at P i = node_in P.kinds P.words i

-- work on the pool, and such as gives a node number
abbrev pub Work : Type 0 → Type 0
Work A = WorkOn Pool A

abbrev pub Out : Type 0
Out = Result Pool ℕ

abbrev pub Run : Type 0
Run = Work ℕ

-- 18. "One more node is needed and the count is 4,096"
abbrev pub has_room : Pool → Bool
has_room P = nat_lt P.count P.end && nat_lt P.count limit

-- "Every `Rc::new` of the source appends one node"
unfoldable pub append : Node → Run
append n P =
    cond (has_room P)
    (done P.count (pool (slice_set P.kinds P.count (kind_of n)) (slice_set P.words P.count (word_of n)) (P.count + 1) P.end))
    (refused pool_full)

-- "entries from the count on are 0 in both tables"
abbrev pub entry_keeps : ℕ → ℕ → ℕ → ℕ → Bool
entry_keeps n i kind w = cond (nat_lt i n) (may_stand_at i (decode kind w)) (kind == 0 && w == 0)

-- a test at each of 0, .., m - 1
unfoldable pub each : ℕ → (ℕ → Bool) → Bool
each zero test = true
each (suc m) test = each m test && test m

-- 1. the rules of the pool, and the lengths of its tables
unfoldable pub is_pool : List ℕ → List ℕ → ℕ → Bool
is_pool ks ws n =
    (length ks == limit) && (length ws == limit && (nat_le n limit && each limit (λ i. entry_keeps n i (slice_index ks i) (slice_index ws i))))
