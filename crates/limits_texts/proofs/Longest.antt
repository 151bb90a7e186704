-- The longest file: that of a chain of 4,096 nodes. Its length goes by the number of nodes that the walk numbers, and that it is read back by demand 3.
-- Assumes nothing.
use Rattle.std.specs.Prelude.{Ok, Err}
use mathlib.Core.Path.{◌≡◌, refl, ap, ◌∙◌}
use mathlib.Core.Bool.{true}
use mathlib.Core.List.{List, [], ◌∷◌}
use Prim.Native.Nat.{ℕ, zero, suc, ◌+◌, ◌*◌, ◌^◌, ◌<◌, ◌≤◌}
use native.Mathlib.Omega.{arith}
use lib.Dec.{leb, lit≤, lit<}
use lib.ListN.{length, get_or, drop, length-replicate}
use lib.Seq.{take-append_seam}
use borrow.Author.Tests.{lt-ltb}
use Rattle.refusals.specs.Refusals.{pool_full}
use Rattle.pool.specs.declared.node.Node.{Node}
use Rattle.pool.specs.declared.node.Node.TheVariants.{Variable, Exp}
use Rattle.pool.specs.Nodes.{decode, may_stand_at}
use Rattle.pool.specs.Pool.{Pool, pool, limit, node_in, node_at, Out, refused, each, empty}
use Rattle.shape.specs.Order.{walk, numbered}
use Rattle.shape.specs.File.{file_from, size_of, read_file}
use Rattle.shape.specs.Demand.{KeepsRules}
use Rattle.shape.proofs.Pools.{empty_keeps_rules}
use Rattle.shape.proofs.Demand3.{length_of_a_file, size_of_a_file, reads_back, reads_into_no_full_pool}
use Rattle.engine_file.specs.Write.{file_over}
use Rattle.lent.specs.Call.{leaves}
use Rattle.limits.specs.Lent.{lent, chain, variable, kinds_of, words_of}
use Rattle.limits.specs.Calls.{gives, refuses, called, node_given, output, length_written, written, file}
use Rattle.limits_texts.specs.Outputs.{Longest}
use Rattle.limits.proofs.Pools.{chain_by_rules, chain_kinds, chain_words, chain_entry, from_below}
use Rattle.limits.proofs.Called.{called_on, written_by, file_by, file_in}

chain_pool : Pool
chain_pool = pool chain_kinds chain_words 4096 limit

-- ---- the walk along a chain numbers every node of it
module _ (p : ℕ → Node) (m : ℕ) (first : p 0 ≡ Variable 0) (later : (j : ℕ) → suc j < m → p (suc j) ≡ Exp j) where
  walk_along : (k i : ℕ) → i < k → i < m → length (walk p k [] i) ≡ suc i
  unfolding walk
  walk_along zero i h l = absurd (none i h)
    where
      none : (i : ℕ) → i < 0 → ⊥
      none i h = omega arith
  walk_along (suc k) zero h l = rw first
  walk_along (suc k) (suc j) h l = rw (later j l) (ap suc (walk_along k j (omega arith) (omega arith)))

-- ---- the chain
a_node : (i : ℕ) → i < limit → node_at chain_pool i ≡ decode (get_or chain_kinds i 0) (get_or chain_words i 0)
unfolding node_in chain_pool
a_node i h = rw (lt-ltb i limit h)

first_node : node_at chain_pool 0 ≡ Variable 0
unfolding decode
first_node = a_node 0 (lit< tt)

later_node : (j : ℕ) → suc j < limit → node_at chain_pool (suc j) ≡ Exp j
later_node j h = a_node (suc j) h ∙ chain_entry j h

words_fit : (i : ℕ) → get_or chain_words i 0 < 2 ^ 64
words_fit zero = lit< tt
words_fit (suc j) = from_below 0 4095 j (2 ^ 64) (lit≤ tt) (lit< tt)

chain_keeps : KeepsRules chain_pool
unfolding chain chain_pool
chain_keeps = record { rules = chain_by_rules; words_fit = words_fit }

last_there : 4095 < chain_pool.count
unfolding chain_pool
last_there = lit< tt

chain_size : size_of (file_from chain_pool 4095) ≡ 4096
unfolding numbered
chain_size = (size_of_a_file chain_pool chain_keeps 4095 last_there).0 ∙ walk_along (node_at chain_pool) limit first_node later_node limit 4095 (lit< tt) (lit< tt)

chain_length : length (file_from chain_pool 4095) ≡ 36868
chain_length = length_of_a_file chain_pool chain_keeps 4095 last_there ∙ ap (λ (n : ℕ). 4 + 9 * n) chain_size

-- ---- written: the answer goes by the file's length alone
module _ (f : List ℕ) (long : length f ≡ 36868) where
  taken : length_written (file_over (output 36868) f).answer ≡ gives 36868
  taken = rw (length-replicate {A = ℕ} 36868 0, long)

  not_taken : length_written (file_over (output 36867) f).answer ≡ refuses 19
  not_taken = rw (length-replicate {A = ℕ} 36867 0, long)

  taken_whole : file_in (file_over (output 36868) f) ≡ f
  taken_whole = rw (length-replicate {A = ℕ} 36868 0, test) (take-append_seam f (drop (length f) (output 36868)))
    where
      test : leb (length f) 36868 ≡ true
      test = rw long

longest_file_in_36868 : written 36868 4095 chain ≡ gives 36868
unfolding chain chain_pool
longest_file_in_36868 = written_by chain chain_by_rules 36868 4095 ∙ taken (file_from chain_pool 4095) chain_length

longest_file_in_36867 : written 36867 4095 chain ≡ refuses 19
unfolding chain chain_pool
longest_file_in_36867 = written_by chain chain_by_rules 36867 4095 ∙ not_taken (file_from chain_pool 4095) chain_length

-- ---- read
file_is : file 36868 4095 chain ≡ file_from chain_pool 4095
unfolding chain chain_pool
file_is = file_by chain chain_by_rules 36868 4095 ∙ taken_whole (file_from chain_pool 4095) chain_length

into_empty : node_given (leaves Ok Err empty.kinds empty.words 0 (read_file (file_from chain_pool 4095) empty)).answer ≡ gives 4095
unfolding empty
into_empty =
    let (s, R, e, shape, after) = reads_back chain_pool empty chain_keeps empty_keeps_rules 4095 last_there (room, room) in
    let last : s + 1 ≡ R.count = after.root_last in
    let grown : R.count ≡ 0 + size_of (file_from chain_pool 4095) = after.grows in
    rw e (ap gives (omega (arith, chain_size)))
  where
    room : 0 + size_of (file_from chain_pool 4095) ≤ 4096
    room = omega (arith, chain_size)

longest_read : called (read_file (file 36868 4095 chain)) (lent []) ≡ gives 4095
unfolding each empty
longest_read = rw file_is (called_on [] refl (read_file (file_from chain_pool 4095)) ∙ into_empty)

-- a pool with one node has no room for it
one_node : Pool
one_node = pool (kinds_of (variable 0 ∷ [])) (words_of (variable 0 ∷ [])) 1 limit

after_one : read_file (file_from chain_pool 4095) one_node ≡ refused pool_full
unfolding one_node
after_one = reads_into_no_full_pool chain_pool one_node chain_keeps 4095 last_there (λ room. none room.0)
  where
    none : 1 + size_of (file_from chain_pool 4095) ≤ 4096 → ⊥
    none h = omega (arith, chain_size)

longest_read_after_one : called (read_file (file 36868 4095 chain)) (lent (variable 0 ∷ [])) ≡ refuses 18
unfolding one_node may_stand_at decode each
longest_read_after_one =
    rw file_is (called_on (variable 0 ∷ []) refl (read_file (file_from chain_pool 4095)) ∙ ap (λ (o : Out). node_given (leaves Ok Err (kinds_of (variable 0 ∷ [])) (words_of (variable 0 ∷ [])) 1 o).answer) after_one)

pub longest : Longest
longest = record { file_in_36868 = longest_file_in_36868; file_in_36867 = longest_file_in_36867; read_into_nothing = longest_read; read_after_one = longest_read_after_one }
