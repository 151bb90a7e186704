-- The node file on closed examples, computed from the definitions.
-- Assumes nothing.
use mathlib.Core.Path.{◌≡◌, refl}
use mathlib.Core.List.{List, [], ◌∷◌, ◌++◌}
use Prim.Native.Nat.{ℕ}
use lib.ListN.{replicate}
use Rattle.refusals.specs.Refusals.{wrong_length, wrong_entry, wrong_sequence}
use Rattle.pool.specs.Nodes.{decode, may_stand_at}
use Rattle.pool.specs.Pool.{node_in, Out, done, refused, pool, each, append}
use Rattle.shape.specs.Order.{walk, numbered, written, written_roots}
use Rattle.shape.specs.File.{file_of, written_file, read_file, is_sized, are_nodes, are_in_order, is_in_order, append_first, entry_in}

-- x0 × x0: "the 22-byte file 02 00 00 00, 01 04, then sixteen 00"
abbrev pub square_file : List ℕ
square_file = 2 ∷ 0 ∷ 0 ∷ 0 ∷ 1 ∷ 4 ∷ replicate 16 0

-- a pool with x1, x0, 7, x0 × x0: what the root does not reach is not written
pub square_is_written : written_file (1 ∷ 1 ∷ 2 ∷ 4 ∷ 0 ∷ []) (1 ∷ 0 ∷ 7 ∷ 0x1_0000_0001 ∷ 0 ∷ []) 3 ≡ square_file
unfolding written_file file_of written numbered walk node_in decode
square_is_written = refl

abbrev root_and : Out → List (List ℕ)
root_and (done i P) = (i ∷ P.count ∷ []) ∷ P.kinds ∷ P.words ∷ []
root_and (refused k) = (k ∷ []) ∷ []

-- read into a pool that holds x5: "with their parts shifted by the count"
pub square_is_read :
    root_and (read_file square_file (pool (1 ∷ 0 ∷ 0 ∷ 0 ∷ []) (5 ∷ 0 ∷ 0 ∷ 0 ∷ []) 1 4))
    ≡ (2 ∷ 3 ∷ []) ∷ (1 ∷ 1 ∷ 4 ∷ 0 ∷ []) ∷ (5 ∷ 0 ∷ 0x1_0000_0001 ∷ 0 ∷ []) ∷ []
unfolding read_file is_sized are_nodes is_in_order are_in_order entry_in may_stand_at each numbered walk decode append_first append
square_is_read = refl

-- what reading into an empty pool of four answers
abbrev answer : List ℕ → List (List ℕ)
answer bs = root_and (read_file bs (pool (replicate 4 0) (replicate 4 0) 0 4))

-- 7: three bytes; n is 0; a byte too many
pub too_short : answer (2 ∷ 0 ∷ 0 ∷ []) ≡ (wrong_length ∷ []) ∷ []
unfolding read_file is_sized
too_short = refl

pub no_entries : answer (0 ∷ 0 ∷ 0 ∷ 0 ∷ []) ≡ (wrong_length ∷ []) ∷ []
unfolding read_file is_sized
no_entries = refl

pub a_byte_too_many : answer (square_file ++ (0 ∷ [])) ≡ (wrong_length ∷ []) ∷ []
unfolding read_file is_sized
a_byte_too_many = refl

-- 8: kind 10; a Mul whose parts are not below its own number
pub no_such_kind : answer (1 ∷ 0 ∷ 0 ∷ 0 ∷ 10 ∷ replicate 8 0) ≡ (wrong_entry ∷ []) ∷ []
unfolding read_file is_sized are_nodes entry_in may_stand_at each decode
no_such_kind = refl

pub its_own_part : answer (1 ∷ 0 ∷ 0 ∷ 0 ∷ 4 ∷ replicate 8 0) ≡ (wrong_entry ∷ []) ∷ []
unfolding read_file is_sized are_nodes entry_in may_stand_at each decode
its_own_part = refl

-- 9: x0, x1, x1 × x0 in the order of some pool, where the walk does x1 first
pub in_pool_order : answer (3 ∷ 0 ∷ 0 ∷ 0 ∷ 1 ∷ 1 ∷ 4 ∷ replicate 8 0 ++ (1 ∷ replicate 7 0) ++ (1 ∷ replicate 7 0)) ≡ (wrong_sequence ∷ []) ∷ []
unfolding read_file is_sized are_nodes is_in_order are_in_order entry_in may_stand_at each numbered walk decode
in_pool_order = refl

-- 9: two entries, of which the last does not reach the first
pub an_entry_is_missed : answer (2 ∷ 0 ∷ 0 ∷ 0 ∷ 1 ∷ 1 ∷ replicate 16 0) ≡ (wrong_sequence ∷ []) ∷ []
unfolding read_file is_sized are_nodes is_in_order are_in_order entry_in may_stand_at each numbered walk decode
an_entry_is_missed = refl

-- two roots that share a part, in turn: x0, 2 × x0 and then x0 itself again
pub roots_in_turn :
    written_roots (node_in (2 ∷ 1 ∷ 4 ∷ []) (2 ∷ 0 ∷ 0x1_0000_0000 ∷ [])) (1 ∷ 2 ∷ 1 ∷ []) ≡ 0 ∷ 2 ∷ 0 ∷ []
unfolding written_roots numbered walk node_in decode
roots_in_turn = refl
