-- Examples that pin what no theorem on files can: the kind numbers, which half of a word is the left part, the byte order, and the writing order for each kind with two parts.
-- Assumes nothing.
use mathlib.Core.Path.{◌≡◌, refl}
use mathlib.Core.List.{List, [], ◌∷◌, ◌++◌, map}
use Prim.Native.Nat.{ℕ}
use lib.IntN.{pos, negsuc}
use lib.ListN.{replicate}
use Rattle.low_bytes.specs.LowBytes.{low_bytes}
use Rattle.pool.specs.Nodes.{decode}
use Rattle.pool.specs.Pool.{node_in}
use Rattle.pool.specs.declared.node.Node.TheVariants.{Variable, Lit, Add, Mul, Div, Exp, Log, Pow, Max}
use Rattle.shape.specs.Order.{walk, numbered, written}
use Rattle.shape.specs.File.{file_of, written_file}

-- ---- the table of kinds

-- kinds 1, 2, 6, 7 with the word 7
pub kinds_of_one_number : map (λ kind. decode kind 7) (1 ∷ 2 ∷ 6 ∷ 7 ∷ []) ≡ Variable 7 ∷ Lit (pos 7) ∷ Exp 7 ∷ Log 7 ∷ []
unfolding decode
kinds_of_one_number = refl

-- kinds 3, 4, 5, 8, 9 with the word 1 + 2^32 × 2
pub kinds_of_two_numbers : map (λ kind. decode kind 0x2_0000_0001) (3 ∷ 4 ∷ 5 ∷ 8 ∷ 9 ∷ []) ≡ Add 1 2 ∷ Mul 1 2 ∷ Div 1 2 ∷ Pow 1 2 ∷ Max 1 2 ∷ []
unfolding decode
kinds_of_two_numbers = refl

pub minus_two : decode 2 0xffff_ffff_ffff_fffe ≡ Lit (negsuc 1)
unfolding decode
minus_two = refl

-- ---- bytes

-- "32 bits, low byte first" and "8 bytes, low byte first"
pub low_byte_first : (low_bytes 4 0x0403_0201 ≡ 1 ∷ 2 ∷ 3 ∷ 4 ∷ []) × (low_bytes 8 0x0807_0605_0403_0201 ≡ 1 ∷ 2 ∷ 3 ∷ 4 ∷ 5 ∷ 6 ∷ 7 ∷ 8 ∷ [])
low_byte_first = (refl, refl)

-- x258 and a node of this kind over it: x258 is entry 0
abbrev over_only : ℕ → ℕ → List ℕ
over_only kind w = 2 ∷ 0 ∷ 0 ∷ 0 ∷ 1 ∷ kind ∷ (2 ∷ 1 ∷ replicate 6 0) ++ low_bytes 8 w

-- an Exp and a Log, whose word is the argument, and a fifth power
pub exp_and_log_files : map (λ kind. written_file (2 ∷ 1 ∷ kind ∷ []) (0 ∷ 258 ∷ 1 ∷ []) 2) (6 ∷ 7 ∷ []) ≡ over_only 6 0 ∷ over_only 7 0 ∷ []
unfolding written_file file_of written numbered walk node_in decode
exp_and_log_files = refl

pub pow_file : written_file (2 ∷ 1 ∷ 8 ∷ []) (0 ∷ 258 ∷ 0x5_0000_0001 ∷ []) 2 ≡ over_only 8 0x5_0000_0000
unfolding written_file file_of written numbered walk node_in decode
pow_file = refl

pub lit_file : written_file (2 ∷ []) (0xffff_ffff_ffff_fffe ∷ []) 0 ≡ 1 ∷ 0 ∷ 0 ∷ 0 ∷ 2 ∷ 0xfe ∷ replicate 7 0xff
unfolding written_file file_of written numbered walk node_in decode
lit_file = refl

-- ---- the writing order

-- x0, x1 and a node of this kind with the left part x1 and the right part x0: x1 is entry 0, and the root has the left part 0 and the right part 1
abbrev of_kind : ℕ → List ℕ
of_kind kind = written_file (1 ∷ 1 ∷ kind ∷ []) (0 ∷ 1 ∷ 1 ∷ []) 2

abbrev left_first : ℕ → List ℕ
left_first kind = 3 ∷ 0 ∷ 0 ∷ 0 ∷ 1 ∷ 1 ∷ kind ∷ (1 ∷ replicate 7 0) ++ replicate 8 0 ++ (0 ∷ 0 ∷ 0 ∷ 0 ∷ 1 ∷ 0 ∷ 0 ∷ 0 ∷ [])

pub left_first_in_each_kind : map of_kind (3 ∷ 4 ∷ 5 ∷ 9 ∷ []) ≡ map left_first (3 ∷ 4 ∷ 5 ∷ 9 ∷ [])
unfolding written_file file_of written numbered walk node_in decode
left_first_in_each_kind = refl

-- x0 + (x1 + x0), where x0 is one node: it is entry 0, though it is the right part of the inner sum
pub right_part_known : numbered (node_in (1 ∷ 1 ∷ 3 ∷ 3 ∷ []) (0 ∷ 1 ∷ 1 ∷ 0x2_0000_0000 ∷ [])) (3 ∷ []) ≡ 3 ∷ 2 ∷ 1 ∷ 0 ∷ []
unfolding numbered walk node_in decode
right_part_known = refl
