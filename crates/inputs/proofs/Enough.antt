-- A room of one byte more than the longest file holds enough of every file: one that fills it is refused by 7, as the bytes in the room are.
-- Assumes nothing.
use mathlib.Core.Path.{◌≡◌, sym, ap, ◌∙◌}
use mathlib.Core.Logic.{⊎_elim}
use mathlib.Core.Bool.{true}
use mathlib.Core.List.{List}
use Prim.Native.Nat.{ℕ, ◌+◌, ◌*◌, ◌<◌, ◌≤◌}
use native.Mathlib.Omega.{arith}
use lib.ListN.{length, take}
use lib.Seq.{take_all, length-take-le}
use Rattle.refusals.specs.Refusals.{wrong_length}
use Rattle.pool.specs.Pool.{limit, Pool, refused}
use Rattle.shape.specs.File.{size_of, is_sized, read_file}
use Rattle.shape.proofs.Lists.{not_true_false, below_or_not}
use Rattle.shape.proofs.Reading.{sized_facts}
use Rattle.inputs.specs.Rooms.{Within, Enough, Decides}
use Rattle.std.specs.Prelude.{Result, Ok, Err, Option, Some, None}
use Rattle.outputs.specs.declared.Failed.{Failed}

-- the longest file has 4,096 nodes
abbrev pub longest_file : ℕ
longest_file = 4 + 9 * limit

module _ (P : Pool) where
  pub too_long : (file : List ℕ) → longest_file < length file → read_file file P ≡ refused wrong_length
  unfolding read_file
  too_long file h = rw (not_true_false (is_sized file) never)
    where
      never : is_sized file ≡ true → ⊥
      never s =
          let few : size_of file ≤ limit = (sized_facts file s).few in
          let long : length file ≡ 4 + 9 * size_of file = (sized_facts file s).long in
          omega arith

  -- so of any file the first 36,869 bytes decide
  pub first_bytes_decide : (m : ℕ) → longest_file < m → (file : List ℕ) → read_file (take m file) P ≡ read_file file P
  first_bytes_decide m h file = ⊎_elim longer whole (below_or_not m (length file))
    where
      longer : m < length file → read_file (take m file) P ≡ read_file file P
      longer l =
          let long : length (take m file) ≡ m = length-take-le m file (omega arith) in
          too_long (take m file) (omega arith) ∙ sym (too_long file (omega arith))

      whole : length file ≤ m → read_file (take m file) P ≡ read_file file P
      whole l = ap (λ bs. read_file bs P) (take_all m file l)

pub room_is_enough : (room : List ℕ) (n : ℕ) → longest_file < length room → Enough n room
room_is_enough room n h file e P = ap (λ bs. read_file bs P) e ∙ first_bytes_decide P (length room) h file

pub bytes_decide : (r : Result (Option ℕ) Failed) (room : List ℕ) → longest_file < length room → Within r room → Decides r room
bytes_decide (Ok (Some n)) room h w = (w, room_is_enough room n h)
bytes_decide (Ok None) room h w = w
bytes_decide (Err f) room h w = w
