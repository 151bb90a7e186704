-- An accepted call of writing: its root was given, its file fits, and the file is what it has written, whatever the output's length and earlier contents.
-- Assumes nothing.
use mathlib.Core.Path.{◌≡◌, refl, ap, ◌∙◌}
use mathlib.Core.Logic.{◌↔◌}
use mathlib.Core.List.{List, [], ◌∷◌}
use Prim.Native.Nat.{ℕ, ◌+◌, ◌*◌, ◌<◌, ◌≤◌}
use native.Mathlib.Omega.{arith}
use lib.Dec.{leb}
use lib.ListN.{length}
use borrow.Author.Tests.{leb-true, le-leb, lt-ltb}
use Rattle.refusals.specs.Refusals.{broken_pool, unknown_node, no_room}
use Rattle.pool.specs.Nodes.{all_below}
use Rattle.pool.specs.Pool.{limit, Pool, is_pool}
use Rattle.shape.specs.File.{file_from, size_of}
use Rattle.shape.specs.Demand.{KeepsRules}
use Rattle.shape.proofs.Pools.{rules_of}
use Rattle.shape.proofs.Demand3.{length_of_a_file, size_of_a_file}
use Rattle.lent.proofs.Finishing.{one_is_below}
use Rattle.lent.specs.Call.{demand}
use Rattle.lent.specs.Writing.{Put, unwritten, writes, Accepted, bytes_written}
use Rattle.lent.proofs.Writing.{passed, bytes_are_there}
use Rattle.engine_file.specs.Write.{file_over, write_call}
use Rattle.engine_file.specs.Outcome.{written_from}

module _ (P : Pool) (r : ℕ) (old : List ℕ) where
  abbrev file : List ℕ
  file = file_from P r

  -- the file, and the output's bytes past it as they were
  abbrev written : Put
  written = writes file old

  pub record Writes : Type 0 where
    pub given : r < P.count
    pub fits : length file ≤ length old
    pub is : written_from P r old ≡ written

  pub accepted_writes : Accepted (written_from P r old) → Writes
  unfolding write_call
  accepted_writes a =
      let (rules, whole, a₁) = passed old (is_pool P.kinds P.words P.count) broken_pool (demand (unwritten old) (all_below P.count (r ∷ [])) unknown_node (file_over old file)) a in
      let (known, rest, a₂) = passed old (all_below P.count (r ∷ [])) unknown_node (file_over old file) a₁ in
      let (room, last, a₃) = passed old (leb (length file) (length old)) no_room written a₂ in
      record { given = one_is_below P.count r known; fits = leb-true (length file) (length old) room; is = whole ∙ rest ∙ last }

  pub file_is_there : Accepted (written_from P r old) → bytes_written (written_from P r old) ≡ file_from P r
  file_is_there a = ap bytes_written (accepted_writes a).is ∙ bytes_are_there file old

  module _ (k : KeepsRules P) (l : r < P.count) where
    fits_accepted : length file ≤ length old → Accepted (written_from P r old)
    unfolding write_call
    fits_accepted fits = rw (k.rules, lt-ltb r P.count l, le-leb (length file) (length old) fits) (length file, refl)

    pub accepted_where_the_file_fits : Accepted (written_from P r old) ↔ (length (file_from P r) ≤ length old)
    accepted_where_the_file_fits = (λ a. (accepted_writes a).fits, fits_accepted)

    -- "The longest file has 36,868 bytes."
    pub longest_file_fits : 4 + 9 * limit ≤ length old → Accepted (written_from P r old)
    longest_file_fits long =
        let n = size_of file in
        let is : length file ≡ 4 + 9 * n = length_of_a_file P k r l in
        let few : n ≤ P.count = (size_of_a_file P k r l).1 in
        let most : P.count ≤ limit = (rules_of P k).count_fits in
        fits_accepted (omega arith)
