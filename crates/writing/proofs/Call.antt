-- The entry point's call: what `write` leaves is the file of that numbering over the output, or 19 where it does not fit.
-- Assumes nothing.
use mathlib.Core.Path.{◌≡◌, ap, ◌∙◌}
use mathlib.Core.List.{List, []}
use Prim.Native.Nat.{ℕ, ◌<◌}
use borrow.Author.Tests.{lt-ltb}
use Rattle.pool.specs.Pool.{Pool, node_at}
use Rattle.shape.specs.Order.{entries}
use Rattle.shape.specs.File.{file_of}
use Rattle.shape.specs.Demand.{KeepsRules}
use Rattle.engine_file.specs.Write.{file_over, write_call}
use Rattle.lent.specs.Writing.{Accepted, bytes_written}
use Rattle.engine_file.specs.Outcome.{written_from}
use Rattle.engine_file.proofs.Accepting.{accepted_writes, file_is_there}
use Rattle.writing.specs.Numbering.{Numbers}
use Rattle.writing.proofs.Numbering.{file_of_the_numbering}

module _ (P : Pool) (k : KeepsRules P) (r : ℕ) (old : List ℕ) {o : List ℕ} (n : Numbers (node_at P) [] r o) where
  pub write_leaves_the_numbering : r < P.count → written_from P r old ≡ file_over old (file_of (entries (node_at P) o))
  unfolding write_call
  write_leaves_the_numbering l = rw (k.rules, lt-ltb r P.count l) (ap (file_over old) (file_of_the_numbering P k r l n))

  pub accepted_writes_the_numbering : Accepted (written_from P r old) → bytes_written (written_from P r old) ≡ file_of (entries (node_at P) o)
  accepted_writes_the_numbering a = file_is_there P r old a ∙ file_of_the_numbering P k r (accepted_writes P r old a).given n
