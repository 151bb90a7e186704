-- `sheet_lines::answer::all_short` meets its contract: one text that is too long is enough.
-- Assumes nothing.
use Rattle.std.proofs.Common.{ℕ, ◌≤◌, ◌<◌, length, get_or}
use Rattle.low_bytes.specs.Output.{longest_text}
use Rattle.pool.specs.Tables.{nodes}
use Rattle.walks.specs.Print.{text_of}
use Rattle.sheet_lines.proofs.answer.all_short.Given as goal

abbrev pub invariant-loop-i : goal.invariant-loop-i
invariant-loop-i l = (j : ℕ) → j < l.i → length (text_of (nodes l.tables) (get_or l.nodes j 0)) ≤ longest_text
