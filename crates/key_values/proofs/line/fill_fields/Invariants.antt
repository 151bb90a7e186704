-- `key_values::line::fill_fields` meets its contract: the fields passed are in the table, and those left go on from them.
-- Assumes nothing.
use Rattle.std.proofs.Common.{length}
use Rattle.sheet_line.specs.Split.{split}
use Rattle.key_values.proofs.Filling.{Filling}
use Rattle.key_values.proofs.line.fill_fields.Given as goal

abbrev pub invariant-loop-field : goal.invariant-loop-field
invariant-loop-field l = Filling (split l.text) l.initial.table l.table (length l.yielded) l.n
