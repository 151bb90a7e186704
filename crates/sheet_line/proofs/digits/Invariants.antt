-- `sheet_line::digits` meets its contract: the digits passed gave n, and those left go on from it.
-- Assumes nothing.
use Rattle.sheet_line.proofs.Numbers.{Reading}
use Rattle.sheet_line.proofs.digits.Given as goal

abbrev pub invariant-loop-byte : goal.invariant-loop-byte
invariant-loop-byte l = Reading l.before l.bytes l.n l.byte-index
