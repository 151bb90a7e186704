-- `low_bytes::number::number_at` meets its contract: each turn takes one more byte in front, and eight of them fit.
-- Assumes nothing.
use Rattle.low_bytes.proofs.LowFirst.{NumberRead}
use Rattle.low_bytes.proofs.number.number_at.Given as goal

abbrev pub invariant-loop-i : goal.invariant-loop-i
invariant-loop-i l = NumberRead l.bytes l.at l.k l.number l.i
