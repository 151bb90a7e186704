-- `number_list::value` meets its contract: the digits passed gave n, cut off, and those left go on from it.
-- Assumes nothing.
use Rattle.number_list.proofs.Values.{Reading}
use Rattle.number_list.proofs.value.Given as goal

abbrev pub invariant-loop-byte : goal.invariant-loop-byte
invariant-loop-byte l = Reading l.bytes l.n l.byte-index
