-- `key_values::hex::hex` meets its contract: the digits passed gave n, and those left go on from it. 16 digits fit in 64 bits.
-- Assumes nothing.
use Rattle.key_values.proofs.HexDigits.{Reading}
use Rattle.key_values.proofs.hex.hex.Given as goal

abbrev pub invariant-loop-byte : goal.invariant-loop-byte
invariant-loop-byte l = Reading l.bytes l.n l.byte-index
