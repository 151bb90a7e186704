-- `key_values::hex::hex` meets its contract: the digits passed gave n, and those left go on from it. 16 digits fit in 64 bits.
-- Assumes nothing.
use Rattle.std.proofs.Common.{sym, ◌∙◌}
use Rattle.key_values.proofs.HexDigits.{turn}
use Rattle.key_values.proofs.hex.hex.Goals as goal

pub loop-byte-preserved : goal.loop-byte-preserved
loop-byte-preserved c = turn _ _ _ c.loop-byte.invariant c.loop-byte-test.true (sym c.in_ok-value.was ∙ c.digit.ensures)
