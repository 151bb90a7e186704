-- `number_list::value` meets its contract: the digits passed gave n, cut off, and those left go on from it.
-- Assumes nothing.
use Rattle.number_list.proofs.Values.{ends}
use Rattle.number_list.proofs.value.Goals as goal

pub returns : goal.returns
returns c = ends _ _ _ c.loop-byte.invariant c.loop-byte-test.false
