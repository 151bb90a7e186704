-- `lent::rules::words_rest` meets its contract: the bits of the blocks that were passed tell of their entries.
-- Assumes nothing.
use mathlib.Core.Path.{◌≡◌}
use lib.Dec.{eqb}
use Prim.Native.Nat.{◌*◌, ◌≤◌}
use Rattle.pool.specs.Pool.{each}
use Rattle.lent.specs.Lent.{zero_at}
use Rattle.lent.proofs.rules.words_rest.Given as goal

abbrev pub invariant-loop-block : goal.invariant-loop-block
invariant-loop-block l = (l.from ≤ 32 * l.block) × (eqb l.bits 0 ≡ each (32 * l.block) (zero_at l.from l.words))
