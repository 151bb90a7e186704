-- `lent::rules::word_bits` meets its contract: the bits that were gathered tell of the entries that were passed.
-- Assumes nothing.
use mathlib.Core.Path.{◌≡◌}
use lib.Dec.{eqb}
use Prim.Native.Nat.{◌≤◌}
use Rattle.pool.specs.Pool.{each}
use Rattle.lent.specs.Lent.{zero_at}
use Rattle.lent.proofs.rules.word_bits.Given as goal

abbrev pub invariant-loop-i : goal.invariant-loop-i
invariant-loop-i l = (l.from ≤ l.i) × ((l.i ≤ l.to) × (eqb l.bits 0 ≡ each l.i (zero_at l.from l.words)))
