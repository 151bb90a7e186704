-- `lent::rules::nodes_keep` meets its contract: the entries that were passed keep the rules.
-- Assumes nothing.
use mathlib.Core.Path.{◌≡◌}
use mathlib.Core.Bool.{true}
use Prim.Native.Nat.{◌≤◌}
use Rattle.pool.specs.Pool.{each}
use Rattle.constructor_laws.proofs.Rules.{entry_at}
use Rattle.lent.proofs.rules.nodes_keep.Given as goal

abbrev pub invariant-loop-i : goal.invariant-loop-i
invariant-loop-i l = (l.i ≤ l.count) × (each l.i (entry_at l.tables.kinds.now l.tables.words.now l.count) ≡ true)
