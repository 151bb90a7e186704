-- Each refusal in its situation and in no other, of every call: on any lent tables and any count, where the words have 64 bits.
-- Assumes nothing.
use mathlib.Core.List.{List}
use Prim.Native.Nat.{ℕ, ◌^◌, ◌<◌}
use lib.ListN.{get_or}
use Rattle.situation_calls.specs.Answers.{OfCalls, OfSeries}
use Rattle.situation_calls.proofs.Nodes.{of_calls}
use Rattle.situation_calls.proofs.Expansions.{of_series}

module _ (ks ws : List ℕ) (n : ℕ) (fit : (i : ℕ) → get_or ws i 0 < 2 ^ 64) where
  pub every_call : OfCalls ks ws n × OfSeries ks ws n
  every_call = (of_calls ks ws n fit, of_series ks ws n fit)
