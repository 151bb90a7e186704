-- The calls on key strips with 1 passed.
-- Assumes nothing.
use mathlib.Core.Path.{◌≡◌}
use mathlib.Core.Bool.{true, not}
use mathlib.Core.List.{List, [], ◌∷◌}
use Prim.Native.Nat.{ℕ}
use lib.Dec.{leb}
use lib.ListN.{length}
use Rattle.refusals.specs.Refusals.{unknown_node, not_evaluated, no_room, too_many_places}
use Rattle.low_bytes.specs.Output.{text_fits}
use Rattle.pool.specs.Nodes.{all_below}
use Rattle.pool.specs.Pool.{node_in}
use Rattle.key_strip.specs.Strip.{strip_of, places_of, most_places, has_exp_or_log}
use Rattle.lent.specs.Call.{demand}
use Rattle.lent.specs.Writing.{Put, unwritten, writes}
use Rattle.engine_strip.specs.Strips.{strip_call}
use Rattle.limits.specs.Lent.{Entry, lent, kinds_of, words_of}
use Rattle.limits.specs.Calls.{length_written, output, bytes_in}
use Rattle.limits.proofs.Pools.{fits, by_rules}
use Rattle.limits_strips.specs.Calls.{stripped, strip}

-- on two tables and a count
abbrev pub strip_worked : ℕ → List ℕ → List ℕ → List ℕ → ℕ → Put
strip_worked root out ks ws n =
    demand (unwritten out) (all_below n (root ∷ [])) unknown_node
    (demand (unwritten out) (not (has_exp_or_log (node_in ks ws) root)) not_evaluated
    (demand (unwritten out) (leb (places_of (node_in ks ws) root) most_places) too_many_places
    (demand (unwritten out) (text_fits (strip_of (node_in ks ws) root) out) no_room
    (writes (strip_of (node_in ks ws) root) out))))

-- on a pool of few entries
module _ (es : List Entry) (ok : fits es ≡ true) where
  pub stripped_on : (room root : ℕ) → stripped room root (lent es) ≡ length_written (strip_worked root (output room) (kinds_of es) (words_of es) (length es)).answer
  unfolding lent stripped strip_call
  stripped_on room root = rw (by_rules es ok)

  pub strip_on : (root : ℕ)
      → strip root (lent es) ≡ bytes_in (length_written (strip_worked root (output 64) (kinds_of es) (words_of es) (length es)).answer) (strip_worked root (output 64) (kinds_of es) (words_of es) (length es)).out
  unfolding lent strip strip_call
  strip_on root = rw (by_rules es ok)
