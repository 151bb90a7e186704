-- What the machine's code promises of a key in a strip.
-- Assumes nothing.
use Rattle.std.specs.Prelude.{◌≡◌, List, ◌∷◌, ℕ, ◌<◌, ◌≤◌, length, drop}
use Rattle.key_strip.specs.Machine.{keys_of}
use Rattle.strip_run.specs.declared.keys.Key.{Key}

-- the key at a place, and where the rest of the strip begins
pub record KeyAt (strip : List ℕ) (at : ℕ) (r : Key) : Type 0 where
  pub later : at < r.next
  pub within : r.next ≤ length strip
  pub first : keys_of (drop at strip) ≡ r.node ∷ keys_of (drop r.next strip)
