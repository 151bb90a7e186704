-- What the strip of a root needs.
-- Assumes nothing.
use Rattle.std.specs.Prelude.{◌≡◌, ℕ, ◌+◌, min, length}
use Rattle.low_bytes.specs.Output.{past_longest}
use Rattle.pool.specs.declared.node.Node.{Node}
use Rattle.key_strip.specs.Strip.{strip_of, places_of, most_places}
use Rattle.strip_write.specs.declared.need.Need.{Need}

-- its places and its bytes, as far as they are counted: one past the most that are taken
pub record Needed (at : ℕ → Node) (root : ℕ) (need : Need) : Type 0 where
  pub places_are : need.places ≡ min (places_of at root) (most_places + 1)
  pub length_is : need.length ≡ min (length (strip_of at root)) past_longest
