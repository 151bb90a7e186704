-- The tables that are filled while what a root needs is found, and what they say of a part.
-- Assumes nothing.
use Rattle.std.specs.Prelude.{◌≡◌, ℕ, ◌+◌, ◌<◌, min, length, get_or}
use Rattle.low_bytes.specs.Output.{past_longest}
use Rattle.pool.specs.declared.node.Node.{Node}
use Rattle.pool.specs.Fold.{under}
use Rattle.pool.specs.Pool.{limit}
use Rattle.key_strip.specs.Strip.{strip_of, places_of, most_places}
use Rattle.strip_write.specs.declared.need.Need.{Need}
use Rattle.strip_write.specs.declared.need.Needs.{Needs}

-- what the tables have of a part of node i
pub record Kept (T : Needs) (i a : ℕ) (need : Need) : Type 0 where
  pub places_are : need.places ≡ under 0 (λ j. get_or T.places j 0) i a
  pub length_is : need.length ≡ under 0 (λ j. get_or T.lengths j 0) i a

-- the tables have what each node before number i needs
pub record NeededBelow (at : ℕ → Node) (i : ℕ) (T : Needs) : Type 0 where
  pub long_places : length T.places ≡ limit
  pub long_lengths : length T.lengths ≡ limit
  pub places_are : (j : ℕ) → j < i → get_or T.places j 0 ≡ min (places_of at j) (most_places + 1)
  pub lengths_are : (j : ℕ) → j < i → get_or T.lengths j 0 ≡ min (length (strip_of at j)) past_longest
