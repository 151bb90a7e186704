-- What printing leaves in an output.
-- Assumes nothing.
use Rattle.std.specs.Prelude.{◌≡◌, List, ◌++◌, ℕ, ◌≤◌, ◌<◌, min, length, drop}
use Rattle.low_bytes.specs.Output.{longest_text, past_longest}

-- a text put at the front of an output: its length, as far as it is counted; the bytes in place, where it is not too long and there is room for it; and else
-- the output as before
pub record Printed (text before : List ℕ) (n : ℕ) (after : List ℕ) : Type 0 where
  pub counted : n ≡ min (length text) past_longest
  pub in_place : length text ≤ longest_text → length text ≤ length before → after ≡ text ++ drop (length text) before
  pub too_long : longest_text < length text → after ≡ before
  pub no_room : length before < length text → after ≡ before
