-- Numbers in a text: each is a run of digits, and what stands between them is passed over.
-- Assumes nothing.
use Rattle.std.specs.Prelude.{◌≡◌, Bool, true, false, not, ◌&&◌, cond, List, [], ◌∷◌, ℕ, zero, suc, ◌+◌, ◌*◌, ◌-◌, ◌≤◌, ◌<◌, leb, eqb, drop}
use Rattle.std.specs.List.{position_or_len}

-- the greatest number of 64 bits
abbrev pub greatest_number : ℕ
greatest_number = 18446744073709551615

abbrev pub is_digit : ℕ → Bool
is_digit b = leb 48 b && leb b 57

abbrev pub belongs_to : Bool → ℕ → Bool
belongs_to true b = is_digit b
belongs_to false b = not (is_digit b)

-- how many bytes at the start are digits, or are none
unfoldable pub run : Bool → List ℕ → ℕ
run digits [] = 0
run digits (b ∷ bs) = cond (belongs_to digits b) (suc (run digits bs)) 0

-- what the digits at the start make of the number before them
unfoldable pub value : ℕ → List ℕ → ℕ
value n [] = n
value n (b ∷ bs) = cond (is_digit b) (value (10 * n + (b - 48)) bs) n

-- what is left of a text from its first digit on
abbrev pub from_digit : List ℕ → List ℕ
from_digit text = drop (run false text) text

-- the next number, and what is left behind it
abbrev pub next_number : List ℕ → ℕ
next_number text = value 0 (from_digit text)

abbrev pub behind_number : List ℕ → List ℕ
behind_number text = drop (run true (from_digit text)) (from_digit text)

-- what is left behind so many numbers
unfoldable pub behind_numbers : ℕ → List ℕ → List ℕ
behind_numbers zero text = text
behind_numbers (suc n) text = behind_number (behind_numbers n text)

-- what is left of a text from its first line end on
abbrev pub from_line_end : List ℕ → List ℕ
from_line_end text = drop (position_or_len (λ b. eqb b 10) text) text

-- no table of a list is longer
abbrev pub longest : ℕ
longest = 65537

-- a number of 64 bits is read as it is; a greater one, which no list has, as the greatest
pub record Reads (r v : ℕ) : Type 0 where
  pub fits : v ≤ greatest_number → r ≡ v
  pub above : greatest_number < v → r ≡ greatest_number
