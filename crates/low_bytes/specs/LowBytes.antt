-- Numbers as bytes, "low byte first".
-- Assumes nothing.
use Rattle.std.specs.Prelude.{List, [], ◌∷◌, ℕ, zero, suc, ◌+◌, ◌*◌, ◌/◌, ◌%◌, ◌<◌, get_or}

-- the k lowest bytes of a number, "low byte first"
abbrev pub low_bytes : ℕ → ℕ → List ℕ
low_bytes zero x = []
low_bytes (suc k) x = x % 256 ∷ low_bytes k (x / 256)

-- the number whose k bytes, low byte first, stand from place i on
abbrev pub number_at : ℕ → List ℕ → ℕ → ℕ
number_at zero bs i = 0
number_at (suc k) bs i = get_or bs i 0 + 256 * number_at k bs (suc i)

-- "Whatever bytes are handed in"
abbrev pub AreBytes : List ℕ → Type 0
AreBytes bs = (i : ℕ) → get_or bs i 0 < 256
