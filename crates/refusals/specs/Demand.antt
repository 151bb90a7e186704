-- A demand: what must hold, or the refusal number.
-- Assumes nothing.
use Rattle.std.specs.Prelude.{Bool, true, false, ℕ}

-- of demands inside one another the outermost is checked first: "1 to 9 are checked first, smallest number first"
abbrev pub demand : {A : Type 0} → (ℕ → A) → Bool → ℕ → A → A
demand refusal true k then = then
demand refusal false k then = refusal k
