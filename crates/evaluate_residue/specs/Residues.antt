-- Residues below the modulus: the values that are given, and the answers.
-- Assumes nothing.
use Rattle.std.specs.Prelude.{List, ℕ, ◌<◌, length, get_or, Ok, Err}
use Rattle.residue.specs.Residue.{Divided}

-- every value of the table is a residue
pub record AreResidues (m : ℕ) (values : List ℕ) : Type 0 where
  pub below : (v : ℕ) → v < length values → get_or values v 0 < m

-- an answer that is a residue, or a refusal
abbrev pub Below : ℕ → Divided → Type 0
Below m (Ok x) = x < m
Below m (Err k) = Unit
