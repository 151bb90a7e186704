-- Which index an expansion has.
-- Assumes nothing.
use Rattle.std.specs.Prelude.{ℕ, ◌<◌, length}
use Rattle.taylor.specs.Expansion.{Expansion}
use Rattle.taylor.specs.declared.expansion.Expansion.TheVariants.{Constant, Polynomial}

-- an index that a list has; a constant takes any
abbrev pub HasIndex : Expansion → ℕ → Type 0
HasIndex (Constant c) k = Unit {0}
HasIndex (Polynomial cs) k = k < length cs
