-- What `max` asks of a side: its constant alone. No part of what an expansion means.
-- Assumes nothing.
use Rattle.std.specs.Prelude.{[], ℕ, Option, Some, None}
use Rattle.taylor.specs.Expansion.{Expansion}
use Rattle.taylor.specs.declared.expansion.Expansion.TheVariants.{Constant, Polynomial}

-- the constant that an expansion is; a list of whatever length is none
abbrev pub constant_of : Expansion → Option ℕ
constant_of (Constant c) = Some c
constant_of (Polynomial cs) = None

-- a side with that constant; with none, a list
abbrev pub side : Option ℕ → Expansion
side (Some c) = Constant c
side None = Polynomial []
