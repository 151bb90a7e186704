-- What the code finds of a node: a pattern that matches, with what it holds, or one that is skipped.
-- Assumes nothing.
use Rattle.std.specs.Prelude.{Option, Some, None}
use Rattle.constructors.specs.Terms.{Arm, skip, return}

abbrev pub found : {A : Type 0} → Option A → Arm A
found (Some x) = return x
found None = skip
