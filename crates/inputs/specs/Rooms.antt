-- What a room holds of an input that was read into it, and when it holds enough of a node file.
-- Assumes nothing.
use Rattle.std.specs.Prelude.{◌≡◌, List, ℕ, length, take, Result, Ok, Err, Option, Some, None}
use Rattle.io.specs.Counts.{IsPrefixLen}
use Rattle.pool.specs.Pool.{Pool}
use Rattle.shape.specs.File.{read_file}
use Rattle.outputs.specs.declared.Failed.{Failed}

-- n bytes that were read of an input stand at the front of a room: all of it, or as many as the room has
abbrev pub Holds : List ℕ → ℕ → List ℕ → Type 0
Holds room n input = take n room ≡ take (length room) input

-- the bytes that were read, if there is such a file, are within the room
abbrev pub Within : Result (Option ℕ) Failed → List ℕ → Type 0
Within (Ok (Some n)) room = IsPrefixLen n room
Within (Ok None) room = Unit {0}
Within (Err f) room = Unit {0}

-- the bytes that were read are refused or read as the whole file is, whatever pool they are read into
abbrev pub Enough : ℕ → List ℕ → Type 0
Enough n room = (file : List ℕ) → Holds room n file → (P : Pool) → read_file (take n room) P ≡ read_file file P

abbrev pub Decides : Result (Option ℕ) Failed → List ℕ → Type 0
Decides (Ok (Some n)) room = IsPrefixLen n room × Enough n room
Decides (Ok None) room = Unit {0}
Decides (Err f) room = Unit {0}
