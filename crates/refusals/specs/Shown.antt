-- What a refusal is shown as, where its text is asked for.
-- Assumes nothing.
use Rattle.std.specs.Prelude.{ℕ, List, ◌++◌, codes, decimal}
use Rattle.refusals.specs.declared.Refusal.{Refusal}
use Rattle.refusals.specs.Numbers.{number}

-- the word `refusal`, a space and the number
abbrev pub shown : Refusal → List ℕ
shown refusal = codes "refusal " ++ decimal (number refusal)
