-- The strip of a part, and bytes written to an output that has room for them.
-- Assumes nothing.
use Rattle.std.specs.Prelude.{◌≡◌, List, [], ℕ, ◌+◌, length}
use Rattle.std.proofs.lemmas.List.Edits.{sets}
use Rattle.pool.specs.declared.node.Node.{Node}
use Rattle.pool.specs.Fold.{under}
use Rattle.key_strip.specs.Strip.{strip_of}

-- a part has a strip where its number is below the bound
abbrev pub strip_below : (ℕ → Node) → ℕ → ℕ → List ℕ
strip_below at k a = under [] (strip_of at) k a

-- bytes written from a place on: the place after them, and the bytes in place one by one
pub record WrittenFrom (at : ℕ) (before bytes : List ℕ) (to : ℕ) (after : List ℕ) : Type 0 where
  pub end : to ≡ at + length bytes
  pub in_place : after ≡ sets before at bytes
