-- What the code's table of kept expansions stands for, and what its walk answers. No part of what an expansion means.
-- Assumes nothing.
use Rattle.std.specs.Prelude.{List, [], ◌∷◌, ◌++◌, ℕ, ◌-◌, ◌<◌, length, replicate, get_or, Result, Ok, Err, None, unwrap_or, IsSome}
use Rattle.refusals.specs.Numbers.{number}
use Rattle.refusals.specs.declared.Refusal.{Refusal}
use Rattle.pool.specs.Pool.{Pool, limit, done, refused}
use Rattle.taylor.specs.Expansion.{Expansion}
use Rattle.taylor.specs.declared.expansion.Expansion.TheVariants.{Constant}
use Rattle.taylor.specs.Expand.{Kept, state, Went}

-- the table's entries, and nothing past its end
abbrev pub results_of : List Kept → List Kept
results_of kept = kept ++ replicate (limit - length kept) None

-- what is kept for node i
abbrev pub expansion_at : List Kept → ℕ → Expansion
expansion_at kept i = unwrap_or (get_or kept i None) (Constant 0)

-- an expansion is kept for node i, and the table has a place for it
pub record IsKept (kept : List Kept) (i : ℕ) : Type 0 where
  pub within : i < length kept
  pub some : IsSome (get_or kept i None)

-- and for each of these
abbrev pub AllKept : List Kept → List ℕ → Type 0
AllKept kept [] = Unit {0}
AllKept kept (i ∷ more) = IsKept kept i × AllKept kept more

-- an answer at node i, where the expansion then stands in the table, or a refusal
abbrev pub walked : {A : Type 0} → Result A Refusal → Pool → List Kept → ℕ → Went
walked (Ok x) P kept i = done (expansion_at kept i) (state P (results_of kept))
walked (Err r) P kept i = refused (number r)
