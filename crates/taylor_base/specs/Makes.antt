-- What the loops over coefficients ask of the closure that they are given. No part of what an expansion means.
-- Assumes nothing.
use Rattle.std.specs.Prelude.{◌≡◌, ℕ, Result}
use denote.Ref.{MutBor}
use Rattle.refusals.specs.declared.Refusal.{Refusal}
use Rattle.pool.specs.Pool.{Pool, Run}
use Rattle.pool.specs.Made.{made}

-- a call that goes from a pool to a result and a pool makes what the work says
abbrev pub Makes : (MutBor Pool → Result ℕ Refusal → MutBor Pool → Type 0) → Run → Type 0
Makes call work = (p q : MutBor Pool) (r : Result ℕ Refusal) → call p r q → made r q.now ≡ work p.now
