-- What the answers and the table of kept results of the code stand for. It describes the code, and is no part of what a walk means.
-- Assumes nothing.
use Rattle.std.specs.Prelude.{List, ◌++◌, Option, None, Result, ℕ, ◌-◌, length, replicate}
use Rattle.refusals.specs.declared.Refusal.{Refusal}
use Rattle.pool.specs.Pool.{Pool, limit}
use Rattle.pool.specs.Made.{made}
use Rattle.walks.specs.Walk.{State, state, Went, lifted}

-- the table of the code may end before that of the definition does: none is kept for a node past its end
unfoldable pub results_of : List (Option ℕ) → List (Option ℕ)
results_of kept = kept ++ replicate (limit - length kept) None

-- how many entries the table of a walk from a small root has
abbrev pub few : ℕ
few = 256

-- the state that a pool and the code's table are
abbrev pub state_of : Pool → List (Option ℕ) → State
state_of P kept = state P (results_of kept)

-- an answer, and what the pool and the table hold then
abbrev pub walked : Result ℕ Refusal → Pool → List (Option ℕ) → Went
walked r P kept = lifted (results_of kept) (made r P)
