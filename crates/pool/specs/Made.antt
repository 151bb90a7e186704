-- What the answers of the code stand for.
-- Assumes nothing.
use Rattle.std.specs.Prelude.{Result, Ok, Err}
use Rattle.refusals.specs.Numbers.{number}
use Rattle.refusals.specs.declared.Refusal.{Refusal}
use Rattle.pool.specs.Pool.{Pool, done, refused}
use Rattle.pool.specs.Work as work

-- what was given, a node or an expansion, and the pool then; or the refusal's number
abbrev pub made : {A : Type 0} → Result A Refusal → Pool → work.Result Pool A
made (Ok x) P = done x P
made (Err r) P = refused (number r)
