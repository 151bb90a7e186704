-- What demand 3 says of the calls speaks of these: a call of writing from a root of a pool, and the pool that a call of reading returns.
-- Assumes nothing.
use Rattle.std.specs.Prelude.{◌≡◌, List, ℕ, Ok}
use Rattle.pool.specs.Pool.{Pool}
use Rattle.shape.specs.File.{read_file}
use Rattle.lent.specs.Call.{Returned, lent_pool, on_pool}
use Rattle.lent.specs.Answer.{Answer}
use Rattle.engine_file.specs.Write.{write_call}
use Rattle.lent.specs.Writing.{Put}

-- writing from a root of a lent pool
abbrev pub written_from : Pool → ℕ → List ℕ → Put
written_from P root old = write_call P.kinds P.words P.count root old

-- reading into a lent pool, that is full at the limit
abbrev pub read_into : Pool → List ℕ → Returned Answer
read_into P bs = on_pool (read_file bs) P.kinds P.words P.count

-- the pool that a call returns
abbrev pub pool_returned : Returned Answer → Pool
pool_returned L = lent_pool L.kinds L.words L.count

-- the call is accepted, with the root i
abbrev pub Gives : Returned Answer → ℕ → Type 0
Gives L i = L.answer ≡ Ok i
