-- A call from outside that gives an expansion: its outcome, and what is demanded of the expansions that it is given.
-- Assumes nothing.
use Rattle.std.specs.Prelude.{Bool, ◌&&◌, List, ℕ, Result, Ok, Err}
use Rattle.refusals.specs.Refusals.{unknown_node, wrong_order}
use Rattle.pool.specs.Nodes.{all_below}
use Rattle.pool.specs.Pool.{refused, limit}
use Rattle.lent.specs.Call.{Returned, demand, call_to, given_nodes}
use Rattle.taylor.specs.Work.{Work}
use Rattle.taylor.specs.Expansion.{Expansion}
use Rattle.lent_series.specs.declared.series.Series.{Series}
use Rattle.lent_series.specs.Series.{nodes_of, length_ok, series_of}

-- an expansion as a caller gets it, or the refusal number
abbrev pub Outcome : Type 0
Outcome = Result Series ℕ

abbrev pub accepted : Expansion → Outcome
accepted e = Ok (series_of e)

abbrev pub refused_outcome : ℕ → Outcome
refused_outcome k = Err k

-- a call that has the whole pool and gives an expansion
abbrev pub series_on_pool : Work Expansion → List ℕ → List ℕ → ℕ → Returned Outcome
series_on_pool = call_to accepted refused_outcome limit

-- 5, of which is said what must hold: of an order, a length or an index
abbrev pub given_order : {A : Type 0} → Bool → Work A → Work A
given_order fits work P = demand refused fits wrong_order (work P)

-- 2, then 5, of the expansion given
abbrev pub given_series : {A : Type 0} → Series → Work A → Work A
given_series s work = given_nodes (nodes_of s) (given_order (length_ok s) work)

-- 2 of both, then 5
abbrev pub given_two : {A : Type 0} → Series → Series → Bool → Work A → Work A
given_two s t lengths work P = demand refused (all_below P.count (nodes_of s) && all_below P.count (nodes_of t)) unknown_node (given_order lengths work P)
