-- A coefficient or a derivative of an expansion as a call from outside: refusals 1, 2 and 5 first, then the work, which gives a node.
-- Assumes nothing.
use Rattle.std.specs.Prelude.{Bool, ◌&&◌, ◌||◌, ℕ, ltb}
use Rattle.pool.specs.Pool.{Run}
use Rattle.taylor.specs.Expansion.{Expansion, coeff, derivative}
use Rattle.lent.specs.Call.{given_nodes}
use Rattle.lent_series.specs.declared.series.Series.{Series}
use Rattle.lent_series.specs.Series.{is_constant, nodes_of, length_ok, given}
use Rattle.lent_series.specs.Call.{given_order}
use Rattle.engine_index.specs.declared.Indexed.{Indexed}
use Rattle.engine_index.specs.declared.Indexed.TheVariants as indexed

abbrev pub indexed_work : Indexed → Expansion → ℕ → Run
indexed_work indexed.Coeff e k = coeff e k
indexed_work indexed.Derivative e k = derivative e k

-- 5. "a coefficient index is outside its list"; "The indices .. have no limit for a constant."
abbrev pub has_index : Series → ℕ → Bool
has_index s k = length_ok s && (is_constant s || ltb k s.order)

abbrev pub given_index : Series → ℕ → Run → Run
given_index s k work = given_nodes (nodes_of s) (given_order (has_index s k) work)

abbrev pub on_index : Indexed → Series → ℕ → Run
on_index op s k = given_index s k (indexed_work op (given s) k)

-- ---- the calls by name
abbrev pub coeff_call : Series → ℕ → Run
coeff_call s k = on_index indexed.Coeff s k

abbrev pub derivative_call : Series → ℕ → Run
derivative_call s k = on_index indexed.Derivative s k
