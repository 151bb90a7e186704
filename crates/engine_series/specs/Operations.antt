-- The operations on one expansion as calls from outside: refusals 1, 2 and 5 first, then the work.
-- Assumes nothing.
use Rattle.std.specs.Prelude.{ℕ}
use Rattle.taylor.specs.Work.{Work}
use Rattle.taylor.specs.Expansion.{Expansion, negate, exponential, logarithm, power}
use Rattle.lent_series.specs.declared.series.Series.{Series}
use Rattle.lent_series.specs.Series.{given}
use Rattle.lent_series.specs.Call.{given_series}
use Rattle.engine_series.specs.declared.Unary.{Unary}
use Rattle.engine_series.specs.declared.Unary.TheVariants as unary

abbrev pub unary_work : Unary → Expansion → Work Expansion
unary_work unary.Neg e = negate e
unary_work unary.Exp e = exponential e
unary_work unary.Log e = logarithm e
unary_work (unary.Pow n) e = power e n

abbrev pub on_expansion : Unary → Series → Work Expansion
on_expansion op s = given_series s (unary_work op (given s))

-- ---- the calls by name
abbrev pub neg_call : Series → Work Expansion
neg_call s = on_expansion unary.Neg s

abbrev pub exp_call : Series → Work Expansion
exp_call s = on_expansion unary.Exp s

abbrev pub log_call : Series → Work Expansion
log_call s = on_expansion unary.Log s

abbrev pub pow_call : Series → ℕ → Work Expansion
pow_call s n = on_expansion (unary.Pow n) s
