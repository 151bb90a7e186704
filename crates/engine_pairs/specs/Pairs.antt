-- The operations on two expansions as calls from outside: 1, 2 and 5 first, then the work.
-- Assumes nothing.
use Rattle.std.specs.Prelude.{Bool, ◌&&◌, ◌||◌, eqb}
use Rattle.taylor.specs.Work.{Work}
use Rattle.taylor.specs.Expansion.{Expansion, add_to, sub_from, times, quotient, maximum, subst}
use Rattle.lent_series.specs.declared.series.Series.{Series}
use Rattle.lent_series.specs.Series.{is_constant, length_ok, given}
use Rattle.lent_series.specs.Call.{given_two}
use Rattle.engine_pairs.specs.declared.binary.Binary.{Binary}
use Rattle.engine_pairs.specs.declared.binary.Binary.TheVariants as binary

abbrev pub binary_work : Binary → Expansion → Expansion → Work Expansion
binary_work binary.Add s t = add_to s t
binary_work binary.Sub s t = sub_from s t
binary_work binary.Mul s t = times s t
binary_work binary.Div s t = quotient s t
binary_work binary.Max s t = maximum s t
binary_work binary.Subst s t = subst s t

-- 5. "`subst` gets two lists of unequal length"
abbrev pub agree : Series → Series → Bool
agree s t = is_constant s || (is_constant t || eqb s.order t.order)

abbrev pub lengths_ok : Binary → Series → Series → Bool
lengths_ok binary.Add s t = length_ok s && length_ok t
lengths_ok binary.Sub s t = length_ok s && length_ok t
lengths_ok binary.Mul s t = length_ok s && length_ok t
lengths_ok binary.Div s t = length_ok s && length_ok t
lengths_ok binary.Max s t = length_ok s && length_ok t
lengths_ok binary.Subst s t = (length_ok s && length_ok t) && agree s t

abbrev pub on_expansions : Binary → Series → Series → Work Expansion
on_expansions op s t = given_two s t (lengths_ok op s t) (binary_work op (given s) (given t))

-- ---- the calls by name
abbrev pub add_call : Series → Series → Work Expansion
add_call s t = on_expansions binary.Add s t

abbrev pub sub_call : Series → Series → Work Expansion
sub_call s t = on_expansions binary.Sub s t

abbrev pub mul_call : Series → Series → Work Expansion
mul_call s t = on_expansions binary.Mul s t

abbrev pub div_call : Series → Series → Work Expansion
div_call s t = on_expansions binary.Div s t

abbrev pub max_call : Series → Series → Work Expansion
max_call s t = on_expansions binary.Max s t

abbrev pub subst_call : Series → Series → Work Expansion
subst_call s t = on_expansions binary.Subst s t
