-- One step of a power and of a substitution.
-- Assumes nothing.
use Rattle.std.specs.Prelude.{Bool, cond, ℕ}
use Rattle.taylor.specs.Work.{Work, ◌>>=◌, yield}
use Rattle.taylor.specs.Expansion.{Expansion, times, add_to}
use Rattle.taylor.specs.declared.expansion.Expansion.TheVariants.{Constant}

-- lhs *= rhs where it is asked for
abbrev pub times_if : Bool → Expansion → Expansion → Work Expansion
times_if asked lhs rhs = cond asked (times lhs rhs) (yield lhs)

-- res * subst + Constant(c)
abbrev pub horner_step : Expansion → ℕ → Expansion → Work Expansion
horner_step inner c res = do
  p ← times res inner
  add_to p (Constant c)
