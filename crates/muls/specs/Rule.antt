-- What the code of `exp` finds to be built: the right sides of the table of `exp`.
-- Assumes nothing.
use Rattle.std.specs.Prelude.{pos}
use Rattle.constructors.specs.Terms.{Term, #, lit, lit_exp, mul, exp, Exp}
use Rattle.muls.specs.declared.rule.ExpRule.{ExpRule}
use Rattle.muls.specs.declared.rule.ExpRule.TheVariants.{One, Literal, Shifted, Plain}

-- the term that a rule stands for
abbrev pub exp_term : ExpRule → Term
exp_term One = lit (pos 1)
exp_term (Literal z) = lit_exp z
exp_term (Shifted z a) = mul (lit_exp z) (exp (# a))
exp_term (Plain a) = Exp (# a)
