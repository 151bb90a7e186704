-- What the code of `log` and `div` finds to be built: the right sides of their tables.
-- Assumes nothing.
use Rattle.std.specs.Prelude.{pos}
use Rattle.constructors.specs.Terms.{Term, #, lit, lit_log, add, log, Log, Div}
use Rattle.logs.specs.declared.rule.LogRule.{LogRule}
use Rattle.logs.specs.declared.rule.LogRule.TheVariants as of_log
use Rattle.logs.specs.declared.rule.DivRule.{DivRule}
use Rattle.logs.specs.declared.rule.DivRule.TheVariants as of_div

-- the term that a rule of `log` stands for
abbrev pub log_term : LogRule → Term
log_term of_log.Zero = lit (pos 0)
log_term (of_log.Literal a) = lit_log a
log_term (of_log.Product a b) = add (log (# b)) (lit_log a)
log_term (of_log.Plain a) = Log (# a)

-- the term that a rule of `div` stands for
abbrev pub div_term : DivRule → Term
div_term of_div.Zero = lit (pos 0)
div_term (of_div.Same a) = # a
div_term (of_div.Plain a b) = Div (# a) (# b)
