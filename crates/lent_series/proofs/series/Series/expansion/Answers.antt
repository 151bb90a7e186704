-- `Series::expansion` meets its contract: the entries of the list are nodes.
-- Assumes nothing.
use borrow.Author.Rules.{rules}
use native.Mathlib.Omega.{arith}
use mathlib.Core.Path.{◌≡◌, sym, ◌∙◌}
use lib.ListN.{length}
use Rattle.taylor.specs.Coefficients.{terms}
use Rattle.lent_series.proofs.Numbers.{listed, list_node}
use Rattle.lent_series.proofs.series.Series.expansion.Goals as goal

pub overflow_cast-entries : goal.overflow_cast-entries
overflow_cast-entries c =
    let long : length c.args.self.now.coeffs ≡ terms = search rules in
    let list = listed c.args.self.now (sym c.has_length.ensures ∙ c.if-not-has_length.false) c.if-self.false in
    record { fits = omega (arith, list_node c.args.self.now long c.requires c.if-self.false list.1 c.loop-i.i c.loop-i-test.true) }
