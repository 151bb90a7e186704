-- `mul_rules::factors::Factors::lits` meets its contract: the check finds all of it but two literals, whose terms are too large for its limits.
-- Assumes nothing.
use borrow.Author.Rules.{rules}
use mathlib.Core.Path.{sym, ◌∙◌}
use mir.Syntax.{w64}
use mir.ValLaws.{to_z-of_z}
use Rattle.pool.specs.Pool.{node_at}
use Rattle.mul_rules.proofs.Groups.{lit_lit}
use Rattle.mul_rules.proofs.factors.Factors.lits.Goals as goal

pub returns-in-Lit-right : goal.returns-in-Lit-right
returns-in-Lit-right c =
    lit_lit (node_at c.args.self.pool.now) c.args.self.lhs c.args.self.rhs
    (sym c.args.self.left_is ∙ c.in-Lit.is)
    (sym c.args.self.right_is ∙ c.in-Lit-right.is)
    c.two_lits.ensures
    (to_z-of_z w64 c.in-Lit.a (search rules))
    (to_z-of_z w64 c.in-Lit-right.b (search rules))
