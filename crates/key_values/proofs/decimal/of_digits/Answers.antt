-- `key_values::decimal::of_digits` meets its contract: few enough digits make a number that is exact.
-- Assumes nothing.
use Rattle.std.proofs.Common.{sym, ◌∙◌, arith}
use Rattle.key_values.proofs.Quotients.{some_joined, number_exact}
use Rattle.key_values.proofs.decimal.of_digits.Goals as goal

pub quotient-requires-clause-exact : goal.quotient-requires-clause-exact
quotient-requires-clause-exact c =
    let before = c.args.before.now in
    let behind = c.args.behind.now in
    let whole = some_joined before behind (sym c.in_ok-n.was ∙ c.digits.ensures) in
    number_exact c.args.negative before behind (omega (arith, c.if-before-behind.false, c.if-before-gt-DIGITS.false)) (sym c.in_ok-p.was ∙ c.digits-2.ensures ∙ whole)
