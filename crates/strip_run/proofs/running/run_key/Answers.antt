-- `running::run_key` meets its contract: each way runs the key of its code, by the laws of `KeyRuns`. A strip that was tested has no other codes, so the last
-- ones of each half are known by what they are not.
-- Assumes nothing.
use Rattle.std.specs.Prelude.{Ok}
use Rattle.std.proofs.lemmas.Result.{err_from_is_err_and}
use mathlib.Core.Path.{refl, ap, ◌∙◌}
use native.Mathlib.Omega.{arith}
use mir.Syntax.{w64}
use mir.ValLaws.{to_z-of_z}
use Rattle.literal.specs.Literal.{is_literal, signed}
use Rattle.double.specs.Double.{double_of}
use Rattle.strip_run.proofs.KeyRuns.Combining.{adds, multiplies, divides, compares}
use Rattle.strip_run.proofs.KeyRuns.{variable_there, variable_room, variable_ran, literal_there, literal_in_range, literal_room, literal_ran, pair_there, pair_ran, exponent_there, power_ran, two_is_left, nine_is_left, ran_as}
use Rattle.strip_run.proofs.running.run_key.Goals as goal

pub two_bytes-v-requires : goal.two_bytes-v-requires
two_bytes-v-requires c =
    variable_there c.requires.running c.requires.at_in_bounds c.if-code-eq1.true

pub returns-in_err-x : goal.returns-in_err-x
returns-in_err-x c =
    let p = err_from_is_err_and c.from_residual.result c.from_residual.ensures.1 in
    rw (p.1, p.2)
    (variable_ran c.requires.running c.requires.at_in_bounds c.if-code-eq1.true (λ i. (c.type_inv.strip i).fits) (c.from.ensures ∙ c.two_bytes-v.ensures) c.in_err-x.ensures)

pub pushed-requires : goal.pushed-requires
pushed-requires c =
    variable_room c.requires.running c.requires.at_in_bounds c.if-code-eq1.true (λ i. (c.type_inv.strip i).fits)

pub returns-then-code-eq1 : goal.returns-then-code-eq1
returns-then-code-eq1 c =
    ran_as _ _ _ (ap Ok c.pushed.ensures.moved) c.pushed.ensures.held_after
    (variable_ran c.requires.running c.requires.at_in_bounds c.if-code-eq1.true (λ i. (c.type_inv.strip i).fits) (c.from.ensures ∙ c.two_bytes-v.ensures) c.in_ok-x.ensures)

pub eight_bytes-requires : goal.eight_bytes-requires
eight_bytes-requires c =
    literal_there c.requires.running c.requires.at_in_bounds (two_is_left c.requires.running c.requires.at_in_bounds c.if-code-lt3.true c.if-code-eq1.false)

pub exact-requires : goal.exact-requires
exact-requires c =
    let two = two_is_left c.requires.running c.requires.at_in_bounds c.if-code-lt3.true c.if-code-eq1.false in
    ap is_literal (to_z-of_z w64 c.from_word-z.result (record { sfits = c.from_word-z.type_inv }) ∙ c.from_word-z.ensures ∙ ap signed c.eight_bytes.ensures) ∙ literal_in_range c.requires.running c.requires.at_in_bounds two

pub pushed-requires-then-code-lt3 : goal.pushed-requires-then-code-lt3
pushed-requires-then-code-lt3 c =
    literal_room c.requires.running c.requires.at_in_bounds (two_is_left c.requires.running c.requires.at_in_bounds c.if-code-lt3.true c.if-code-eq1.false)

pub returns-then-code-lt3 : goal.returns-then-code-lt3
returns-then-code-lt3 c =
    let two = two_is_left c.requires.running c.requires.at_in_bounds c.if-code-lt3.true c.if-code-eq1.false in
    let same = to_z-of_z w64 c.from_word-z.result (record { sfits = c.from_word-z.type_inv }) ∙ c.from_word-z.ensures ∙ ap signed c.eight_bytes.ensures in
    ran_as _ _ _ (ap Ok c.pushed-then-code-lt3.ensures.moved) c.pushed-then-code-lt3.ensures.held_after
    (literal_ran c.requires.running c.requires.at_in_bounds two (c.exact.ensures ∙ ap double_of same))

pub combined-requires-clause-places : goal.combined-requires-clause-places
combined-requires-clause-places c =
    pair_there c.requires.running c.requires.at_in_bounds multiplies c.if-code-eq4.true

pub returns-then-code-eq4 : goal.returns-then-code-eq4
returns-then-code-eq4 c =
    ran_as _ _ _ (ap Ok c.combined.ensures.moved) refl (pair_ran c.requires.running c.requires.at_in_bounds multiplies c.if-code-eq4.true c.combined.ensures.value)

pub combined-requires-then-code-eq3-clause-places : goal.combined-requires-then-code-eq3-clause-places
combined-requires-then-code-eq3-clause-places c =
    pair_there c.requires.running c.requires.at_in_bounds adds c.if-code-eq3.true

pub returns-then-code-eq3 : goal.returns-then-code-eq3
returns-then-code-eq3 c =
    ran_as _ _ _ (ap Ok c.combined-then-code-eq3.ensures.moved) refl (pair_ran c.requires.running c.requires.at_in_bounds adds c.if-code-eq3.true c.combined-then-code-eq3.ensures.value)

pub combined-requires-then-code-lt6-clause-places : goal.combined-requires-then-code-lt6-clause-places
combined-requires-then-code-lt6-clause-places c =
    pair_there c.requires.running c.requires.at_in_bounds divides (omega (arith, c.if-code-lt3.false, c.if-code-lt6.true, c.if-code-eq4.false, c.if-code-eq3.false))

pub returns-then-code-lt6 : goal.returns-then-code-lt6
returns-then-code-lt6 c =
    ran_as _ _ _ (ap Ok c.combined-then-code-lt6.ensures.moved) refl
    (pair_ran c.requires.running c.requires.at_in_bounds divides (omega (arith, c.if-code-lt3.false, c.if-code-lt6.true, c.if-code-eq4.false, c.if-code-eq3.false)) c.combined-then-code-lt6.ensures.value)

pub four_bytes-e-requires : goal.four_bytes-e-requires
four_bytes-e-requires c =
    exponent_there c.requires.running c.requires.at_in_bounds c.if-code-eq8.true

pub returns-then-code-eq8 : goal.returns-then-code-eq8
returns-then-code-eq8 c =
    ran_as _ _ _ (ap Ok c.raised.ensures) refl (power_ran c.requires.running c.requires.at_in_bounds c.if-code-eq8.true c.four_bytes-e.ensures refl)

pub combined-requires-2-clause-places : goal.combined-requires-2-clause-places
combined-requires-2-clause-places c =
    pair_there c.requires.running c.requires.at_in_bounds compares (nine_is_left c.requires.running c.requires.at_in_bounds c.if-code-lt6.false c.if-code-eq8.false)

pub returns : goal.returns
returns c =
    ran_as _ _ _ (ap Ok c.combined-2.ensures.moved) refl
    (pair_ran c.requires.running c.requires.at_in_bounds compares (nine_is_left c.requires.running c.requires.at_in_bounds c.if-code-lt6.false c.if-code-eq8.false) c.combined-2.ensures.value)
