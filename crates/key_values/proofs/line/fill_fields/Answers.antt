-- `key_values::line::fill_fields` meets its contract: the fields passed are in the table, and those left go on from them.
-- Assumes nothing.
use Rattle.std.proofs.Common.{◌∙◌, sym, rules, tests}
use Rattle.std.proofs.lemmas.Iterator.Consumers.{YieldsList-turn, YieldsList-end}
use Rattle.std.proofs.lemmas.List.{length_push}
use Rattle.sheet_line.specs.Split.{split}
use Rattle.key_values.proofs.Filling.{fields_yielded, starts, no_value_there, turn, ends}
use Rattle.key_values.proofs.line.fill_fields.Goals as goal

pub loop-field-init : goal.loop-field-init
loop-field-init c = starts (split c.args.text.now) c.args.table.now

pub returns-in_err-x : goal.returns-in_err-x
returns-in_err-x c =
    let f = YieldsList-turn (fields_yielded {s = c.into_iter-field-iterator.result} _ c.args.text.now (search rules) (search rules) (search rules) (λ x r q k. search (rules, tests))) c.loop-field.yielded _ c.loop-field.yielded_by _ _ c.in-Some.field c.in-Some.is c.next.ensures.steps in
    rw c.from_residual.ensures (no_value_there _ _ _ _ _ c.loop-field.invariant c.in-Some.field.now f.0 f.1 (sym c.in_err-x.was ∙ c.value.ensures))

pub loop-field-preserved : goal.loop-field-preserved
loop-field-preserved c =
    let f = YieldsList-turn (fields_yielded {s = c.into_iter-field-iterator.result} _ c.args.text.now (search rules) (search rules) (search rules) (λ x r q k. search (rules, tests))) c.loop-field.yielded _ c.loop-field.yielded_by _ _ c.in-Some.field c.in-Some.is c.next.ensures.steps in
    rw (length_push c.loop-field.yielded c.in-Some.field)
    (turn _ _ _ _ _ c.loop-field.invariant c.in-Some.field.now f.0 f.1 (sym c.in_ok-x.was ∙ c.value.ensures) c.keep-n.ensures.value c.keep-n.ensures.table_after)

pub returns : goal.returns
returns c =
    let t = YieldsList-end (fields_yielded {s = c.into_iter-field-iterator.result} _ c.args.text.now (search rules) (search rules) (search rules) (λ x r q k. search (rules, tests))) c.loop-field.yielded _ c.loop-field.yielded_by _ _ c.in-None.is c.next.ensures.steps in
    ends _ _ _ _ _ c.loop-field.invariant t.1
