-- `sheet_lines::prepare::prepared` meets its contract: the line is read, then answered.
-- Assumes nothing.
use Rattle.std.proofs.Common.{sym, ap, ◌∙◌}
use Rattle.sheet_text.specs.Sheet.{answer_to}
use Rattle.sheet_page.specs.declared.first.Message.TheVariants.{Usage}
use Rattle.sheet_line.proofs.Theorems.{same_sheet}
use Rattle.sheet_lines.proofs.Pages.{message_prepared, prepared_as}
use Rattle.sheet_lines.proofs.prepare.prepared.Goals as goal

pub returns-in-None : goal.returns-in-None
returns-in-None c =
    message_prepared Usage _ _
    (ap (answer_to c.args.file.now) (sym c.in-None.is ∙ c.parse.ensures) ∙ same_sheet c.args.file.now c.args.line.now)

pub returns-in-Some : goal.returns-in-Some
returns-in-Some c =
    prepared_as (ap (answer_to c.args.file.now) (sym c.in-Some.is ∙ c.parse.ensures) ∙ same_sheet c.args.file.now c.args.line.now)
    c.answer_to.ensures
