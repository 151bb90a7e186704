-- `sheet_lines::answer::lines_of` meets its contract: a refusal, or the lines.
-- Assumes nothing.
use Rattle.std.proofs.Common.{◌≡◌, sym, ◌∙◌, true}
use Rattle.pool.specs.Pool.{node_at}
use Rattle.sheet_lines.specs.Prepared.{all_short}
use Rattle.sheet_lines.proofs.Pages.{refused_as, coefficients_found, refusal_found, all_printed, lines_prepared, refusal_prepared}
use Rattle.sheet_lines.proofs.answer.lines_of.Goals as goal

pub returns-in_err-expansion : goal.returns-in_err-expansion
returns-in_err-expansion c =
    let a = c.args in
    rw (refused_as c.from_residual.result c.from_residual.ensures.1)
    (refusal_prepared _ a.var a.order a.point _ _ (refusal_found a.file.now a.var a.point a.order c.expand_file.new.pool c.expand_file.ensures c.in_err-expansion.was))

pub returns : goal.returns
returns c =
    let a = c.args in
    let P = c.expand_file.new.pool in
    let cs = c.nodes_of-nodes.result in
    let short : all_short (node_at P) cs ≡ true = sym (rw (c.tables.ensures.kinds, c.tables.ensures.words) at c.all_short.ensures) ∙ c.if-not-all_short.false in
    lines_prepared a.var a.order a.point c.len.result c.entries_of.result P.kinds P.words c.len.ensures.is c.len.ensures.least c.len.ensures.most c.entries_of.ensures short
    (rw c.nodes_of-nodes.ensures (coefficients_found a.file.now a.var a.point a.order P c.expand_file.ensures c.in_ok-expansion.was ∙ all_printed P _ (rw c.nodes_of-nodes.ensures at short)))
