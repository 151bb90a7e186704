-- `node_read::append_entries` meets its contract: what is appended so far is what the definition appends.
-- Assumes nothing.
use Rattle.std.proofs.Common.{rules}
use Rattle.std.proofs.lemmas.Result.{err_from_is_err_and}
use Rattle.node_read.proofs.OneByOne.{none_appended, one_appended, none_more}
use Rattle.node_read.proofs.append_entries.Goals as goal

pub loop-i-init : goal.loop-i-init
loop-i-init c = search (rules, none_appended)

pub returns-in_err-last : goal.returns-in_err-last
returns-in_err-last c =
    let p = err_from_is_err_and c.from_residual.result c.from_residual.ensures.1 in
    rw (p.1, p.2)
    (none_more c.loop-i.invariant c.loop-i-test.true c.shifted.ensures c.in_err-last.ensures.is)

pub loop-i-preserved : goal.loop-i-preserved
loop-i-preserved c =
    search (rules, one_appended)
