-- `lent::rules::nodes_keep` meets its contract: an entry that breaks the rules decides.
-- Assumes nothing.
use mathlib.Core.Path.{sym, ◌∙◌}
use Rattle.lent.proofs.Tested.{entry_breaks}
use Rattle.lent.proofs.rules.nodes_keep.Goals as goal

pub returns-then-not-keeps_at : goal.returns-then-not-keeps_at
returns-then-not-keeps_at c =
    sym (entry_breaks c.args.tables.kinds.now c.args.tables.words.now c.args.count c.loop-i.i c.loop-i-test.true (sym c.keeps_at.ensures ∙ c.if-not-keeps_at.true))
