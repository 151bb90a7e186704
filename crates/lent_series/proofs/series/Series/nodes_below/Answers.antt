-- `Series::nodes_below` meets its contract: a test of each number is the test of all.
-- Assumes nothing.
use Rattle.std.specs.Prelude.{IsTrue, EachIndex}
use mathlib.Core.Logic.{◌↔◌}
use Prim.Native.Nat.{◌<◌}
use lib.ListN.{get_or, take}
use borrow.Author.Rules.{rules}
use Rattle.lent_series.proofs.Numbers.{all_told}
use Rattle.lent_series.proofs.series.Series.nodes_below.Goals as goal

pub returns : goal.returns
returns c =
    let nodes = take c.entries.result c.args.self.now.coeffs in
    let each : IsTrue c.all.result ↔ EachIndex nodes (λ k. get_or nodes k 0 < c.args.count) = search rules in
    rw c.entries.ensures at (all_told c.args.count nodes c.all.result each)
