-- `expand::walk::walk_below` meets its contract: a kept expansion is left as it is; else the walks of the parts, whose numbers are smaller, are those of the definition.
-- Assumes nothing.
use native.Mathlib.Omega.{arith}
use mathlib.Core.Path.{◌∙◌, sym}
use Rattle.expand.proofs.Results.{none_there}
use Rattle.expand.proofs.Walks.{one_there, made_of_one, both_there, made_of_both}
use Rattle.expand.proofs.walk.+walk_below.Goals as goal

pub keep_in-requires-in-One-clause-visited : goal.keep_in-requires-in-One-clause-visited
keep_in-requires-in-One-clause-visited t c =
    let empty = none_there c.args.kept.now c.args.i (omega (arith, c.requires.within)) _ (sym c.is_some.ensures ∙ c.if-is_some.false) in
    one_there _ _ _ _ _ _ _ c.if-bound-i.false c.requires.within c.requires.most empty c.node-node.ensures c.in-One.ensures
    _ _ c.walk_below.auto.kept c.in_ok-walk_below-in-One.ensures

pub returns-in_ok-walk_below-in-One : goal.returns-in_ok-walk_below-in-One
returns-in_ok-walk_below-in-One t c =
    let empty = none_there c.args.kept.now c.args.i (omega (arith, c.requires.within)) _ (sym c.is_some.ensures ∙ c.if-is_some.false) in
    made_of_one _ _ _ _ _ _ _ c.if-bound-i.false c.requires.within c.requires.most empty c.node-node.ensures c.in-One.ensures
    _ _ c.walk_below.auto.kept c.in_ok-walk_below-in-One.ensures c.keep_in-in-One.ensures

pub keep_in-requires-in-Two-clause-visited : goal.keep_in-requires-in-Two-clause-visited
keep_in-requires-in-Two-clause-visited t c =
    let empty = none_there c.args.kept.now c.args.i (omega (arith, c.requires.within)) _ (sym c.is_some.ensures ∙ c.if-is_some.false) in
    both_there _ _ _ _ _ _ _ c.if-bound-i.false c.requires.within c.requires.most empty c.node-node.ensures c.in-Two.ensures
    _ _ c.walk_below-in-Two.auto.kept c.in_ok-walk_below-in-Two.ensures
    _ _ (c.walk_below-in-Two-2.auto.kept ∙ c.walk_below-in-Two.auto.kept) c.in_ok-walk_below-in-Two-2.ensures

pub returns-in_ok-walk_below-in-Two-2 : goal.returns-in_ok-walk_below-in-Two-2
returns-in_ok-walk_below-in-Two-2 t c =
    let empty = none_there c.args.kept.now c.args.i (omega (arith, c.requires.within)) _ (sym c.is_some.ensures ∙ c.if-is_some.false) in
    made_of_both _ _ _ _ _ _ _ c.if-bound-i.false c.requires.within c.requires.most empty c.node-node.ensures c.in-Two.ensures
    _ _ c.walk_below-in-Two.auto.kept c.in_ok-walk_below-in-Two.ensures
    _ _ (c.walk_below-in-Two-2.auto.kept ∙ c.walk_below-in-Two.auto.kept) c.in_ok-walk_below-in-Two-2.ensures c.keep_in-in-Two.ensures
