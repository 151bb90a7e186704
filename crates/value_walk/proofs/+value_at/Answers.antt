-- `value_walk::value_at` meets its contract: each part has a smaller number, so that the walk ends; the loop goes over the parts, and what is then joined is the node's value.
-- Assumes nothing.
use Rattle.std.proofs.Common.{ap, arith}
use Rattle.std.proofs.lemmas.Result.{err_from_is_err_and}
use Rattle.refusals.specs.Numbers.{numbered}
use Rattle.value_walk.proofs.Walking.{already_kept, part_past, part_stopped, part_done, parts_ready, value_kept, value_refused}
use Rattle.value_walk.proofs.+value_at.Goals as goal

pub returns-then-seen-i : goal.returns-then-seen-i
returns-then-seen-i g t c = already_kept _ _ c.requires.i_lt_limit c.requires.keeps c.if-seen-i.true

pub returns-then-i-part : goal.returns-then-i-part
returns-then-i-part g t c =
    let parts = c.counted_parts-parts.ensures in
    part_past _ _ (g.met.V.Values.laws c.args.of.now) c.node-node.ensures c.loop.invariant
    (omega (arith, c.loop-test.true, parts.many)) c.if-i-part.true

pub value_at-requires : goal.value_at-requires
value_at-requires g t c =
    λ κs lives. (
      omega (arith, c.requires.i_lt_limit, c.if-i-part.false),
      (lives.0, (lives.1, (omega (arith, c.requires.i_lt_limit, c.if-i-part.false), c.loop.invariant.keeps))),
    )

pub returns-in_err-value_at : goal.returns-in_err-value_at
returns-in_err-value_at g t c =
    let parts = c.counted_parts-parts.ensures in
    let p = err_from_is_err_and c.from_residual.result c.from_residual.ensures.1 in
    rw (p.1, p.2)
    (part_stopped _ _ (g.met.V.Values.laws c.args.of.now) c.node-node.ensures c.loop.invariant
    (omega (arith, c.loop-test.true, parts.many)) c.if-i-part.false c.value_at.ensures (ap numbered c.in_err-value_at.was))

pub loop-preserved : goal.loop-preserved
loop-preserved g t c =
    let parts = c.counted_parts-parts.ensures in
    part_done _ _ (g.met.V.Values.laws c.args.of.now) c.node-node.ensures c.loop.invariant
    (omega (arith, c.loop-test.true, parts.many)) c.if-i-part.false c.value_at.ensures parts (ap numbered c.in_ok-value_at.was)

pub joined-requires : goal.joined-requires
joined-requires g t c =
    let parts = c.counted_parts-parts.ensures in
    parts_ready _ _ (g.met.V.Values.laws c.args.of.now) c.node-node.ensures c.loop.invariant
    (omega (arith, c.loop-test.false, parts.many)) c.requires.i_lt_limit

pub returns-in_err-x : goal.returns-in_err-x
returns-in_err-x g t c =
    let parts = c.counted_parts-parts.ensures in
    let p = err_from_is_err_and c.from_residual-in_err-x.result c.from_residual-in_err-x.ensures.1 in
    rw (p.1, p.2)
    (value_refused _ _ (g.met.V.Values.laws c.args.of.now) c.node-node.ensures c.loop.invariant
    (omega (arith, c.loop-test.false, parts.many)) c.joined.ensures (ap numbered c.in_err-x.was))

pub returns : goal.returns
returns g t c =
    let parts = c.counted_parts-parts.ensures in
    value_kept _ _ (g.met.V.Values.laws c.args.of.now) c.node-node.ensures c.loop.invariant
    (omega (arith, c.loop-test.false, parts.many)) c.joined.ensures c.requires.i_lt_limit (ap numbered c.in_ok-x.was)
