-- `writer::strip_below` meets its contract: the parts' strips and the own code stand one after the other, and each has room. The bound falls to the node's own number.
-- Assumes nothing.
use mathlib.Core.Path.{refl, ap}
use native.Mathlib.Omega.{arith}
use lib.ListN.{length, length-append}
use Rattle.pool.specs.Tables.{nodes}
use Rattle.pool.specs.declared.parts.Parts.TheVariants.{None, One, Two}
use Rattle.key_strip.specs.Strip.{own_key}
use Rattle.strip_write.specs.Written.{strip_below, WrittenFrom}
use Rattle.strip_write.proofs.Writing.{room_after, both_have_room, both_written, nothing_written, parts_strip, strip_is, parts_written}
use Rattle.strip_write.proofs.writer.+strip_below.Goals as goal
use Rattle.strip_write.proofs.writer.+strip_below.Goals.{in-None, in-One, in-Two}

pub returns-then-bound-i : goal.returns-then-bound-i
returns-then-bound-i t c =
    nothing_written (nodes c.args.tables) c.args.at c.args.out.now c.if-bound-i.true

pub strip_below-own-requires : goal.strip_below-own-requires
strip_below-own-requires t c =
    let node = nodes c.args.tables in
    let joins = strip_is node c.parts.result c.if-bound-i.false c.node-node.ensures c.parts.ensures in
    let room = both_have_room _ (own_key c.node-node.result) c.args.at c.args.out.now joins c.requires in
    let base = ap (λ p. length (parts_strip (strip_below node c.args.of) p)) c.in-One.is in
    (omega (arith, c.if-bound-i.false), omega (arith, room, base))

pub strip_below-past_left-requires : goal.strip_below-past_left-requires
strip_below-past_left-requires t c =
    let node = nodes c.args.tables in
    let down = strip_below node c.args.of in
    let joins = strip_is node c.parts.result c.if-bound-i.false c.node-node.ensures c.parts.ensures in
    let room = both_have_room _ (own_key c.node-node.result) c.args.at c.args.out.now joins c.requires in
    let both = ap (λ p. length (parts_strip down p)) c.in-Two.is in
    (omega (arith, c.if-bound-i.false), omega (arith, room, both, length-append (down c.in-Two.a) (down c.in-Two.b)))

pub strip_below-own-requires-in-Two : goal.strip_below-own-requires-in-Two
strip_below-own-requires-in-Two t c =
    let node = nodes c.args.tables in
    let down = strip_below node c.args.of in
    let joins = strip_is node c.parts.result c.if-bound-i.false c.node-node.ensures c.parts.ensures in
    let room = both_have_room _ (own_key c.node-node.result) c.args.at c.args.out.now joins c.requires in
    let both = ap (λ p. length (parts_strip down p)) c.in-Two.is in (
      omega (arith, c.if-bound-i.false),
      room_after _ c.strip_below-past_left.ensures (omega (arith, room, both, length-append (down c.in-Two.a) (down c.in-Two.b))),
    )

pub put_own-requires : goal.put_own-requires
put_own-requires t c =
    let node = nodes c.args.tables in
    let down = strip_below node c.args.of in
    let joins = strip_is node c.parts.result c.if-bound-i.false c.node-node.ensures c.parts.ensures in
    let room = both_have_room _ (own_key c.node-node.result) c.args.at c.args.out.now joins c.requires in
    let written : WrittenFrom c.args.at c.args.out.now (parts_strip down c.parts.result) c.match-parts.own c.match-parts.out =
    elim c.match-parts.branch [
      | in-None w ↦ parts_written down {x = None} w.in-None.is w.own-is w.out-is record { end = omega arith; in_place = refl }
      | in-One w ↦ parts_written down {x = One w.in-One.a} w.in-One.is w.own-is w.out-is w.strip_below-own.ensures
      | in-Two w ↦ parts_written down {x = Two w.in-Two.a w.in-Two.b} w.in-Two.is w.own-is w.out-is (both_written refl w.strip_below-past_left.ensures w.strip_below-own-in-Two.ensures)
    ] in
    room_after _ written room

pub returns : goal.returns
returns t c =
    let node = nodes c.args.tables in
    let down = strip_below node c.args.of in
    let joins = strip_is node c.parts.result c.if-bound-i.false c.node-node.ensures c.parts.ensures in
    let written : WrittenFrom c.args.at c.args.out.now (parts_strip down c.parts.result) c.match-parts.own c.match-parts.out =
    elim c.match-parts.branch [
      | in-None w ↦ parts_written down {x = None} w.in-None.is w.own-is w.out-is record { end = omega arith; in_place = refl }
      | in-One w ↦ parts_written down {x = One w.in-One.a} w.in-One.is w.own-is w.out-is w.strip_below-own.ensures
      | in-Two w ↦ parts_written down {x = Two w.in-Two.a w.in-Two.b} w.in-Two.is w.own-is w.out-is (both_written refl w.strip_below-past_left.ensures w.strip_below-own-in-Two.ensures)
    ] in
    both_written joins written c.put_own.ensures
