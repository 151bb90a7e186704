-- `Needs::of_node` meets its contract: what the tables have of the parts is counted, so the sums fit, and what they come to is the node's.
-- Assumes nothing.
use mathlib.Core.Path.{refl, ◌∙◌}
use native.Mathlib.Omega.{arith}
use Rattle.strip_write.proofs.Tables.{own_is_short, part_is_counted, leaf_needs, base_needs, both_need}
use Rattle.strip_write.proofs.need.Needs.of_node.Goals as goal

pub overflow_add-base : goal.overflow_add-base
overflow_add-base c =
    omega (
      arith,
      (part_is_counted c.requires.needed_below c.of-base.ensures).1,
      c.own_length-own.ensures,
      own_is_short c.node-node.result,
    )

pub overflow_add-right : goal.overflow_add-right
overflow_add-right c =
    omega (arith, (part_is_counted c.requires.needed_below c.of-right.ensures).0)

pub overflow_add-left : goal.overflow_add-left
overflow_add-left c =
    omega (
      arith,
      (part_is_counted c.requires.needed_below c.of-left.ensures).1,
      (part_is_counted c.requires.needed_below c.of-right.ensures).1,
    )

pub overflow_add-left-in-Two : goal.overflow_add-left-in-Two
overflow_add-left-in-Two c =
    omega (
      arith,
      (part_is_counted c.requires.needed_below c.of-left.ensures).1,
      (part_is_counted c.requires.needed_below c.of-right.ensures).1,
      c.own_length-own.ensures,
      own_is_short c.node-node.result,
    )

pub returns-in-None : goal.returns-in-None
returns-in-None c =
    leaf_needs c.requires.needed_below c.node-node.ensures c.parts.ensures c.own_length-own.ensures
    c.in-None.is refl refl

pub returns-in-One : goal.returns-in-One
returns-in-One c =
    base_needs c.requires.needed_below c.node-node.ensures c.parts.ensures c.own_length-own.ensures
    c.in-One.is c.of-base.ensures refl c.min.ensures

pub returns-in-Two : goal.returns-in-Two
returns-in-Two c =
    both_need c.requires.needed_below c.node-node.ensures c.parts.ensures c.own_length-own.ensures
    c.in-Two.is c.of-left.ensures c.of-right.ensures
    (c.min-in-Two.ensures ∙ rw c.max-most.ensures) c.min-in-Two-2.ensures
