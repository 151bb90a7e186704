-- The strip of a node, by its parts as the code has them: the parts' strips in turn, and then the own code.
-- Assumes nothing.
use mathlib.Core.Path.{◌≡◌, sym, ap, ◌∙◌}
use mathlib.Core.List.{List, []}
use Prim.Native.Nat.{ℕ, ◌<◌}
use Rattle.pool.specs.declared.node.Node.{Node}
use Rattle.pool.specs.declared.parts.Parts.{Parts}
use Rattle.pool.specs.Nodes.{parts}
use Rattle.pool.specs.Parts.{parts_in}
use Rattle.pool.proofs.Folds.{visits, below}
use Rattle.key_strip.specs.Strip.{own_key, in_turn, node_strip, strip_of}
use Rattle.strip_write.specs.Written.{strip_below}

-- n is the node that was read, p its parts as they were told, and x what they were found to be
module _ (at : ℕ → Node) {i : ℕ} {n : Node} {p x : Parts} (read : n ≡ at i) (told : parts_in p ≡ parts n) (found : p ≡ x) where
  pub strip_by_parts : strip_of at i ≡ in_turn (strip_below at i) (parts_in x) (own_key n)
  strip_by_parts =
      visits [] node_strip at i
      ∙ sym (ap (node_strip (strip_below at i)) read)
      ∙ sym (ap (λ (ps : List ℕ). in_turn (strip_below at i) ps (own_key n)) told)
      ∙ ap (λ (y : Parts). in_turn (strip_below at i) (parts_in y) (own_key n)) found

  pub part_by_parts : {k : ℕ} → i < k → strip_below at k i ≡ in_turn (strip_below at i) (parts_in x) (own_key n)
  part_by_parts {k} smaller = sym (below [] (strip_of at) k i smaller) ∙ strip_by_parts
