-- Strips and places unfold: "the expression's left part, right part, then its own code", with no bound, on tables whose parts fall.
-- Assumes nothing.
use mathlib.Core.Path.{◌≡◌}
use mathlib.Core.List.{[]}
use Prim.Native.Nat.{ℕ}
use Rattle.pool.specs.declared.node.Node.{Node}
use Rattle.shape.specs.Walked.{Falls}
use Rattle.shape_values.proofs.Unfolding.{unfolds}
use Rattle.key_strip.specs.Strip.{node_strip, strip_of, node_places, places_of}
use Rattle.key_strip.proofs.SameStrip.{strip_by_shape, places_by_shape}

module _ (at : ℕ → Node) (falls : Falls at) (i : ℕ) where
  pub strip_unfolds : strip_of at i ≡ node_strip (strip_of at) (at i)
  strip_unfolds = unfolds [] at strip_by_shape falls i

  pub places_unfold : places_of at i ≡ node_places (places_of at) (at i)
  places_unfold = unfolds 0 at places_by_shape falls i
