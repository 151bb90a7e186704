-- Long strips of products: a product's strip is as long as its parts' and one byte more, so that the length of a strip with 2^14 variables is had in 14 steps.
-- Assumes nothing.
use mathlib.Core.Path.{◌≡◌, ap, ap₂, ◌∙◌}
use mathlib.Core.Bool.{false}
use mathlib.Core.List.{[], ◌∷◌, ◌++◌}
use Prim.Native.Nat.{ℕ, ◌+◌, ◌<◌, max}
use lib.ListN.{length, length-append}
use Rattle.pool.specs.declared.node.Node.{Node}
use Rattle.pool.specs.declared.node.Node.TheVariants.{Mul}
use Rattle.pool.specs.Reaches.{reaches_at, reaches, is_exp_or_log}
use Rattle.pool.proofs.Folds.{visits, below}
use Rattle.key_strip.specs.Strip.{node_strip, strip_of, node_places, places_of, has_exp_or_log}

module _ (at : ℕ → Node) where
  -- the strip has n bytes and needs p places, and no Exp or Log is reached
  pub record Long (i n p : ℕ) : Type 0 where
    pub bytes : length (strip_of at i) ≡ n
    pub places : places_of at i ≡ p
    pub reaches_no_exp_or_log : has_exp_or_log at i ≡ false

  -- the product of two nodes
  module _ {i a b n m p q : ℕ} (is : at i ≡ Mul a b) (left : a < i) (right : b < i) (x : Long a n p) (y : Long b m q) where
    joined : strip_of at i ≡ strip_of at a ++ (strip_of at b ++ (4 ∷ []))
    joined = visits [] node_strip at i ∙ rw (is, ← below [] (strip_of at) i a left, ← below [] (strip_of at) i b right)

    pub product_long : Long i (n + (m + 1)) (max p (q + 1))
    product_long =
        record {
          bytes =
              ap length joined
              ∙ length-append (strip_of at a) (strip_of at b ++ (4 ∷ []))
              ∙ ap₂ ◌+◌ x.bytes (length-append (strip_of at b) (4 ∷ []) ∙ ap (λ k. k + 1) y.bytes);
          places =
              visits 0 node_places at i
              ∙ rw (is, ← below 0 (places_of at) i a left, ← below 0 (places_of at) i b right, x.places, y.places);
          reaches_no_exp_or_log =
              visits false (reaches_at is_exp_or_log) at i
              ∙ rw (is, ← below false (reaches is_exp_or_log at) i a left, ← below false (reaches is_exp_or_log at) i b right, x.reaches_no_exp_or_log, y.reaches_no_exp_or_log);
        }
