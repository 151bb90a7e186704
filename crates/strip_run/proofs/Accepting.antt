-- One key of those that the machine tests: it is refused, or the test goes on with the places that are then in use.
-- Assumes nothing.
use mathlib.Core.Path.{◌≡◌, refl}
use mathlib.Core.Bool.{Bool, true, false, ◌&&◌}
use mathlib.Core.List.{List, ◌∷◌}
use Prim.Native.Nat.{ℕ, ◌+◌, ◌-◌, ◌≤◌, ◌<◌}
use lib.Dec.{leb}
use borrow.Author.Tests.{le-leb, lt-leb, leb-true}
use Rattle.shape.proofs.Tests.{and_left, and_right}
use Rattle.pool.specs.Nodes.{is_node}
use Rattle.pool.specs.declared.node.Node.{Node}
use Rattle.key_strip.specs.Strip.{most_places}
use Rattle.key_strip.specs.Machine.{taken, accepts}

module _ (d : ℕ) (key : Node) (more : List Node) where
  pub no_key_refused : is_node key ≡ false → accepts d (key ∷ more) ≡ false
  unfolding accepts
  no_key_refused e = rw e

  pub missing_refused : d < taken key → accepts d (key ∷ more) ≡ false
  unfolding accepts
  missing_refused l = go (is_node key)
    where
      go : (a : Bool) → (a && (leb (taken key) d && (leb (d - taken key + 1) most_places && accepts (d - taken key + 1) more))) ≡ false
      go true = rw (lt-leb (taken key) d l)
      go false = refl

  pub full_refused : most_places < d - taken key + 1 → accepts d (key ∷ more) ≡ false
  unfolding accepts
  full_refused l = go (is_node key) (leb (taken key) d)
    where
      go : (a b : Bool) → (a && (b && (leb (d - taken key + 1) most_places && accepts (d - taken key + 1) more))) ≡ false
      go true true = rw (lt-leb (d - taken key + 1) most_places l)
      go true false = refl
      go false b = refl

  pub key_accepted : is_node key ≡ true → taken key ≤ d → d - taken key + 1 ≤ most_places → accepts d (key ∷ more) ≡ accepts (d - taken key + 1) more
  unfolding accepts
  key_accepted is enough room = rw (is, le-leb (taken key) d enough, le-leb (d - taken key + 1) most_places room)

  -- what is known of a key that was accepted
  module _ (h : accepts d (key ∷ more) ≡ true) where
    pub is_a_key : is_node key ≡ true
    unfolding accepts
    is_a_key = and_left (is_node key) _ h

    pub enough_there : taken key ≤ d
    unfolding accepts
    enough_there = leb-true (taken key) d (and_left (leb (taken key) d) _ (and_right (is_node key) _ h))

    pub place_there : d - taken key + 1 ≤ most_places
    unfolding accepts
    place_there = leb-true (d - taken key + 1) most_places (and_left (leb (d - taken key + 1) most_places) _ (and_right (leb (taken key) d) _ (and_right (is_node key) _ h)))

    pub rest_accepted : accepts (d - taken key + 1) more ≡ true
    unfolding accepts
    rest_accepted = and_right (leb (d - taken key + 1) most_places) _ (and_right (leb (taken key) d) _ (and_right (is_node key) _ h))
