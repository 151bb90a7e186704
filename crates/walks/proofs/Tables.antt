-- A walk over the two tables of a pool: past the limit there is no node, so the limit is bound enough for every root.
-- Assumes nothing.
use mathlib.Core.Path.{◌≡◌, sym, ap, ◌∙◌}
use mathlib.Core.List.{List}
use Prim.Native.Nat.{ℕ, ◌<◌, ◌≤◌}
use native.Mathlib.Omega.{arith}
use native.Mathlib.Decide.{dec_lt}
use borrow.Author.Tests.{le-ltb}
use Rattle.pool.specs.Pool.{limit, node_in}
use Rattle.pool.specs.declared.node.Node.{Node}
use Rattle.pool.specs.declared.node.Node.TheVariants.{Empty}
use Rattle.pool.specs.Fold.{under, fold_nodes}
use Rattle.pool.proofs.Folds.{visits, below, above}

pub none_past_the_limit : (ks ws : List ℕ) (i : ℕ) → limit ≤ i → node_in ks ws i ≡ Empty
unfolding node_in
none_past_the_limit ks ws i h = rw (le-ltb i limit h)

module _ {A : Type 0} (none : A) (node : (ℕ → A) → Node → A) (ks ws : List ℕ) (at_empty : (down : ℕ → A) → node down Empty ≡ none) where
  abbrev walk : ℕ → A
  walk = fold_nodes none node (node_in ks ws)

  pub limit_is_enough : (root : ℕ) → under none walk limit root ≡ walk root
  limit_is_enough root = go (dec_lt root limit)
    where
      go : Dec (root < limit) → under none walk limit root ≡ walk root
      go (yes h) = sym (below none walk limit root h)
      go (no n) =
          let past : limit ≤ root = omega arith in
          sym
          (visits none node (node_in ks ws) root
          ∙ ap (node (under none walk root)) (none_past_the_limit ks ws root past)
          ∙ at_empty (under none walk root)
          ∙ above none walk limit root past)
