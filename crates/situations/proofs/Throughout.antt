-- The law of all walks over an expression that stands in a pool by the rules: what holds of the walk from a node where it holds of the walks from its parts holds of every walk. No walk comes to a number that has no node.
-- Assumes nothing.
use mathlib.Core.Path.{◌≡◌}
use mathlib.Core.List.{List, [], ◌∷◌}
use Prim.Native.Nat.{ℕ, zero, suc, ◌<◌}
use native.Mathlib.Nat.{not-suc-le-zero}
use native.Mathlib.Omega.{arith}
use native.Mathlib.Decide.{ℕ_discrete}
use Rattle.pool.specs.Nodes.{parts}
use Rattle.pool.specs.Pool.{Pool, node_at}
use Rattle.pool.specs.declared.node.Node.{Node}
use Rattle.shape.specs.Demand.{KeepsRules}
use Rattle.shape.proofs.Lists.{All, here, further}
use Rattle.shape.proofs.TableOfKinds.{Valid}
use Rattle.shape.proofs.Pools.{falls_in, valid_in}

-- the left or only part, and the right one
pub left : {R : ℕ → Type 0} (a : ℕ) (more : List ℕ) → All R (a ∷ more) → R a
left a more h = h a (here a more)

pub right : {R : ℕ → Type 0} (a b : ℕ) → All R (a ∷ b ∷ []) → R b
right a b h = h b (further a (b ∷ []) b (here b []))

-- a walk under a bound on the node's number: R is what is claimed of it, `node` what is done at a node, given the walks from its parts
pub record Walking (P : Pool) {T : Type 0} (R : T → Type 0) (node : (ℕ → T) → ℕ → Node → T) (walk : ℕ → ℕ → T) : Type 0 where
  pub visits : (b : ℕ) → b < P.count → R (node (walk b) b (node_at P b)) → R (walk (suc b) b)
  pub passes : (b i : ℕ) → (i ≡ b → ⊥) → R (walk b i) → R (walk (suc b) i)
  pub at : (down : ℕ → T) (i : ℕ) (n : Node) → Valid n → All (λ a. R (down a)) (parts n) → R (node down i n)

module _ {P : Pool} (k : KeepsRules P) {T : Type 0} {R : T → Type 0} {node : (ℕ → T) → ℕ → Node → T} {walk : ℕ → ℕ → T} (w : Walking P R node walk) where
  below : (b i : ℕ) → i < b → i < P.count → R (walk b i)
  below zero i h l = absurd (not-suc-le-zero h)
  below (suc b) i h l = go (ℕ_discrete i b) (below b)
    where
      go : Dec (i ≡ b) → ((a : ℕ) → a < b → a < P.count → R (walk b a)) → R (walk (suc b) i)
      go (yes e) less =
          let m : b < P.count = omega arith in
          rw e (w.visits b m (w.at (walk b) b (node_at P b) (valid_in P k b m) (λ a f. let g : a < b = falls_in P k b a f in less a g (omega arith))))
      go (no n) less = w.passes b i n (less i (omega arith) l)

  pub throughout : (root : ℕ) → root < P.count → R (walk (suc root) root)
  throughout root l = below (suc root) root (omega arith) l
