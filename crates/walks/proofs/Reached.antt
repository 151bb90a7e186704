-- A walk under a bound looks at the nodes that it reaches from its root, and at no others.
-- Where two tables of nodes agree on those, so do the walks. Assumes nothing.
use mathlib.Core.Path.{◌≡◌, sym, ap, ◌∙◌}
use mathlib.Core.List.{Memᴰ}
use Prim.Native.Nat.{ℕ, zero, suc, ◌<◌, ◌≤◌}
use native.Mathlib.Omega.{arith}
use Rattle.pool.specs.Nodes.{parts}
use Rattle.pool.specs.declared.node.Node.{Node}
use Rattle.pool.specs.Fold.{under, fold_nodes}
use Rattle.pool.proofs.Folds.{GoesByParts, same_at, visits}

-- the numbers that a walk from the root comes to: the root, and each part with a smaller number
pub data Reached (at : ℕ → Node) (root : ℕ) : ℕ → Type 0 where
  the_root : Reached at root root
  a_part : {i a : ℕ} → Reached at root i → Memᴰ a (parts (at i)) → a < i → Reached at root a

module _ {A : Type 0} (none : A) {node : (ℕ → A) → Node → A} (goes : GoesByParts node) (at at' : ℕ → Node) where
  module _ (S : ℕ → Type 0) (closed : (i a : ℕ) → S i → Memᴰ a (parts (at i)) → a < i → S a) (agree : (i : ℕ) → S i → at i ≡ at' i) where
    agrees_below : (k i : ℕ) → i < k → S i → fold_nodes none node at i ≡ fold_nodes none node at' i
    agrees_below zero i h s = absurd (never i h)
      where
        never : (i : ℕ) → i < 0 → ⊥
        never i h = omega arith
    agrees_below (suc k) i h s =
        visits none node at i
        ∙ goes (under none (fold_nodes none node at) i) (under none (fold_nodes none node at') i) (at i) (λ a m.
        same_at none (fold_nodes none node at) (fold_nodes none node at') i a (λ l. agrees_below k a (omega arith) (closed i a s m l)))
        ∙ ap (node (under none (fold_nodes none node at') i)) (agree i s)
        ∙ sym (visits none node at' i)

  -- a set of numbers that holds the root and the parts of its own
  pub agrees_on : (S : ℕ → Type 0) → ((i a : ℕ) → S i → Memᴰ a (parts (at i)) → a < i → S a) → ((i : ℕ) → S i → at i ≡ at' i) → (root : ℕ) → S root → fold_nodes none node at root ≡ fold_nodes none node at' root
  agrees_on S closed agree root s = agrees_below S closed agree (suc root) root (omega arith) s

  -- the nodes that are reached
  pub agrees_on_reached : (root : ℕ) → ((i : ℕ) → Reached at root i → at i ≡ at' i) → fold_nodes none node at root ≡ fold_nodes none node at' root
  agrees_on_reached root agree = agrees_on (Reached at root) (λ i a r m h. a_part r m h) agree root the_root

  -- the numbers up to the root
  pub agrees_up_to : (root : ℕ) → ((i : ℕ) → i ≤ root → at i ≡ at' i) → fold_nodes none node at root ≡ fold_nodes none node at' root
  agrees_up_to root agree = agrees_on (λ i. i ≤ root) (λ i a s m h. omega arith) agree root (omega arith)
