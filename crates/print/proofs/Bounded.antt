-- Texts at a part: below the bound a part has the text of its own node, and from the bound on there is none.
-- Assumes nothing.
use mathlib.Core.Path.{◌≡◌, sym, ap, ◌∙◌}
use mathlib.Core.List.{List, [], ◌++◌}
use Prim.Native.Nat.{ℕ, ◌+◌, ◌<◌, ◌≤◌}
use native.Mathlib.Omega.{arith}
use borrow.Author.Tests.{lt-ltb, le-ltb}
use lib.Dec.{ltb}
use Rattle.low_bytes.specs.Output.{Wrote}
use Rattle.low_bytes.proofs.Writing.{three_written}
use Rattle.pool.specs.declared.node.Node.{Node}
use Rattle.pool.specs.Fold.{fold_nodes}
use Rattle.walks.specs.Print.{precedence, bracketed, node_text, text_node, text_below, text_of, opening, closing}
use Rattle.pool.proofs.Folds.{visits, below, above}

module _ (at : ℕ → Node) where
  -- node_fmt, the parts being below the node's own number
  abbrev pub node_fmt : ℕ → ℕ → List ℕ
  node_fmt parent a = bracketed (ltb (precedence (at a)) parent) (node_text (text_below at a) (at a))

  pub of_its_own_node : (parent a : ℕ) → fold_nodes (λ around. []) text_node at a parent ≡ node_fmt parent a
  of_its_own_node parent a = ap (λ (text : ℕ → List ℕ). text parent) (visits (λ around. []) text_node at a)

  pub below_the_bound : (k parent a : ℕ) → a < k → text_below at k parent a ≡ node_fmt parent a
  below_the_bound k parent a h = ap (λ (text : ℕ → List ℕ). text parent) (sym (below (λ around. []) (fold_nodes (λ around. []) text_node at) k a h) ∙ visits (λ around. []) text_node at a)

  pub none_from_the_bound : (k parent a : ℕ) → k ≤ a → text_below at k parent a ≡ []
  none_from_the_bound k parent a h = ap (λ (text : ℕ → List ℕ). text parent) (sym (above (λ around. []) (fold_nodes (λ around. []) text_node at) k a h))

  pub in_brackets : (k parent a : ℕ) → a < k → precedence (at a) < parent → text_below at k parent a ≡ opening ++ node_text (text_below at a) (at a) ++ closing
  in_brackets k parent a smaller less = below_the_bound k parent a smaller ∙ rw (lt-ltb (precedence (at a)) parent less)

  pub written_in_brackets : {k parent a from m₁ m₂ to : ℕ} {l l₁ l₂ l' : List ℕ} → a < k → precedence (at a) < parent
      → Wrote from l opening m₁ l₁
      → Wrote m₁ l₁ (node_text (text_below at a) (at a)) m₂ l₂
      → Wrote m₂ l₂ closing to l'
      → Wrote from l (text_below at k parent a) to l'
  written_in_brackets {k} {parent} {a} smaller less u v w = rw (in_brackets k parent a smaller less) (three_written u v w)

  pub without_brackets : (k parent a : ℕ) → a < k → parent ≤ precedence (at a) → text_below at k parent a ≡ node_text (text_below at a) (at a)
  without_brackets k parent a smaller more = below_the_bound k parent a smaller ∙ rw (le-ltb (precedence (at a)) parent more)

-- the root is below the bound that is one more
pub whole_text : (at : ℕ → Node) (root : ℕ) → text_of at root ≡ text_below at (root + 1) 0 root
whole_text at root = of_its_own_node at 0 root ∙ sym (below_the_bound at (root + 1) 0 root (omega arith))
