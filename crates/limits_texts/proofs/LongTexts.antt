-- Long texts of products: a product's text is as long as its parts' and the sign between them, so that the length of a text with 2^15 letters is had in 15 steps.
-- Assumes nothing.
use mathlib.Core.Path.{◌≡◌, ap, ap₂, ◌∙◌}
use mathlib.Core.Bool.{Bool, false}
use mathlib.Core.List.{List, [], ◌++◌}
use Prim.Native.Nat.{ℕ, ◌+◌, ◌<◌, ◌≤◌}
use native.Mathlib.Omega.{arith}
use lib.ListN.{length, length-append}
use borrow.Author.Tests.{le-ltb}
use Rattle.pool.specs.declared.node.Node.{Node}
use Rattle.pool.specs.declared.node.Node.TheVariants.{Mul}
use Rattle.pool.specs.Fold.{fold_nodes}
use Rattle.pool.specs.Reaches.{reaches_at, reaches, is_max}
use Rattle.pool.proofs.Folds.{visits, below}
use Rattle.walks.specs.Print.{precedence, node_text, text_node, times, has_max}

module _ (at : ℕ → Node) where
  -- a node's text under the precedence around it
  abbrev pub text_under : ℕ → ℕ → List ℕ
  text_under i around = fold_nodes (λ around. []) text_node at i around

  -- under a sum or a product the text has n bytes, and no Max is reached
  pub record Long (i n : ℕ) : Type 0 where
    pub bytes : (around : ℕ) → around ≤ 1 → length (text_under i around) ≡ n
    pub no_max : has_max at i ≡ false

  -- a node without parts
  module _ {i : ℕ} {x : Node} (is : at i ≡ x) (own : List ℕ) (precedes : precedence x ≡ 10) (goes : (down : ℕ → ℕ → List ℕ) → node_text down x ≡ own) (other : (down : ℕ → Bool) → reaches_at is_max down x ≡ false) where
    pub leaf_long : Long i (length own)
    leaf_long =
        record {
          bytes = λ around h.
              ap (λ (f : ℕ → List ℕ). length (f around)) (visits (λ around. []) text_node at i)
              ∙ rw (is, precedes, le-ltb 10 around (omega arith), goes _);
          no_max = visits false (reaches_at is_max) at i ∙ rw is (other _);
        }

  -- the product of two nodes
  module _ {i a b n m : ℕ} (is : at i ≡ Mul a b) (left : a < i) (right : b < i) (x : Long a n) (y : Long b m) where
    none : ℕ → List ℕ
    none around = []

    joined : (around : ℕ) → around ≤ 1 → text_under i around ≡ text_under a 1 ++ times ++ text_under b 1
    unfolding none
    joined around h =
        ap (λ (f : ℕ → List ℕ). f around) (visits none text_node at i)
        ∙ rw (is, le-ltb 1 around h, ← below none (fold_nodes none text_node at) i a left, ← below none (fold_nodes none text_node at) i b right)

    pub product_long : Long i (n + 1 + m)
    product_long =
        record {
          bytes = λ around h.
              ap length (joined around h)
              ∙ length-append (text_under a 1 ++ times) (text_under b 1)
              ∙ ap₂ ◌+◌ (length-append (text_under a 1) times ∙ ap (λ k. k + 1) (x.bytes 1 (omega arith))) (y.bytes 1 (omega arith));
          no_max =
              visits false (reaches_at is_max) at i
              ∙ rw (is, ← below false (reaches is_max at) i a left, ← below false (reaches is_max at) i b right, x.no_max, y.no_max);
        }
