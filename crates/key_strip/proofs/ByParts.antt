-- An induction over the nodes that an expression without Exp and Log reaches: what holds of a node with a code where it holds of the node's parts holds of all.
-- Assumes nothing.
use mathlib.Core.Path.{◌≡◌, refl, sym, ◌∙◌}
use mathlib.Core.Bool.{Bool, true, false, ◌||◌, true≢false}
use mathlib.Core.List.{List, [], ◌∷◌}
use Prim.Native.Nat.{ℕ, zero, suc, ◌<◌}
use native.Mathlib.Nat.{not-suc-le-zero}
use native.Mathlib.Omega.{arith}
use Rattle.pool.specs.Nodes.{parts}
use Rattle.pool.specs.Pool.{Pool, node_at}
use Rattle.pool.specs.Reaches.{some, is_exp_or_log}
use Rattle.pool.specs.declared.node.Node.{Node}
use Rattle.shape.specs.Demand.{KeepsRules}
use Rattle.shape.proofs.Lists.{All, all_none, all_with}
use Rattle.shape.proofs.Pools.{falls_in, valid_in}
use Rattle.shape.proofs.Reached.{reaches_unfolds}
use Rattle.shape.proofs.TableOfKinds.{Valid}
use Rattle.key_strip.specs.Strip.{has_exp_or_log}

neither_first : (a b : Bool) → (a || b) ≡ false → a ≡ false
neither_first true b h = h
neither_first false b h = refl

neither_second : (a b : Bool) → (a || b) ≡ false → b ≡ false
neither_second true b h = absurd (true≢false h)
neither_second false b h = h

none_of : (down : ℕ → Bool) (is : List ℕ) → some down is ≡ false → All (λ a. down a ≡ false) is
none_of down [] h = all_none (λ a. down a ≡ false)
none_of down (a ∷ is) h =
    all_with (λ a. down a ≡ false) a is (neither_first (down a) (some down is) h) (none_of down is (neither_second (down a) (some down is) h))

-- a node that has a code
abbrev pub HasCode : Node → Type 0
HasCode n = Valid n × (is_exp_or_log n ≡ false)

module _ (P : Pool) (keeps : KeepsRules P) (Q : ℕ → Type 0) (at_node : (i : ℕ) → HasCode (node_at P i) → All Q (parts (node_at P i)) → Q i) where
  holds_below : (k i : ℕ) → i < k → i < P.count → has_exp_or_log (node_at P) i ≡ false → Q i
  holds_below zero i l given none = absurd (not-suc-le-zero l)
  holds_below (suc k) i l given none =
      let at = node_at P in
      let found = has_exp_or_log at in
      let here : (is_exp_or_log (at i) || some found (parts (at i))) ≡ false = sym (reaches_unfolds is_exp_or_log at (falls_in P keeps) i) ∙ none in
      at_node i (valid_in P keeps i given, neither_first (is_exp_or_log (at i)) (some found (parts (at i))) here) (λ a m.
      let falls : a < i = falls_in P keeps i a m in
      holds_below k a (omega arith) (omega arith) (none_of found (parts (at i)) (neither_second (is_exp_or_log (at i)) (some found (parts (at i))) here) a m))

  pub by_parts : (root : ℕ) → root < P.count → has_exp_or_log (node_at P) root ≡ false → Q root
  by_parts root = holds_below (suc root) root (omega arith)
