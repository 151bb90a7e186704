-- The table of answers: it says of each part what the definition says, so one node more is one answer more.
-- Assumes nothing.
use mathlib.Core.Path.{◌≡◌, refl, sym, ap, ◌∙◌}
use mathlib.Core.Bool.{Bool, true, false, ◌||◌}
use mathlib.Core.List.{List}
use Prim.Native.Nat.{ℕ, ◌+◌, ◌<◌, ◌≤◌}
use native.Mathlib.Omega.{arith}
use native.Mathlib.Decide.{ℕ_discrete}
use lib.ListN.{length, get_or, set, length-set}
use lib.Seq.{get_or-set_same, get_or-set_other}
use borrow.Author.Tests.{le-ltb}
use Rattle.pool.specs.Pool.{limit, node_in}
use Rattle.pool.specs.Fold.{under}
use Rattle.pool.specs.Reaches.{reaches_at, reaches}
use Rattle.pool.specs.declared.node.Node.{Node}
use Rattle.pool.specs.declared.node.Node.TheVariants.{Empty}
use Rattle.pool.proofs.Folds.{visits, same_under}
use Rattle.reached.specs.Kept.{kept_below, FoundBelow}

module _ (test : Node → Bool) where
  pub none_found : (at : ℕ → Node) (found : List Bool) → length found ≡ limit → FoundBelow test at 0 found
  none_found at found long = record { long = long; answer = λ j h. absurd (none j h) }
    where
      none : (j : ℕ) → j < 0 → ⊥
      none j h = omega arith

  module _ {at : ℕ → Node} {i : ℕ} {found : List Bool} (f : FoundBelow test at i found) where
    -- `kept_below` is `under` of what the table has
    kept_is : kept_below found i ≡ under false (reaches test at) i
    unfolding under
    kept_is = same_under false (λ a. get_or found a false) (reaches test at) i f.answer

    answer_is : reaches_at test (kept_below found i) (at i) ≡ reaches test at i
    answer_is = ap (λ (down : ℕ → Bool). reaches_at test down (at i)) kept_is ∙ sym (visits false (reaches_at test) at i)

    pub one_more_found : (r : Bool) {n : Node} → i < limit → n ≡ at i → r ≡ reaches_at test (kept_below found i) n → FoundBelow test at (i + 1) (set found i r)
    one_more_found r small node e =
        record {
          long = length-set found i r ∙ f.long;
          answer = λ j h. go j h (ℕ_discrete j i);
        }
      where
        go : (j : ℕ) → j < i + 1 → Dec (j ≡ i) → get_or (set found i r) j false ≡ reaches test at j
        go j h (yes s) = rw s (get_or-set_same found i r false (omega (arith, f.long)) ∙ e ∙ ap (reaches_at test (kept_below found i)) node ∙ answer_is)
        go j h (no n) = get_or-set_other found i j r false n ∙ f.answer j (omega arith)

  -- past the tables there is no node
  pub no_node : (ks ws : List ℕ) (root : ℕ) → limit ≤ root → reaches test (node_in ks ws) root ≡ test Empty
  unfolding node_in
  no_node ks ws root h = visits false (reaches_at test) (node_in ks ws) root ∙ rw (le-ltb root limit h) (or_nothing (test Empty))
    where
      or_nothing : (t : Bool) → t || false ≡ t
      or_nothing true = refl
      or_nothing false = refl
