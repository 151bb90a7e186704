-- C-20's laws of the strip of an expression in a pool that keeps the rules: it is a tree's, it is accepted where its places are there, and it "gives the bits of the double evaluation".
-- Assumes nothing.
use mathlib.Core.Path.{◌≡◌, refl, sym, subst, subst₂}
use mathlib.Core.Bool.{true, false, true≢false}
use mathlib.Core.List.{List, [], ◌∷◌, ◌++◌}
use Prim.Native.Nat.{ℕ, ◌+◌, ◌<◌, max}
use native.Mathlib.Omega.{arith}
use lib.Dec.{leb}
use lib.Ieee.{Float}
use Rattle.pool.specs.Fold.{under}
use Rattle.pool.specs.Nodes.{parts}
use Rattle.pool.specs.Pool.{Pool, node_at}
use Rattle.pool.specs.declared.node.Node.{Node}
use Rattle.pool.specs.declared.node.Node.TheVariants.{Empty, Variable, Lit, Add, Mul, Div, Exp, Log, Pow, Max}
use Rattle.pool.proofs.Folds.{visits, below}
use Rattle.walks.specs.Evaluate.{evaluate}
use Rattle.shape.specs.Demand.{KeepsRules}
use Rattle.shape.proofs.Lists.{All, here, further}
use Rattle.shape.proofs.Pools.{falls_in}
use Rattle.shape_values.proofs.Unfolding.{value_unfolds}
use Rattle.key_strip.specs.Strip.{node_strip, strip_of, node_places, places_of, most_places, has_exp_or_log, combines}
use Rattle.key_strip.specs.Machine.{is_strip, run_strip}
use Rattle.key_strip.specs.Trees.{StripOfTree, variable, literal, combined, raised}
use Rattle.key_strip.proofs.ByParts.{HasCode, by_parts}
use Rattle.key_strip.proofs.Tested.{tree_is_tested}
use Rattle.key_strip.proofs.Running.{Runs, node_runs, run_ends}

-- a node whose parts' strips are trees'
module _ (strip : ℕ → List ℕ) (places : ℕ → ℕ) where
  two_strips : (code a b : ℕ) → combines code ≡ true → All (λ i. StripOfTree (places i) (strip i)) (a ∷ b ∷ [])
      → StripOfTree (max (places a) (places b + 1)) (strip a ++ (strip b ++ (code ∷ [])))
  two_strips code a b is part =
      combined code (places a) (places b) (strip a) (strip b) is (part a (here a (b ∷ []))) (part b (further a (b ∷ []) b (here b [])))

  node_strip_of_tree : (n : Node) → HasCode n → All (λ i. StripOfTree (places i) (strip i)) (parts n) → StripOfTree (node_places places n) (node_strip strip n)
  node_strip_of_tree Empty c part = absurd c.0
  node_strip_of_tree (Variable v) c part = variable v c.0
  node_strip_of_tree (Lit z) c part = literal z c.0
  node_strip_of_tree (Add a b) c part = two_strips 3 a b refl part
  node_strip_of_tree (Mul a b) c part = two_strips 4 a b refl part
  node_strip_of_tree (Div a b) c part = two_strips 5 a b refl part
  node_strip_of_tree (Exp a) c part = absurd (true≢false c.1)
  node_strip_of_tree (Log a) c part = absurd (true≢false c.1)
  node_strip_of_tree (Pow a e) c part = raised e (places a) (strip a) c.0.2 (omega arith) (part a (here a []))
  node_strip_of_tree (Max a b) c part = two_strips 9 a b refl part

module _ (P : Pool) (keeps : KeepsRules P) (root : ℕ) (given : root < P.count) (none : has_exp_or_log (node_at P) root ≡ false) where
  -- what is written for an expression is the strip of a tree that needs its places
  pub strip_is_a_trees : StripOfTree (places_of (node_at P) root) (strip_of (node_at P) root)
  strip_is_a_trees =
      let at = node_at P in
      by_parts P keeps (λ i. StripOfTree (places_of at i) (strip_of at i)) (λ i c part.
      subst₂ StripOfTree (sym (visits 0 node_places at i)) (sym (visits [] node_strip at i))
      (node_strip_of_tree (under [] (strip_of at) i) (under 0 (places_of at) i) (at i) c (λ a m.
      let falls : a < i = falls_in P keeps i a m in
      subst₂ StripOfTree (below 0 (places_of at) i a falls) (below [] (strip_of at) i a falls) (part a m))))
      root given none

  -- the machine refuses the strip exactly where 27 is given in its place
  pub strip_is_tested : is_strip (strip_of (node_at P) root) ≡ leb (places_of (node_at P) root) most_places
  strip_is_tested = tree_is_tested strip_is_a_trees

  -- for every table of values: the double, or the refusal, of the evaluation
  pub strip_runs : (values : List Float) → run_strip values (strip_of (node_at P) root) ≡ evaluate (node_at P) values root
  strip_runs values =
      let at = node_at P in
      run_ends values
      (by_parts P keeps (λ i. Runs values (evaluate at values i) (strip_of at i)) (λ i c part.
      subst₂ (Runs values) (sym (value_unfolds at (falls_in P keeps) i values)) (sym (visits [] node_strip at i))
      (node_runs values (under [] (strip_of at) i) (evaluate at values) (at i) c (λ a m.
      subst (Runs values (evaluate at values a)) (below [] (strip_of at) i a (falls_in P keeps i a m)) (part a m))))
      root given none)
