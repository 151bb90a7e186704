-- The value of an expression goes by the nodes that are reached from its root: two tables of nodes that agree there give one value.
-- Assumes nothing.
use Rattle.std.specs.Prelude.{Err}
use mathlib.Core.Path.{◌≡◌}
use mathlib.Core.List.{List, Memᴰ}
use Prim.Native.Nat.{ℕ, ◌<◌, ◌≤◌}
use lib.Ieee.{Float}
use Rattle.pool.specs.Nodes.{parts}
use Rattle.pool.specs.declared.node.Node.{Node}
use Rattle.refusals.specs.Refusals.{broken_pool}
use Rattle.walks.specs.Evaluate.{evaluate}
use Rattle.value_walk.proofs.Doubles.{goes_by_parts}
use Rattle.walks.proofs.Reached.{Reached, agrees_on, agrees_on_reached, agrees_up_to}

module _ (values : List Float) where
  module _ (at at' : ℕ → Node) (root : ℕ) where
    -- a set of numbers that has the root and the parts of its own
    pub value_goes_by_a_closed_set :
        (S : ℕ → Type 0) → ((i a : ℕ) → S i → Memᴰ a (parts (at i)) → a < i → S a) → ((i : ℕ) → S i → at i ≡ at' i) → S root → evaluate at values root ≡ evaluate at' values root
    value_goes_by_a_closed_set S closed agree here =
        agrees_on (Err broken_pool) (goes_by_parts values) at at' S closed agree root here

    pub value_goes_by_the_reached : ((i : ℕ) → Reached at root i → at i ≡ at' i) → evaluate at values root ≡ evaluate at' values root
    value_goes_by_the_reached agree =
        agrees_on_reached (Err broken_pool) (goes_by_parts values) at at' root agree

    pub value_goes_by_the_numbers_up_to : ((i : ℕ) → i ≤ root → at i ≡ at' i) → evaluate at values root ≡ evaluate at' values root
    value_goes_by_the_numbers_up_to agree =
        agrees_up_to (Err broken_pool) (goes_by_parts values) at at' root agree
