-- What an operation on expansions promises of a pool that keeps the rules of document 01: the pool that it leaves keeps them too, earlier nodes are as they were, and the expansion that it answers may be given to the next operation.
-- Assumes nothing.
use Rattle.std.specs.Prelude.{◌≡◌, true, ◌⊎◌, List, [], ◌∷◌, ℕ, zero, suc, ◌≤◌, length}
use Rattle.pool.specs.Nodes.{all_below}
use Rattle.pool.specs.Pool.{Pool, done, refused}
use Rattle.constructor_laws.specs.Grown.{Grown}
use Rattle.constructor_laws.specs.Keeps.{Keeps}
use Rattle.constructor_laws.specs.Keeps as nodes
use Rattle.taylor.specs.Work.{Result}
use Rattle.taylor.specs.Expansion.{Expansion, order, endless}
use Rattle.taylor.specs.declared.expansion.Expansion.TheVariants.{Constant, Polynomial}
use Rattle.taylor.specs.Coefficients.{terms}

abbrev pub nodes_of : Expansion → List ℕ
nodes_of (Constant c) = c ∷ []
nodes_of (Polynomial cs) = cs

-- what may be given where the pool has n nodes: 2, "a constant, or a list of" node numbers, and 5, "1 to 25" of them
pub record Fits (n : ℕ) (e : Expansion) : Type 0 where
  pub nodes : all_below n (nodes_of e) ≡ true
  pub least : 1 ≤ length (nodes_of e)
  pub most : length (nodes_of e) ≤ terms

-- Q is P with some nodes appended by the rules, and e may be given of it; its order is as said
pub record Kept (P : Pool) (Order : ℕ → Type 0) (e : Expansion) (Q : Pool) : Type 0 where
  pub grown : Grown P Q
  pub keeps : Keeps Q
  pub fits : Fits Q.count e
  pub order : Order (order e)

abbrev pub KeptBy : Pool → (ℕ → Type 0) → Result Expansion → Type 0
KeptBy P Order (done e Q) = Kept P Order e Q
KeptBy P Order (refused r) = Unit {0}

-- the same of work that answers a node
abbrev pub NodeKeptBy : Pool → Result ℕ → Type 0
NodeKeptBy P (done i Q) = nodes.Kept P i Q
NodeKeptBy P (refused r) = Unit {0}

-- pow: at exponent 0 the constant 1, else as long as the base
abbrev pub power_order : Expansion → ℕ → ℕ
power_order base zero = endless
power_order base (suc e) = order base

-- subst: of a constant the constant, of a list as long as the inner expansion
abbrev pub subst_order : Expansion → Expansion → ℕ
subst_order (Constant c) inner = endless
subst_order (Polynomial cs) inner = order inner

-- the expansion of an expression: a constant, or a coefficient for each order up to the one asked
abbrev pub ExpandedOrder : ℕ → ℕ → Type 0
ExpandedOrder order k = (k ≡ endless) ⊎ (k ≡ suc order)
