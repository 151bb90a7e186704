-- One shape, from demand 3: two lists of roots whose reachable nodes pair one to one. A table of nodes is a function from numbers to nodes, as `node_in` gives for a pool; so what else a pool holds does not count.
-- Assumes nothing.
use Rattle.std.specs.Prelude.{◌≡◌, Bool, true, false, ◌||◌, List, [], ◌∷◌, map, ℕ, eqb}
use Rattle.pool.specs.Nodes.{parts}
use Rattle.pool.specs.declared.node.Node.{Node}
use Rattle.pool.specs.declared.node.Node.TheVariants.{Empty, Variable, Lit, Add, Mul, Div, Exp, Log, Pow, Max}

-- a node with each part's number renamed; its kind, literal, variable number and exponent are kept
abbrev pub rename : (ℕ → ℕ) → Node → Node
rename f Empty = Empty
rename f (Variable v) = Variable v
rename f (Lit z) = Lit z
rename f (Add a b) = Add (f a) (f b)
rename f (Mul a b) = Mul (f a) (f b)
rename f (Div a b) = Div (f a) (f b)
rename f (Exp a) = Exp (f a)
rename f (Log a) = Log (f a)
rename f (Pow a n) = Pow (f a) n
rename f (Max a b) = Max (f a) (f b)

-- whether a number stands in a list
abbrev pub has : List ℕ → ℕ → Bool
has [] i = false
has (j ∷ more) i = eqb i j || has more i

-- "the root and each part of a reachable node"
pub data Reach (p : ℕ → Node) (roots : List ℕ) : ℕ → Type 0 where
  root : {i : ℕ} → has roots i ≡ true → Reach p roots i
  part : {i j : ℕ} → Reach p roots i → has (parts (p i)) j ≡ true → Reach p roots j

-- the expressions of two lists of roots, in tables p and q, have one shape
pub record OneShape (p : ℕ → Node) (roots : List ℕ) (q : ℕ → Node) (others : List ℕ) : Type 0 where
  -- "the nodes reachable from one root pair one to one with those reachable from the other"
  pub there : ℕ → ℕ
  pub back : ℕ → ℕ
  pub there_reached : (i : ℕ) → Reach p roots i → Reach q others (there i)
  pub back_reached : (j : ℕ) → Reach q others j → Reach p roots (back j)
  pub back_there : (i : ℕ) → Reach p roots i → back (there i) ≡ i
  pub there_back : (j : ℕ) → Reach q others j → there (back j) ≡ j
  -- "root with root", in order
  pub roots_pair : map there roots ≡ others
  -- "left or only part with its like, right part with right part, and paired nodes agree in kind, literal, variable number and exponent"
  pub agree : (i : ℕ) → Reach p roots i → q (there i) ≡ rename there (p i)
