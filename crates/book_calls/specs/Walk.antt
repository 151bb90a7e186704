-- What an accepted expansion of an expression did: one expansion for each node that is reached, worked from those of its parts, by the book where it has a recurrence.
-- Assumes nothing.
use Rattle.std.specs.Prelude.{◌≡◌, Bool, true, false, List, [], ◌∷◌, ℕ, eqb}
use Rattle.pool.specs.declared.node.Node.{Node}
use Rattle.pool.specs.declared.node.Node.TheVariants.{Empty, Variable, Lit, Add, Mul, Div, Exp, Log, Pow, Max}
use Rattle.pool.specs.Pool.{Pool, node_at, done}
use Rattle.constructor_laws.specs.Grown.{Grown}
use Rattle.constructor_laws.specs.Keeps.{Keeps}
use Rattle.shape.specs.Shape.{Reach}
use Rattle.taylor.specs.Work.{bind}
use Rattle.taylor.specs.Expansion.{Expansion, var, add_to, power}
use Rattle.taylor.specs.declared.expansion.Expansion.TheVariants.{Constant}
use Rattle.taylor.specs.Expand.{Point, point_node}
use Rattle.taylor_rules.specs.Kept.{Fits}
use Rattle.book_calls.specs.Follows.{ProductFollows, QuotientFollows, ExpFollows, LogFollows}

-- each may be given where the pool has n nodes
abbrev pub AllFit : ℕ → List Expansion → Type 0
AllFit n [] = Unit {0}
AllFit n (e ∷ more) = Fits n e × AllFit n more

-- an operation on the expansions us that was done at some time after P and before Q, when these were there
pub record Between (P Q : Pool) (us : List Expansion) (Done : Pool → Pool → Type 0) : Type 0 where
  pub start : Pool
  pub finish : Pool
  pub earlier : Grown P start
  pub keeps : Keeps start
  pub there : AllFit start.count us
  pub is : Done start finish
  pub later : Grown finish Q

-- the walk by variable v at the point x to an order, in the pool P, that left the pool Q; node i is expanded to `of i`
module _ (P Q : Pool) (v : ℕ) (x : Point) (order : ℕ) (of : ℕ → Expansion) (i : ℕ) where
  -- the variable sought is expanded at the point; another is a constant
  abbrev pub VariableFollows : Bool → Type 0
  VariableFollows true = Between P Q [] (λ A B. bind (point_node v x A) (λ p. var p order) ≡ done (of i) B)
  VariableFollows false = of i ≡ Constant i

  -- node i, of each kind
  abbrev pub NodeFollows : Node → Type 0
  NodeFollows Empty = ⊥
  NodeFollows (Variable u) = VariableFollows (eqb u v)
  NodeFollows (Lit z) = of i ≡ Constant i
  NodeFollows (Add a b) = Between P Q (of a ∷ of b ∷ []) (λ A B. add_to (of a) (of b) A ≡ done (of i) B)
  NodeFollows (Mul a b) = Between P Q (of a ∷ of b ∷ []) (λ A B. ProductFollows A B (of a) (of b) (of i))
  NodeFollows (Div a b) = Between P Q (of a ∷ of b ∷ []) (λ A B. QuotientFollows A B (of a) (of b) (of i))
  NodeFollows (Exp a) = Between P Q (of a ∷ []) (λ A B. ExpFollows A B (of a) (of i))
  NodeFollows (Log a) = Between P Q (of a ∷ []) (λ A B. LogFollows A B (of a) (of i))
  NodeFollows (Pow a n) = Between P Q (of a ∷ []) (λ A B. power (of a) n A ≡ done (of i) B)
  NodeFollows (Max a b) = ⊥

-- the expansion e of the root
pub record Expanded (P Q : Pool) (v : ℕ) (x : Point) (order root : ℕ) (e : Expansion) : Type 0 where
  pub of : ℕ → Expansion
  pub answer : of root ≡ e
  -- each node that is reached has its one expansion
  pub each : (i : ℕ) → Reach (node_at P) (root ∷ []) i → NodeFollows P Q v x order of i (node_at P i)
