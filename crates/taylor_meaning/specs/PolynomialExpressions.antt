-- Two kinds of expressions: plain ones have no quotient and no maximum; polynomial ones are sums, products and powers of literals and variables.
-- Assumes nothing.
use Rattle.std.specs.Prelude.{◌≡◌, [], ◌∷◌, ℕ, ◌≤◌}
use Rattle.pool.specs.declared.node.Node.{Node}
use Rattle.pool.specs.declared.node.Node.TheVariants.{Empty, Variable, Lit, Add, Mul, Div, Exp, Log, Pow, Max}
use Rattle.shape.specs.Shape.{Reach}
use Rattle.meaning.specs.Model.{Algebra, power}
use Rattle.taylor_meaning.specs.Series.{Series, sum}

-- no quotient and no maximum
abbrev pub PlainNode : Node → Type 0
PlainNode Empty = ⊥
PlainNode (Variable v) = Unit {0}
PlainNode (Lit z) = Unit {0}
PlainNode (Add a b) = Unit {0}
PlainNode (Mul a b) = Unit {0}
PlainNode (Div a b) = ⊥
PlainNode (Exp a) = Unit {0}
PlainNode (Log a) = Unit {0}
PlainNode (Pow a e) = Unit {0}
PlainNode (Max a b) = ⊥

-- every node that is reached from the root is such
abbrev pub PlainExpression : (ℕ → Node) → ℕ → Type 0
PlainExpression at root = (i : ℕ) → Reach at (root ∷ []) i → PlainNode (at i)

-- no quotient, exponential, logarithm or maximum
abbrev pub PolynomialNode : Node → Type 0
PolynomialNode Empty = ⊥
PolynomialNode (Variable v) = Unit {0}
PolynomialNode (Lit z) = Unit {0}
PolynomialNode (Add a b) = Unit {0}
PolynomialNode (Mul a b) = Unit {0}
PolynomialNode (Div a b) = ⊥
PolynomialNode (Exp a) = ⊥
PolynomialNode (Log a) = ⊥
PolynomialNode (Pow a e) = Unit {0}
PolynomialNode (Max a b) = ⊥

-- every node that is reached from the root is such
abbrev pub PolynomialExpression : (ℕ → Node) → ℕ → Type 0
PolynomialExpression at root = (i : ℕ) → Reach at (root ∷ []) i → PolynomialNode (at i)

-- c_0 + c_1 × t + .. + c_(n-1) × t^(n-1)
unfoldable pub polynomial_at : (A : Algebra) → Series A → ℕ → A.carrier → A.carrier
polynomial_at A c n t = sum A (λ k. A.times (c k) (power A t k)) n

-- the function y of t is c_0 + .. + c_(n-1) × t^(n-1) for every n from the degree on
pub record IsPolynomial (A : Algebra) (c : Series A) (y : A.carrier → A.carrier) : Type 0 where
  pub degree : ℕ
  pub formula : (n : ℕ) → degree ≤ n → (t : A.carrier) → polynomial_at A c n t ≡ y t
