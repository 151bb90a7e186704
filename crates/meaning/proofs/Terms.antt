-- The value of a rule's right side, and the two ways of writing arms that need more than that the arm returns: a guard that is known to hold, and a pattern with a weaker promise.
-- Assumes nothing.
use mathlib.Core.Path.{◌≡◌, refl, ap}
use mathlib.Core.Bool.{Bool, true, false}
use Prim.Native.Nat.{ℕ, suc}
use native.Mathlib.Omega.{arith}
use lib.IntN.{ℤ, pos, negsuc}
use borrow.Author.Tests.{eqb-true}
use Rattle.literal.specs.Literal.{is_zero, is_one}
use Rattle.pool.specs.declared.node.Node.{Node}
use Rattle.pool.specs.declared.node.Node.TheVariants as node
use Rattle.constructors.specs.Terms as terms
use Rattle.constructors.specs.Terms.{Term, #, lit, lit_exp, lit_log, add, mul, exp, log, pow, Add, Mul, Div, Max, Exp, Log, Pow, Arm}
use Rattle.constructors.specs.Patterns.{lit_in, add_in, mul_in, exp_in, pow_in}
use Rattle.constructor_laws.proofs.Arms.{Gives, skips, leaves, return}
use Rattle.meaning.specs.Model.{Algebra, power}
use Rattle.meaning.specs.Value.{Values, value_node}

-- ---- tests of literals

pub zero_is : (a : ℤ) → is_zero a ≡ true → a ≡ pos 0
zero_is (pos n) e = ap pos (eqb-true n 0 e)
zero_is (negsuc n) e = absurd (never n (eqb-true (suc n) 0 e))
  where
    never : (n : ℕ) → suc n ≡ 0 → ⊥
    never n e = omega arith

false_not_true : {A : Type 0} → false ≡ true → A
false_not_true e = let z : ◌≡◌ {A = ℕ} 0 1 = cc in absurd (never z)
  where
    never : ◌≡◌ {A = ℕ} 0 1 → ⊥
    never z = omega arith

pub one_is : (a : ℤ) → is_one a ≡ true → a ≡ pos 1
one_is (pos n) e = ap pos (eqb-true n 1 e)
one_is (negsuc n) e = false_not_true e

-- ---- terms

-- a term that is not refused: `exp` of no literal but 0, `log` of none but 1
abbrev pub Runs : Term → Type 0
Runs (# a) = Unit {0}
Runs (lit z) = Unit {0}
Runs (lit_exp z) = is_zero z ≡ true
Runs (lit_log z) = is_one z ≡ true
Runs (add s t) = Runs s × Runs t
Runs (mul s t) = Runs s × Runs t
Runs (exp t) = Runs t
Runs (log t) = Runs t
Runs (pow t e) = Runs t
Runs (Add s t) = Runs s × Runs t
Runs (Mul s t) = Runs s × Runs t
Runs (Div s t) = Runs s × Runs t
Runs (Max s t) = Runs s × Runs t
Runs (Exp t) = Runs t
Runs (Log t) = Runs t
Runs (Pow t e) = Runs t

module _ (A : Algebra) (at : ℕ → A.carrier) where
  -- the value of a term from the values of the nodes in it
  abbrev pub term_value : Term → A.carrier
  term_value (# a) = at a
  term_value (lit z) = A.int z
  term_value (lit_exp z) = A.exp (A.int z)
  term_value (lit_log z) = A.log (A.int z)
  term_value (add s t) = A.plus (term_value s) (term_value t)
  term_value (mul s t) = A.times (term_value s) (term_value t)
  term_value (exp t) = A.exp (term_value t)
  term_value (log t) = A.log (term_value t)
  term_value (pow t e) = power A (term_value t) e
  term_value (Add s t) = A.plus (term_value s) (term_value t)
  term_value (Mul s t) = A.times (term_value s) (term_value t)
  term_value (Div s t) = A.over (term_value s) (term_value t)
  term_value (Max s t) = A.max (term_value s) (term_value t)
  term_value (Exp t) = A.exp (term_value t)
  term_value (Log t) = A.log (term_value t)
  term_value (Pow t e) = power A (term_value t) e

  -- if the term is not refused, its value is x
  pub record Right (x : A.carrier) (t : Term) : Type 0 where
    pub same : Runs t → term_value t ≡ x

-- ---- arms

-- a guard that holds
pub when : {A : Type 0} {H : A → Type 0} (test : Bool) {m : Arm A} → (test ≡ true → Gives H m) → Gives H (terms.◌>>◌ test m)
when true g = g refl
when false g = skips

pub weaker : {A : Type 0} {H K : A → Type 0} {m : Arm A} → ((x : A) → H x → K x) → Gives H m → Gives K m
weaker f skips = skips
weaker f leaves = leaves
weaker f (return {x} h) = return (f x h)

-- ---- what the patterns find, as values

module _ (A : Algebra) (env : Values A) (at : ℕ → A.carrier) where
  pub lit_found : (x : Node) → Gives (λ z. value_node A env at x ≡ A.int z) (lit_in x)
  unfolding value_node
  lit_found node.Empty = skips
  lit_found (node.Variable v) = skips
  lit_found (node.Lit z) = return refl
  lit_found (node.Add a b) = skips
  lit_found (node.Mul a b) = skips
  lit_found (node.Div a b) = skips
  lit_found (node.Exp a) = skips
  lit_found (node.Log a) = skips
  lit_found (node.Pow a e) = skips
  lit_found (node.Max a b) = skips

  pub add_found : (x : Node) → Gives (λ p. value_node A env at x ≡ A.plus (at p.0) (at p.1)) (add_in x)
  unfolding value_node
  add_found node.Empty = skips
  add_found (node.Variable v) = skips
  add_found (node.Lit z) = skips
  add_found (node.Add a b) = return refl
  add_found (node.Mul a b) = skips
  add_found (node.Div a b) = skips
  add_found (node.Exp a) = skips
  add_found (node.Log a) = skips
  add_found (node.Pow a e) = skips
  add_found (node.Max a b) = skips

  pub mul_found : (x : Node) → Gives (λ p. value_node A env at x ≡ A.times (at p.0) (at p.1)) (mul_in x)
  unfolding value_node
  mul_found node.Empty = skips
  mul_found (node.Variable v) = skips
  mul_found (node.Lit z) = skips
  mul_found (node.Add a b) = skips
  mul_found (node.Mul a b) = return refl
  mul_found (node.Div a b) = skips
  mul_found (node.Exp a) = skips
  mul_found (node.Log a) = skips
  mul_found (node.Pow a e) = skips
  mul_found (node.Max a b) = skips

  pub exp_found : (x : Node) → Gives (λ a. value_node A env at x ≡ A.exp (at a)) (exp_in x)
  unfolding value_node
  exp_found node.Empty = skips
  exp_found (node.Variable v) = skips
  exp_found (node.Lit z) = skips
  exp_found (node.Add a b) = skips
  exp_found (node.Mul a b) = skips
  exp_found (node.Div a b) = skips
  exp_found (node.Exp a) = return refl
  exp_found (node.Log a) = skips
  exp_found (node.Pow a e) = skips
  exp_found (node.Max a b) = skips

  pub pow_found : (x : Node) → Gives (λ p. value_node A env at x ≡ power A (at p.0) p.1) (pow_in x)
  unfolding value_node
  pow_found node.Empty = skips
  pow_found (node.Variable v) = skips
  pow_found (node.Lit z) = skips
  pow_found (node.Add a b) = skips
  pow_found (node.Mul a b) = skips
  pow_found (node.Div a b) = skips
  pow_found (node.Exp a) = skips
  pow_found (node.Log a) = skips
  pow_found (node.Pow a e) = return refl
  pow_found (node.Max a b) = skips
