-- Where expressions have values: a carrier with the operations, and the laws that the rules of the constructors use. Each law names the rules that need it.
-- The real numbers are a model, with 0 / 0 = 0 and any number for x / 0 and for the logarithm of what is not positive (said here, not shown: proofs/ has the whole numbers, the residues and the dual numbers). Doubles are none: their sum is not associative.
-- No model is asked for more than the rules use. Not for x × (y / x) = y: at x = 0 that leaves no number but 0. Not for log (x × y) = log x + log y: at x = 0 that leaves no logarithm but 0 in a ring. Limits in proofs/ shows both. The rule of `log` takes no literal but 1 out of a product, any other being refused.
-- Assumes nothing.
use Rattle.std.specs.Prelude.{◌≡◌, ℕ, zero, suc, ℤ, pos, ◌+ℤ◌, ◌*ℤ◌}

-- a carrier with the operations of expressions, all of them total
pub record Algebra : Type 1 where
  pub carrier : Type 0
  -- the whole numbers in it
  pub int : ℤ → carrier
  pub plus : carrier → carrier → carrier
  pub times : carrier → carrier → carrier
  pub over : carrier → carrier → carrier
  pub max : carrier → carrier → carrier
  pub exp : carrier → carrier
  pub log : carrier → carrier

module _ (A : Algebra) where
  open A use {carrier, int, plus as ◌⊕◌, times as ◌⊗◌, over as ◌⊘◌, exp, log}

  infixl 20 ◌⊕◌
  infixl 30 ◌⊗◌ ◌⊘◌
  -- the laws that the rules use
  pub record Model : Type 0 where
    -- add: literals are moved to the right, and sums of literals are folded
    pub plus_comm : (x y : carrier) → x ⊕ y ≡ y ⊕ x
    pub plus_assoc : (x y z : carrier) → (x ⊕ y) ⊕ z ≡ x ⊕ (y ⊕ z)
    -- add: (_, Lit 0) => lhs
    pub plus_zero : (x : carrier) → x ⊕ int (pos 0) ≡ x
    -- mul: literals are moved to the left, exponentials and powers are gathered
    pub times_comm : (x y : carrier) → x ⊗ y ≡ y ⊗ x
    pub times_assoc : (x y z : carrier) → (x ⊗ y) ⊗ z ≡ x ⊗ (y ⊗ z)
    -- mul: (_, Lit 1) => lhs; pow: exponent 0 => 1, exponent 1 => base, Lit 1 => 1
    pub times_one : (x : carrier) → x ⊗ int (pos 1) ≡ x
    -- mul: (_, Lit 0) => 0; pow: Lit 0 => 0
    pub times_zero : (x : carrier) → x ⊗ int (pos 0) ≡ int (pos 0)
    -- add: Lit a + Lit b => Lit (a + b)
    pub int_plus : (a b : ℤ) → int (a +ℤ b) ≡ int a ⊕ int b
    -- mul: Lit a × Lit b => Lit (a × b)
    pub int_times : (a b : ℤ) → int (a *ℤ b) ≡ int a ⊗ int b
    -- div: Lit 0 / _ => 0
    pub zero_over : (x : carrier) → int (pos 0) ⊘ x ≡ int (pos 0)
    -- div: _ / Lit 1 => lhs
    pub over_one : (x : carrier) → x ⊘ int (pos 1) ≡ x
    -- exp: Lit 0 => 1
    pub exp_zero : exp (int (pos 0)) ≡ int (pos 1)
    -- mul: Exp a × Exp b => exp (a + b); exp: Add (a, Lit b) => exp b × exp a
    pub exp_plus : (x y : carrier) → exp (x ⊕ y) ≡ exp x ⊗ exp y
    -- log: Lit 1 => 0, and Mul (Lit 1, b) => log b + 0
    pub log_one : log (int (pos 1)) ≡ int (pos 0)

  -- with this law a model is a commutative ring with a map of rings from the whole numbers, int (-1) × x being the negative of x. No rule uses it.
  pub record Distributive : Type 0 where
    pub distributes : (x y z : carrier) → x ⊗ (y ⊕ z) ≡ x ⊗ y ⊕ x ⊗ z

  -- x to the power n
  unfoldable pub power : carrier → ℕ → carrier
  power x zero = int (pos 1)
  power x (suc n) = power x n ⊗ x
