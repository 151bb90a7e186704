-- What a `_` arm over a node tells: the patterns of the arms before it do not match.
-- Assumes nothing.
use mathlib.Core.Path.{◌≡◌, refl, ap, ◌∙◌, sym}
use Prim.Native.Nat.{ℕ}
use lib.IntN.{ℤ}
use Rattle.pool.specs.declared.node.Node.{Node}
use Rattle.pool.specs.declared.node.Node.TheVariants.{Empty, Variable, Lit, Add, Mul, Div, Exp, Log, Pow, Max}
use Rattle.constructors.specs.Terms.{skip}
use Rattle.constructors.specs.Patterns.{lit_in, add_in, mul_in, exp_in, pow_in}

no_lit : (n : Node) → ((z : ℤ) → n ≡ Lit z → ⊥) → lit_in n ≡ skip
no_lit Empty h = refl
no_lit (Variable v) h = refl
no_lit (Lit z) h = absurd (h z refl)
no_lit (Add a b) h = refl
no_lit (Mul a b) h = refl
no_lit (Div a b) h = refl
no_lit (Exp a) h = refl
no_lit (Log a) h = refl
no_lit (Pow a n) h = refl
no_lit (Max a b) h = refl

no_add : (n : Node) → ((a b : ℕ) → n ≡ Add a b → ⊥) → add_in n ≡ skip
no_add Empty h = refl
no_add (Variable v) h = refl
no_add (Lit z) h = refl
no_add (Add a b) h = absurd (h a b refl)
no_add (Mul a b) h = refl
no_add (Div a b) h = refl
no_add (Exp a) h = refl
no_add (Log a) h = refl
no_add (Pow a n) h = refl
no_add (Max a b) h = refl

no_mul : (n : Node) → ((a b : ℕ) → n ≡ Mul a b → ⊥) → mul_in n ≡ skip
no_mul Empty h = refl
no_mul (Variable v) h = refl
no_mul (Lit z) h = refl
no_mul (Add a b) h = refl
no_mul (Mul a b) h = absurd (h a b refl)
no_mul (Div a b) h = refl
no_mul (Exp a) h = refl
no_mul (Log a) h = refl
no_mul (Pow a n) h = refl
no_mul (Max a b) h = refl

no_exp : (n : Node) → ((a : ℕ) → n ≡ Exp a → ⊥) → exp_in n ≡ skip
no_exp Empty h = refl
no_exp (Variable v) h = refl
no_exp (Lit z) h = refl
no_exp (Add a b) h = refl
no_exp (Mul a b) h = refl
no_exp (Div a b) h = refl
no_exp (Exp a) h = absurd (h a refl)
no_exp (Log a) h = refl
no_exp (Pow a n) h = refl
no_exp (Max a b) h = refl

no_pow : (n : Node) → ((a e : ℕ) → n ≡ Pow a e → ⊥) → pow_in n ≡ skip
no_pow Empty h = refl
no_pow (Variable v) h = refl
no_pow (Lit z) h = refl
no_pow (Add a b) h = refl
no_pow (Mul a b) h = refl
no_pow (Div a b) h = refl
no_pow (Exp a) h = refl
no_pow (Log a) h = refl
no_pow (Pow a e) h = absurd (h a e refl)
no_pow (Max a b) h = refl

-- n is the node at a place, and x what the code read there
module _ (n : Node) {x : Node} (read : x ≡ n) where
  pub lit_missed : ((z : ℤ) → x ≡ Lit z → ⊥) → lit_in n ≡ skip
  lit_missed h = ap lit_in (sym read) ∙ no_lit x h

  pub add_missed : ((a b : ℕ) → x ≡ Add a b → ⊥) → add_in n ≡ skip
  add_missed h = ap add_in (sym read) ∙ no_add x h

  pub mul_missed : ((a b : ℕ) → x ≡ Mul a b → ⊥) → mul_in n ≡ skip
  mul_missed h = ap mul_in (sym read) ∙ no_mul x h

  pub exp_missed : ((a : ℕ) → x ≡ Exp a → ⊥) → exp_in n ≡ skip
  exp_missed h = ap exp_in (sym read) ∙ no_exp x h

  pub pow_missed : ((a e : ℕ) → x ≡ Pow a e → ⊥) → pow_in n ≡ skip
  pow_missed h = ap pow_in (sym read) ∙ no_pow x h
