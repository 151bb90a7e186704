-- The groups of the table of `mul`, at each combination of nodes that the code tells apart.
-- Assumes nothing.
use Rattle.std.specs.Prelude.{Option, Some, None}
use mathlib.Core.Path.{◌≡◌, refl, sym, ap, ◌∙◌}
use mathlib.Core.Logic.{◌≢◌}
use Prim.Native.Nat.{ℕ}
use lib.IntN.{ℤ}
use borrow.Author.Tests.{eq-eqb, ne_eqb}
use Rattle.pool.specs.declared.node.Node.{Node}
use Rattle.pool.specs.declared.node.Node.TheVariants as node
use Rattle.constructors.specs.Terms.{Term, #, add, mul, exp, pow, Mul, Arm, skip, leave, return, ◌or◌, inside, ◌then◌}
use Rattle.constructors.specs.Patterns.{lit_in, mul_in, exp_in, pow_in}
use Rattle.constructors.specs.Tables.{mul_lits, mul_exps, mul_left, mul_pows, mul_last}
use Rattle.mul_rules.specs.Rules.{mul_term, arm_of, two_lits, one_lit, one_exp, two_exps, lits_ahead, lit_ahead, two_pows}
use Rattle.mul_rules.specs.declared.rule.MulRule.{MulRule}

-- an arm that was entered is the whole `match`
entered : {A : Type 0} (x next : Arm A) → inside (inside x or next) ≡ inside x
entered skip next = refl
entered leave next = refl
entered (return x) next = refl

braces : {A : Type 0} (x : Arm A) → inside (inside x) ≡ inside x
braces skip = refl
braces leave = refl
braces (return x) = refl

or_braces : {A : Type 0} (x y : Arm A) → inside (x or inside y) ≡ inside (x or y)
or_braces skip skip = refl
or_braces skip leave = refl
or_braces skip (return y) = refl
or_braces leave y = refl
or_braces (return x) y = refl

-- the end of a `match` is the same with braces round it
after : {A : Type 0} (x : Arm A) (next : A) → (inside x then next) ≡ (x then next)
after skip next = refl
after leave next = refl
after (return x) next = refl

-- a group that decides
pub decides : {r : Option MulRule} {rule : MulRule} (g : Arm Term) (next : Term) → arm_of r ≡ inside g → r ≡ Some rule → mul_term rule ≡ (g then next)
decides g next e f = ap (λ (m : Arm Term). m then next) (sym (ap arm_of f) ∙ e) ∙ after g next

-- a group after which the next statement is reached
pub passes : {r : Option MulRule} {t : Term} (g : Arm Term) (next : Term) → arm_of r ≡ inside g → r ≡ None → t ≡ next → t ≡ (g then next)
passes g next e f h = h ∙ ap (λ (m : Arm Term). m then next) (sym (ap arm_of f) ∙ e) ∙ after g next

module _ (at : ℕ → Node) (lhs rhs : ℕ) where
  -- the table's end
  abbrev pub from_last : Term
  from_last = mul_last at lhs rhs then Mul (# lhs) (# rhs)

  -- ---- literal simplifications
  pub lit_lit : {t : Arm Term} {a b x y : ℤ} → at lhs ≡ node.Lit a → at rhs ≡ node.Lit b → t ≡ inside (two_lits x y lhs rhs) → x ≡ a → y ≡ b → t ≡ inside (mul_lits at lhs rhs)
  unfolding mul_lits two_lits
  lit_lit l r h e f = h ∙ simp (l, r, e, f)

  lit_any : {a : ℤ} (m : Arm (ℕ × ℕ)) → mul_in (at rhs) ≡ m → at lhs ≡ node.Lit a → lit_in (at rhs) ≡ skip → inside (one_lit at a rhs) ≡ inside (mul_lits at lhs rhs)
  unfolding mul_lits one_lit
  lit_any skip e l r = simp (e, r, l)
  lit_any leave e l r = simp (e, r, l)
  lit_any (return p) e l r = simp (e, r, l)

  pub lit_other : {t : Arm Term} {a : ℤ} → at lhs ≡ node.Lit a → t ≡ inside (one_lit at a rhs) → lit_in (at rhs) ≡ skip → t ≡ inside (mul_lits at lhs rhs)
  lit_other l h r = h ∙ lit_any (mul_in (at rhs)) refl l r

  any_lit : {b : ℤ} (m : Arm (ℕ × ℕ)) → mul_in (at lhs) ≡ m → lit_in (at lhs) ≡ skip → exp_in (at lhs) ≡ skip → at rhs ≡ node.Lit b → inside (one_lit at b lhs) ≡ inside (mul_lits at lhs rhs)
  unfolding mul_lits one_lit
  any_lit skip e l x r = simp (e, l, x, r)
  any_lit leave e l x r = simp (e, l, x, r)
  any_lit (return p) e l x r = simp (e, l, x, r)

  pub other_lit : {t : Arm Term} {b : ℤ} → lit_in (at lhs) ≡ skip → exp_in (at lhs) ≡ skip → at rhs ≡ node.Lit b → t ≡ inside (one_lit at b lhs) → t ≡ inside (mul_lits at lhs rhs)
  other_lit l x r h = h ∙ any_lit (mul_in (at lhs)) refl l x r

  pub exp_lit : {t : Arm Term} {a : ℕ} {b : ℤ} → at lhs ≡ node.Exp a → at rhs ≡ node.Lit b → t ≡ inside (one_lit at b lhs) → t ≡ inside (mul_lits at lhs rhs)
  unfolding mul_lits one_lit
  exp_lit l r h = h ∙ simp (l, r)

  pub exp_exp : {a b : ℕ} → at lhs ≡ node.Exp a → at rhs ≡ node.Exp b → return (exp (add (# a) (# b))) ≡ inside (mul_lits at lhs rhs)
  unfolding mul_lits
  exp_exp l r = simp (l, r)

  pub exp_none : {a : ℕ} → at lhs ≡ node.Exp a → lit_in (at rhs) ≡ skip → exp_in (at rhs) ≡ skip → leave ≡ inside (mul_lits at lhs rhs)
  unfolding mul_lits
  exp_none l r x = simp (r, x, l)

  any_none : (m : Arm (ℕ × ℕ)) → mul_in (at lhs) ≡ m → lit_in (at lhs) ≡ skip → exp_in (at lhs) ≡ skip → lit_in (at rhs) ≡ skip → leave ≡ inside (mul_lits at lhs rhs)
  unfolding mul_lits
  any_none skip e l x r = simp (e, l, x, r)
  any_none leave e l x r = simp (e, l, x, r)
  any_none (return p) e l x r = simp (e, l, x, r)

  pub other_none : lit_in (at lhs) ≡ skip → exp_in (at lhs) ≡ skip → lit_in (at rhs) ≡ skip → leave ≡ inside (mul_lits at lhs rhs)
  other_none l x r = any_none (mul_in (at lhs)) refl l x r

  -- ---- exp simplifications
  pub mul_exp : {t : Arm Term} {a1 a2 b : ℕ} → at lhs ≡ node.Mul a1 a2 → at rhs ≡ node.Exp b → t ≡ inside (one_exp at a1 a2 b) → t ≡ inside (mul_exps at lhs rhs)
  unfolding mul_exps one_exp
  mul_exp l r h = h ∙ simp (l, r, entered)

  pub exp_mul : {t : Arm Term} {a1 a2 b : ℕ} → at lhs ≡ node.Exp b → at rhs ≡ node.Mul a1 a2 → t ≡ inside (one_exp at a1 a2 b) → t ≡ inside (mul_exps at lhs rhs)
  unfolding mul_exps one_exp
  exp_mul l r h = h ∙ simp (l, r, entered)

  pub mul_mul : {t : Arm Term} {a1 a2 b1 b2 : ℕ} → at lhs ≡ node.Mul a1 a2 → at rhs ≡ node.Mul b1 b2 → t ≡ inside (two_exps at a1 a2 b1 b2) → t ≡ inside (mul_exps at lhs rhs)
  unfolding mul_exps two_exps
  mul_mul l r h = h ∙ simp (l, r, braces)

  pub mul_none : {a1 a2 : ℕ} → at lhs ≡ node.Mul a1 a2 → mul_in (at rhs) ≡ skip → exp_in (at rhs) ≡ skip → leave ≡ inside (mul_exps at lhs rhs)
  unfolding mul_exps
  mul_none l r x = simp (r, x, l)

  pub exp_no_mul : {b : ℕ} → at lhs ≡ node.Exp b → mul_in (at rhs) ≡ skip → leave ≡ inside (mul_exps at lhs rhs)
  unfolding mul_exps
  exp_no_mul l r = simp (r, l)

  pub no_mul_no_exp : mul_in (at lhs) ≡ skip → exp_in (at lhs) ≡ skip → leave ≡ inside (mul_exps at lhs rhs)
  unfolding mul_exps
  no_mul_no_exp l x = simp (l, x)

  -- ---- moving literals left
  pub products : {t : Arm Term} {a1 a2 b1 b2 : ℕ} → at lhs ≡ node.Mul a1 a2 → at rhs ≡ node.Mul b1 b2 → t ≡ inside (lits_ahead at a1 a2 b1 b2) → t ≡ inside (mul_left at lhs rhs)
  unfolding mul_left lits_ahead
  products l r h = h ∙ simp (l, r, entered)

  pub product_left : {t : Arm Term} {a1 a2 : ℕ} → at lhs ≡ node.Mul a1 a2 → mul_in (at rhs) ≡ skip → t ≡ inside (lit_ahead at a1 a2 rhs) → t ≡ inside (mul_left at lhs rhs)
  unfolding mul_left lit_ahead
  product_left l r h = h ∙ simp (r, l, entered)

  pub product_right : {t : Arm Term} {b1 b2 : ℕ} → mul_in (at lhs) ≡ skip → at rhs ≡ node.Mul b1 b2 → t ≡ inside (lit_ahead at b1 b2 lhs) → t ≡ inside (mul_left at lhs rhs)
  unfolding mul_left lit_ahead
  product_right l r h = h ∙ simp (l, r, braces)

  pub no_product : mul_in (at lhs) ≡ skip → mul_in (at rhs) ≡ skip → leave ≡ inside (mul_left at lhs rhs)
  unfolding mul_left
  no_product l r = simp (l, r)

  -- ---- pow simplifications
  pub no_factors : mul_in (at lhs) ≡ skip → leave ≡ inside (mul_pows at lhs rhs)
  unfolding mul_pows
  no_factors l = simp l

  pub same_factor : {a1 a2 : ℕ} → at lhs ≡ node.Mul a1 a2 → a2 ≡ rhs → return (mul (# a1) (pow (# a2) 2)) ≡ inside (mul_pows at lhs rhs)
  unfolding mul_pows
  same_factor {a2 = a2} l e = simp (l, eq-eqb a2 rhs e)

  pub no_power : {a1 a2 : ℕ} → at lhs ≡ node.Mul a1 a2 → a2 ≢ rhs → pow_in (at rhs) ≡ skip → leave ≡ inside (mul_pows at lhs rhs)
  unfolding mul_pows
  no_power {a2 = a2} l e r = simp (r, l, ne_eqb a2 rhs e)

  pub mul_pow : {t : Arm Term} {a1 a2 b n : ℕ} → at lhs ≡ node.Mul a1 a2 → a2 ≢ rhs → at rhs ≡ node.Pow b n → t ≡ inside (two_pows at a1 a2 b n) → t ≡ inside (mul_pows at lhs rhs)
  unfolding mul_pows two_pows
  mul_pow {a2 = a2} l e r h = h ∙ simp (l, r, ne_eqb a2 rhs e, or_braces)

  -- ---- the last statements
  pub lit_last : {b : ℤ} → at rhs ≡ node.Lit b → Mul (# rhs) (# lhs) ≡ from_last
  unfolding mul_last
  lit_last r = simp r

  pub other_last : lit_in (at rhs) ≡ skip → Mul (# lhs) (# rhs) ≡ from_last
  unfolding mul_last
  other_last r = simp r
