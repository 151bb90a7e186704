-- Every constructor refuses by 11 to 14 and 18 only, whatever the pool, the arguments and the depth: a term does where the calls in it do, and the rest is induction on the depth.
-- Assumes nothing.
use mathlib.Core.Path.{refl}
use mathlib.Core.Logic.{inl, inr}
use Prim.Native.Nat.{ℕ, zero, suc}
use lib.Dec.{leb}
use lib.IntN.{ℤ}
use Rattle.refusals.specs.Refusals.{no_exp_or_log, out_of_range, exponent_too_large, too_deep, pool_full}
use Rattle.literal.specs.Literal.{folded}
use Rattle.pool.specs.declared.node.Node.TheVariants as node
use Rattle.pool.specs.Nodes.{greatest_exponent}
use Rattle.pool.specs.Pool.{Pool, node_at}
use Rattle.constructors.specs.Terms.{Term, #, lit, lit_exp, lit_log, add, mul, exp, log, pow, Add, Mul, Div, Max, Exp, Log, Pow}
use Rattle.constructors.specs.Tables.{add_table, mul_table, div_table, neg_table, exp_table, log_table, pow_table, max_table}
use Rattle.constructors.specs.Build.{Calls, literal, build, no_calls, deeper, calls}
use Rattle.situations.specs.Refusal.{OneOf}
use Rattle.situations.specs.Situations.{of_constructors}
use Rattle.situations.proofs.Steps.{Refusing, ◌>>=◌, yield_refuses, refuse_refuses, append_refuses, exponent_refuses, folded_refuses, exp_of_refuses, log_of_refuses}

-- ---- the constructors' numbers
no_exp_or_log_met : OneOf of_constructors no_exp_or_log
no_exp_or_log_met = inl refl

out_of_range_met : OneOf of_constructors out_of_range
out_of_range_met = inr (inl refl)

exponent_too_large_met : OneOf of_constructors exponent_too_large
exponent_too_large_met = inr (inr (inl refl))

too_deep_met : OneOf of_constructors too_deep
too_deep_met = inr (inr (inr (inl refl)))

pub pool_full_met : OneOf of_constructors pool_full
pool_full_met = inr (inr (inr (inr (inl refl))))

pub literals_refuse : (z : ℤ) → Refusing of_constructors (literal (folded z))
literals_refuse z = folded_refuses pool_full_met out_of_range_met z

-- constructors that refuse by these only
pub record AllRefuse (c : Calls) : Type 0 where
  pub add_at : (lhs rhs : ℕ) → Refusing of_constructors (c.add_at lhs rhs)
  pub mul_at : (lhs rhs : ℕ) → Refusing of_constructors (c.mul_at lhs rhs)
  pub div_at : (lhs rhs : ℕ) → Refusing of_constructors (c.div_at lhs rhs)
  pub max_at : (lhs rhs : ℕ) → Refusing of_constructors (c.max_at lhs rhs)
  pub neg_at : (arg : ℕ) → Refusing of_constructors (c.neg_at arg)
  pub exp_at : (arg : ℕ) → Refusing of_constructors (c.exp_at arg)
  pub log_at : (arg : ℕ) → Refusing of_constructors (c.log_at arg)
  pub pow_at : (base e : ℕ) → Refusing of_constructors (c.pow_at base e)

pub build_refuses : {c : Calls} → AllRefuse c → (t : Term) → Refusing of_constructors (build c t)
unfolding build
build_refuses g (# a) = yield_refuses a
build_refuses g (lit z) = literals_refuse z
build_refuses g (lit_exp z) = exp_of_refuses pool_full_met no_exp_or_log_met z
build_refuses g (lit_log z) = log_of_refuses pool_full_met no_exp_or_log_met z
build_refuses g (add s t) = do
  a ← build_refuses g s
  b ← build_refuses g t
  g.add_at a b
build_refuses g (mul s t) = do
  a ← build_refuses g s
  b ← build_refuses g t
  g.mul_at a b
build_refuses g (exp t) = do
  a ← build_refuses g t
  g.exp_at a
build_refuses g (log t) = do
  a ← build_refuses g t
  g.log_at a
build_refuses g (pow t e) = do
  a ← build_refuses g t
  exponent_refuses exponent_too_large_met (leb e greatest_exponent) (g.pow_at a e)
build_refuses g (Add s t) = do
  a ← build_refuses g s
  b ← build_refuses g t
  append_refuses pool_full_met (node.Add a b)
build_refuses g (Mul s t) = do
  a ← build_refuses g s
  b ← build_refuses g t
  append_refuses pool_full_met (node.Mul a b)
build_refuses g (Div s t) = do
  a ← build_refuses g s
  b ← build_refuses g t
  append_refuses pool_full_met (node.Div a b)
build_refuses g (Max s t) = do
  a ← build_refuses g s
  b ← build_refuses g t
  append_refuses pool_full_met (node.Max a b)
build_refuses g (Exp t) = do
  a ← build_refuses g t
  append_refuses pool_full_met (node.Exp a)
build_refuses g (Log t) = do
  a ← build_refuses g t
  append_refuses pool_full_met (node.Log a)
build_refuses g (Pow t e) = do
  a ← build_refuses g t
  append_refuses pool_full_met (node.Pow a e)

-- a term that is chosen by the pool
pub table_refuses : {c : Calls} → AllRefuse c → (table : Pool → Term) → Refusing of_constructors (λ P. build c (table P) P)
table_refuses g table = record { refuses = λ P. (build_refuses g (table P)).refuses P }

pub deeper_refuse : {c : Calls} → AllRefuse c → AllRefuse (deeper c)
deeper_refuse g =
    record {
      add_at = λ lhs rhs. table_refuses g (λ P. add_table (node_at P) lhs rhs);
      mul_at = λ lhs rhs. table_refuses g (λ P. mul_table (node_at P) lhs rhs);
      div_at = λ lhs rhs. table_refuses g (λ P. div_table (node_at P) lhs rhs);
      max_at = λ lhs rhs. table_refuses g (λ P. max_table (node_at P) lhs rhs);
      neg_at = λ arg. table_refuses g (λ P. neg_table (node_at P) arg);
      exp_at = λ arg. table_refuses g (λ P. exp_table (node_at P) arg);
      log_at = λ arg. table_refuses g (λ P. log_table (node_at P) arg);
      pow_at = λ base e. table_refuses g (λ P. pow_table (node_at P) base e);
    }

none_refuse : AllRefuse no_calls
none_refuse =
    record {
      add_at = λ lhs rhs. refuse_refuses too_deep too_deep_met;
      mul_at = λ lhs rhs. refuse_refuses too_deep too_deep_met;
      div_at = λ lhs rhs. refuse_refuses too_deep too_deep_met;
      max_at = λ lhs rhs. refuse_refuses too_deep too_deep_met;
      neg_at = λ arg. refuse_refuses too_deep too_deep_met;
      exp_at = λ arg. refuse_refuses too_deep too_deep_met;
      log_at = λ arg. refuse_refuses too_deep too_deep_met;
      pow_at = λ base e. refuse_refuses too_deep too_deep_met;
    }

-- with any depth left, every constructor does
pub calls_refuse : (left : ℕ) → AllRefuse (calls left)
unfolding calls
calls_refuse zero = none_refuse
calls_refuse (suc left) = deeper_refuse (calls_refuse left)
