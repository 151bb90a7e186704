-- Running the rules: a term is worked argument by argument, left first, and then its call is made, one deeper. One recursion on the depth left holds all constructors.
-- Assumes nothing.
use Rattle.std.specs.Prelude.{Bool, true, false, ℕ, zero, suc, leb, Ok, Err}
use Rattle.refusals.specs.Refusals.{too_deep, exponent_too_large}
use Rattle.literal.specs.Literal.{folded, exp_of, log_of}
use Rattle.literal.specs.Literal.{Folded}
use Rattle.pool.specs.declared.node.Node.TheVariants as node
use Rattle.pool.specs.Nodes.{greatest_exponent}
use Rattle.pool.specs.Pool.{Run, ◌>>=◌, yield, refuse, append, node_at}
use Rattle.constructors.specs.Terms.{Term, #, lit, lit_exp, lit_log, add, mul, exp, log, pow, Add, Mul, Div, Max, Exp, Log, Pow}
use Rattle.constructors.specs.Tables.{add_table, mul_table, div_table, neg_table, exp_table, log_table, pow_table, max_table}

-- the constructors at a depth
pub record Calls : Type 0 where
  pub add_at : ℕ → ℕ → Run
  pub mul_at : ℕ → ℕ → Run
  pub div_at : ℕ → ℕ → Run
  pub max_at : ℕ → ℕ → Run
  pub neg_at : ℕ → Run
  pub exp_at : ℕ → Run
  pub log_at : ℕ → Run
  pub pow_at : ℕ → ℕ → Run

-- a folded literal becomes a node: 11 or 12 first, then 18
abbrev pub literal : Folded → Run
literal (Ok z) = append (node.Lit z)
literal (Err k) = refuse k

-- 13. "An exponent sum is above 4,294,967,295"
abbrev pub if_exponent_fits : Bool → Run → Run
if_exponent_fits true run = run
if_exponent_fits false run = refuse exponent_too_large

unfoldable pub build : Calls → Term → Run
build c (# a) = yield a
build c (lit z) = literal (folded z)
build c (lit_exp z) = literal (exp_of z)
build c (lit_log z) = literal (log_of z)
build c (add s t) = do
  a ← build c s
  b ← build c t
  c.add_at a b
build c (mul s t) = do
  a ← build c s
  b ← build c t
  c.mul_at a b
build c (exp t) = do
  a ← build c t
  c.exp_at a
build c (log t) = do
  a ← build c t
  c.log_at a
build c (pow t e) = do
  a ← build c t
  if_exponent_fits (leb e greatest_exponent) (c.pow_at a e)
build c (Add s t) = do
  a ← build c s
  b ← build c t
  append (node.Add a b)
build c (Mul s t) = do
  a ← build c s
  b ← build c t
  append (node.Mul a b)
build c (Div s t) = do
  a ← build c s
  b ← build c t
  append (node.Div a b)
build c (Max s t) = do
  a ← build c s
  b ← build c t
  append (node.Max a b)
build c (Exp t) = do
  a ← build c t
  append (node.Exp a)
build c (Log t) = do
  a ← build c t
  append (node.Log a)
build c (Pow t e) = do
  a ← build c t
  append (node.Pow a e)

-- 14. "A constructor would run at depth 201": none is left
abbrev pub no_calls : Calls
no_calls =
    record {
      add_at = λ lhs rhs. refuse too_deep;
      mul_at = λ lhs rhs. refuse too_deep;
      div_at = λ lhs rhs. refuse too_deep;
      max_at = λ lhs rhs. refuse too_deep;
      neg_at = λ arg. refuse too_deep;
      exp_at = λ arg. refuse too_deep;
      log_at = λ arg. refuse too_deep;
      pow_at = λ base e. refuse too_deep;
    }

-- each constructor runs its table on the pool as it finds it; "a constructor called inside a constructor is one deeper"
abbrev pub deeper : Calls → Calls
deeper c =
    record {
      add_at = λ lhs rhs P. build c (add_table (node_at P) lhs rhs) P;
      mul_at = λ lhs rhs P. build c (mul_table (node_at P) lhs rhs) P;
      div_at = λ lhs rhs P. build c (div_table (node_at P) lhs rhs) P;
      max_at = λ lhs rhs P. build c (max_table (node_at P) lhs rhs) P;
      neg_at = λ arg P. build c (neg_table (node_at P) arg) P;
      exp_at = λ arg P. build c (exp_table (node_at P) arg) P;
      log_at = λ arg P. build c (log_table (node_at P) arg) P;
      pow_at = λ base e P. build c (pow_table (node_at P) base e) P;
    }

unfoldable pub calls : ℕ → Calls
calls zero = no_calls
calls (suc left) = deeper (calls left)

-- "A call from outside has depth 1": 200 constructors may run inside one another
abbrev pub depth : ℕ
depth = 200
