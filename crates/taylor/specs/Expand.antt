-- `taylor_coeffs_with` of src/symbolic.rs: the expansion of an expression. It visits "left before right" and keeps "each visited node's result for that call".
-- Assumes nothing.
use Rattle.std.specs.Prelude.{Bool, true, false, cond, List, ℕ, zero, suc, eqb, ℤ, Option, Some, None, get_or, set, replicate}
use Rattle.refusals.specs.Refusals.{broken_pool, max_reached}
use Rattle.literal.specs.Literal.{is_literal}
use Rattle.pool.specs.declared.node.Node.{Node}
use Rattle.pool.specs.declared.node.Node.TheVariants.{Empty, Variable, Lit, Add, Mul, Div, Exp, Log, Pow, Max}
use Rattle.pool.specs.Pool.{Pool, done, refused, WorkOn, limit, append, node_at}
use Rattle.pool.specs.Pool as pool
pub use Rattle.pool.specs.Work.{bind, ◌>>=◌, yield, refuse}
use Rattle.taylor.specs.Work.{Result, Work, lit}
use Rattle.taylor.specs.declared.expansion.Expansion.TheVariants.{Constant}
use Rattle.taylor.specs.Expansion.{Expansion, var, add_to, times, quotient, exponential, logarithm, power}

-- what is kept for a node: nothing yet, or its expansion
abbrev pub Kept : Type 0
Kept = Option Expansion

pub record State : Type 0 where
  pub pool : Pool
  pub results : List Kept

abbrev pub state : Pool → List Kept → State
state P results = record { pool = P; results = results }

abbrev pub Went : Type 0
Went = pool.Result State Expansion

abbrev pub Walk : Type 0
Walk = WorkOn State Expansion

-- an operation on expansions, called by the walk
abbrev pub lifted : List Kept → Result Expansion → Went
lifted results (done e P) = done e (state P results)
lifted results (refused k) = refused k

abbrev pub lift : Work Expansion → Walk
lift work S = lifted S.results (work S.pool)

abbrev pub keep : ℕ → Expansion → Walk
keep i e S = done e (state S.pool (set S.results i (Some e)))

abbrev pub once : (ℕ → Walk) → ℕ → Kept → Walk
once visit i None S = (visit i >>= keep i) S
once visit i (Some e) S = done e S

-- where an expansion is made: at a point, or at the variable itself
abbrev pub Point : Type 0
Point = Option ℤ

-- 4. "A .. point is outside the literal range."
abbrev pub is_point : Point → Bool
is_point None = true
is_point (Some z) = is_literal z

-- Some(x) => lit(x), None => var(var)
abbrev pub point_node : ℕ → Point → Work ℕ
point_node v None = append (Variable v)
point_node v (Some z) = lit z

abbrev pub of_variable : Bool → ℕ → ℕ → Point → ℕ → Walk
of_variable true term v x order = lift (point_node v x >>= (λ p. var p order))
of_variable false term v x order = yield (Constant term)

-- match term
abbrev pub expand_node : ℕ → Point → ℕ → (ℕ → Walk) → ℕ → Node → Walk
expand_node v x order down term Empty = refuse broken_pool
-- Variable(v) => if v == var { var(point, order) } else { Constant(term) }
expand_node v x order down term (Variable u) = of_variable (eqb u v) term v x order
-- Lit(_) => Constant(term)
expand_node v x order down term (Lit z) = yield (Constant term)
expand_node v x order down term (Add a b) = do
  s ← down a
  t ← down b
  lift (add_to s t)
expand_node v x order down term (Mul a b) = do
  s ← down a
  t ← down b
  lift (times s t)
expand_node v x order down term (Div a b) = do
  s ← down a
  t ← down b
  lift (quotient s t)
expand_node v x order down term (Exp a) = do
  s ← down a
  lift (exponential s)
expand_node v x order down term (Log a) = do
  s ← down a
  lift (logarithm s)
expand_node v x order down term (Pow a e) = do
  s ← down a
  lift (power s e)
-- Max(..) => panic: 10
expand_node v x order down term (Max a b) = refuse max_reached

abbrev pub expand_at : ℕ → Point → ℕ → (ℕ → Walk) → ℕ → Walk
expand_at v x order down term S = expand_node v x order down term (node_at S.pool term) S

-- the walk from node i, where i is below the bound; parts have smaller numbers
unfoldable pub expand_below : ℕ → Point → ℕ → ℕ → ℕ → Walk
expand_below v x order zero i S = refused broken_pool
expand_below v x order (suc k) i S =
    cond (eqb i k) (once (expand_at v x order (expand_below v x order k)) k (get_or S.results k None) S) (expand_below v x order k i S)

abbrev pub expanded : Went → Result Expansion
expanded (done e S) = done e S.pool
expanded (refused k) = refused k

-- fn taylor_coeffs, fn taylor_coeffs_at
abbrev pub expand : ℕ → ℕ → Point → ℕ → Work Expansion
expand root v x order P = expanded (expand_below v x order (suc root) root (state P (replicate limit None)))
