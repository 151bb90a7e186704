-- Work on the pool that gives any kind of result, and the operations on coefficients, which are constructors called from outside a constructor.
-- Assumes nothing.
use Rattle.std.specs.Prelude.{List, [], ◌∷◌, ◌++◌, ℕ, zero, suc, ℤ, pos, length}
use Rattle.literal.specs.Literal.{folded}
use Rattle.pool.specs.Pool.{Pool}
use Rattle.pool.specs.Pool as pool
pub use Rattle.pool.specs.Pool.{Work}
pub use Rattle.pool.specs.Work.{bind, ◌>>=◌, yield, refuse}
pub use Rattle.taylor.specs.Coefficients.{at}
use Rattle.constructors.specs.Build.{calls, depth, literal}

abbrev pub Result : Type 0 → Type 0
Result A = pool.Result Pool A

-- T::from(n), T::zero(), T::one(): each a new literal
abbrev pub lit : ℤ → Work ℕ
lit z = literal (folded z)

abbrev pub from : ℕ → Work ℕ
from n = lit (pos n)

abbrev pub zero_lit : Work ℕ
zero_lit = from 0

abbrev pub one_lit : Work ℕ
one_lit = from 1

-- the operators of `SymGenFun`
abbrev pub add : ℕ → ℕ → Work ℕ
add a b = (calls depth).add_at a b

abbrev pub mul : ℕ → ℕ → Work ℕ
mul a b = (calls depth).mul_at a b

abbrev pub div : ℕ → ℕ → Work ℕ
div a b = (calls depth).div_at a b

abbrev pub neg : ℕ → Work ℕ
neg a = (calls depth).neg_at a

-- self + (-rhs)
abbrev pub sub : ℕ → ℕ → Work ℕ
sub a b = do
  n ← neg b
  add a n

abbrev pub exp : ℕ → Work ℕ
exp a = (calls depth).exp_at a

abbrev pub log : ℕ → Work ℕ
log a = (calls depth).log_at a

abbrev pub max : ℕ → ℕ → Work ℕ
max a b = (calls depth).max_at a b

-- for each entry, in order
unfoldable pub each : (ℕ → Work ℕ) → List ℕ → Work (List ℕ)
each f [] = yield []
each f (c ∷ cs) = do
  r ← f c
  rs ← each f cs
  yield (r ∷ rs)

-- for the entries of two lists side by side, up to the shorter length
unfoldable pub each_two : (ℕ → ℕ → Work ℕ) → List ℕ → List ℕ → Work (List ℕ)
each_two f [] ws = yield []
each_two f (u ∷ us) [] = yield []
each_two f (u ∷ us) (w ∷ ws) = do
  r ← f u w
  rs ← each_two f us ws
  yield (r ∷ rs)

-- (j .. j + todo).fold(acc, f)
unfoldable pub fold : (ℕ → ℕ → Work ℕ) → ℕ → ℕ → ℕ → Work ℕ
fold f j zero acc = yield acc
fold f j (suc todo) acc = do
  next ← f acc j
  fold f (suc j) todo next

-- for k in res.len() .. res.len() + todo { res[k] = f(res, k) }
unfoldable pub fill : (List ℕ → ℕ → Work ℕ) → ℕ → List ℕ → Work (List ℕ)
fill f zero res = yield res
fill f (suc todo) res = do
  c ← f res (length res)
  fill f todo (res ++ (c ∷ []))
