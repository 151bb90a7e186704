-- No rule changes a value: in every model, for all values of the variables, an accepted call of a constructor on a pool that keeps the rules answers a node with the value of the operation on its arguments' values, and all earlier values stand. So at any depth.
-- Assumes nothing.
use mathlib.Core.Path.{◌≡◌, refl}
use Prim.Native.Nat.{ℕ, ◌≤◌, ◌<◌}
use lib.IntN.{ℤ, negsuc}
use Rattle.literal.specs.Literal.{folded}
use Rattle.pool.specs.declared.node.Node.TheVariants as node
use Rattle.pool.specs.Nodes.{greatest_variable}
use Rattle.pool.specs.Pool.{Pool, Out, done, append, node_at}
use Rattle.constructors.specs.Build.{calls, literal}
use Rattle.constructor_laws.specs.Keeps.{Keeps}
use Rattle.meaning.specs.Model.{Algebra, Model, power}
use Rattle.meaning.specs.Value.{Values, value_node, value, Means}
use Rattle.constructor_laws.proofs.Giving.{Gives, accepted}
use Rattle.meaning.proofs.Values.{value_kept}
use Rattle.meaning.proofs.Running.{Has, Is, node_gives, literal_gives, calls_mean}

module _ {A : Algebra} (M : Model A) (env : Values A) {P : Pool} (keeps : Keeps P) where
  abbrev val : ℕ → A.carrier
  val i = value A env (node_at P) i

  -- what is known after accepted work that gives the value x
  pub meant : {x : A.carrier} {o : Out} {i : ℕ} {Q : Pool} → Gives P (Is A env x) o → o ≡ done i Q → Means A env P x i Q
  meant h e = let known = accepted h e in record { answer = known.is.is; earlier = value_kept A env keeps known.grown }

  has : {i : ℕ} → i < P.count → Has A env P i (val i)
  has h = record { below = h; is = refl }

  module _ {i : ℕ} {Q : Pool} where
    pub var_means : (v : ℕ) → v ≤ greatest_variable → append (node.Variable v) P ≡ done i Q → Means A env P (env v) i Q
    unfolding value_node
    var_means v h e = meant {x = env v} (node_gives A env keeps (record { below = tt; range = h })) e

    pub lit_means : (z : ℤ) → literal (folded z) P ≡ done i Q → Means A env P (A.int z) i Q
    lit_means z e = meant (literal_gives A env keeps z) e

    module _ (left lhs rhs : ℕ) (l : lhs < P.count) (r : rhs < P.count) where
      pub add_means : (calls left).add_at lhs rhs P ≡ done i Q → Means A env P (A.plus (val lhs) (val rhs)) i Q
      add_means e = meant ((calls_mean M env left).add_at P keeps lhs rhs _ _ (has l) (has r)) e

      pub mul_means : (calls left).mul_at lhs rhs P ≡ done i Q → Means A env P (A.times (val lhs) (val rhs)) i Q
      mul_means e = meant ((calls_mean M env left).mul_at P keeps lhs rhs _ _ (has l) (has r)) e

      pub div_means : (calls left).div_at lhs rhs P ≡ done i Q → Means A env P (A.over (val lhs) (val rhs)) i Q
      div_means e = meant ((calls_mean M env left).div_at P keeps lhs rhs _ _ (has l) (has r)) e

      pub max_means : (calls left).max_at lhs rhs P ≡ done i Q → Means A env P (A.max (val lhs) (val rhs)) i Q
      max_means e = meant ((calls_mean M env left).max_at P keeps lhs rhs _ _ (has l) (has r)) e

    module _ (left arg : ℕ) (h : arg < P.count) where
      -- the negative is the product with -1
      pub neg_means : (calls left).neg_at arg P ≡ done i Q → Means A env P (A.times (A.int (negsuc 0)) (val arg)) i Q
      neg_means e = meant ((calls_mean M env left).neg_at P keeps arg _ (has h)) e

      pub exp_means : (calls left).exp_at arg P ≡ done i Q → Means A env P (A.exp (val arg)) i Q
      exp_means e = meant ((calls_mean M env left).exp_at P keeps arg _ (has h)) e

      pub log_means : (calls left).log_at arg P ≡ done i Q → Means A env P (A.log (val arg)) i Q
      log_means e = meant ((calls_mean M env left).log_at P keeps arg _ (has h)) e

      pub pow_means : (e : ℕ) → (calls left).pow_at arg e P ≡ done i Q → Means A env P (power A (val arg) e) i Q
      pow_means n e = meant ((calls_mean M env left).pow_at n P keeps arg _ (has h)) e
