-- The slope of a node is had from the values and the slopes of its parts; and what the sign of the Rust's quotient rule does.
-- Assumes nothing.
use mathlib.Core.Path.{◌≡◌, refl, ap, ◌∙◌}
use Prim.Native.Nat.{ℕ, ◌-◌}
use lib.IntN.{pos, negsuc}
use Rattle.pool.specs.declared.node.Node.{Node}
use Rattle.pool.specs.declared.node.Node.TheVariants.{Empty, Variable, Lit, Add, Mul, Div, Exp, Log, Pow, Max}
use Rattle.pool.specs.Nodes.{parts}
use Rattle.meaning.specs.Model.{Algebra, Model, power}
use Rattle.meaning.specs.Value.{Values, value}
use Rattle.meaning.proofs.Laws.{zero_sum, product_zero, one_product, power_of_one}
use Rattle.meaning.proofs.Values.{Each, same_op, Falling, from_parts}
use Rattle.walk_meaning.specs.Slope.{quotient_slope, slope_node, slope}

module _ (A : Algebra) (env : Values A) (var : ℕ) where
  open A use {carrier, int, plus as ◌⊕◌, times as ◌⊗◌, over as ◌⊘◌}

  slope_same : (v d e : ℕ → carrier) (x : Node) → Each (λ a. d a ≡ e a) (parts x) → slope_node A env var v d x ≡ slope_node A env var v e x
  unfolding slope_node
  slope_same v d e Empty h = refl
  slope_same v d e (Variable u) h = refl
  slope_same v d e (Lit z) h = refl
  slope_same v d e (Add a b) h = same_op A.plus h.0 h.1.0
  slope_same v d e (Mul a b) h = same_op A.plus (ap (A.times (v a)) h.1.0) (ap (A.times (v b)) h.0)
  slope_same v d e (Div a b) h = same_op (quotient_slope A env var (v a) (v b)) h.0 h.1.0
  slope_same v d e (Exp a) h = ap (λ x. A.times x (A.exp (v a))) h.0
  slope_same v d e (Log a) h = ap (λ x. A.over x (v a)) h.0
  slope_same v d e (Pow a n) h = ap (λ x. A.times (A.times (int (pos n)) x) (power A (v a) (n - 1))) h.0
  slope_same v d e (Max a b) h = refl

  pub slope_law : (at : ℕ → Node) → Falling at → (i : ℕ) → slope A env var at i ≡ slope_node A env var (value A env at) (slope A env var at) (at i)
  slope_law at = from_parts (int (pos 0)) (slope_node A env var (value A env at)) (slope_same (value A env at)) at

-- what the Rust's sign does: of x / 1 its rule gives -x', where the calculus has x'
pub quotient_by_one : {A : Algebra} (M : Model A) (env : Values A) (var : ℕ) (x dx : A.carrier) → quotient_slope A env var x (A.int (pos 1)) dx (A.int (pos 0)) ≡ A.times (A.int (negsuc 0)) dx
quotient_by_one {A} M env var x dx =
    ap (λ y. A.over (A.plus (A.times x (A.int (pos 0))) (A.times (A.int (negsuc 0)) (A.times (A.int (pos 1)) dx))) y) (power_of_one M 2)
    ∙ M.over_one _
    ∙ same_op A.plus (product_zero M x) (ap (A.times (A.int (negsuc 0))) (one_product M dx))
    ∙ zero_sum M (A.times (A.int (negsuc 0)) dx)
