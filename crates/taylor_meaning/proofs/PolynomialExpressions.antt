-- Expansions of plain expressions need no law of fractions; of polynomial ones, the coefficients are those of the expression's value in the ring of series where the variable is x + t.
-- Assumes nothing.
use mathlib.Core.Path.{◌≡◌, refl, ap, ◌∙◌}
use mathlib.Core.List.{List, [], ◌∷◌}
use Prim.Native.Nat.{ℕ, suc, ◌^◌, ◌≤◌, ◌<◌}
use native.Mathlib.Omega.{arith}
use lib.IntN.{pos}
use lib.ListN.{get_or}
use Rattle.pool.specs.declared.node.Node.{Node}
use Rattle.pool.specs.declared.node.Node.TheVariants.{Empty, Variable, Lit, Add, Mul, Div, Exp, Log, Pow, Max}
use Rattle.pool.specs.Nodes.{parts, greatest_variable}
use Rattle.pool.proofs.Folds.{side_by_side}
use Rattle.pool.specs.Pool.{Pool, node_at, done}
use Rattle.constructor_laws.specs.Keeps.{Keeps}
use Rattle.constructor_laws.proofs.Coding.{Short}
use Rattle.constructor_laws.proofs.Rules.{parts_below}
use Rattle.shape.specs.Shape.{Reach, root, part}
use Rattle.shape.proofs.Lists.{here}
use Rattle.taylor.specs.Expansion.{Expansion}
use Rattle.taylor.specs.Expand.{Point, expand}
use Rattle.constructor_laws.proofs.Giving.{Gives, accepted}
use Rattle.meaning.specs.Model.{Algebra, Model, Distributive, power}
use Rattle.meaning.specs.Value.{Values, value_node, value}
use Rattle.meaning.proofs.Values.{Each, each_below, each_had, same_op}
use Rattle.taylor_meaning.specs.Series.{Series, plus_series, times_series, series, polynomials}
use Rattle.taylor_meaning.specs.Coefficients.{MeansSeries, as_series}
use Rattle.taylor_meaning.specs.PolynomialExpressions.{PlainNode, PlainExpression, PolynomialNode, PolynomialExpression}
use Rattle.taylor_meaning.proofs.Operations.{Expands}
use Rattle.taylor_meaning.proofs.Polynomials.{powers_same}
use Rattle.taylor_meaning.proofs.Expanding.{Allowed, expansion_gives}
use Rattle.taylor_meaning.proofs.Theorems.{node_short, series_meant}

pub each_both : (H K : ℕ → Type 0) (l : List ℕ) → Each H l → Each K l → Each (λ a. H a × K a) l
each_both H K [] h k = tt
each_both H K (a ∷ more) h k = ((h.0, k.0), each_both H K more h.1 k.1)

polynomial_node_is_plain : (y : Node) → PolynomialNode y → PlainNode y
polynomial_node_is_plain Empty p = p
polynomial_node_is_plain (Variable u) p = tt
polynomial_node_is_plain (Lit z) p = tt
polynomial_node_is_plain (Add a b) p = tt
polynomial_node_is_plain (Mul a b) p = tt
polynomial_node_is_plain (Div a b) p = p
polynomial_node_is_plain (Exp a) p = tt
polynomial_node_is_plain (Log a) p = tt
polynomial_node_is_plain (Pow a e) p = tt
polynomial_node_is_plain (Max a b) p = p

pub polynomial_is_plain : (at : ℕ → Node) (r : ℕ) → PolynomialExpression at r → PlainExpression at r
polynomial_is_plain at r p i c = polynomial_node_is_plain (at i) (p i c)

module _ {A : Algebra} (M : Model A) (D : Distributive A) where
  -- at a polynomial node the ring's value is the value
  node_in_ring : (env : Values (series A)) (f g : ℕ → Series A) (x : Node) → PolynomialNode x → Each (λ a. f a ≡ g a) (parts x) → value_node (polynomials A) env f x ≡ value_node (series A) env g x
  unfolding value_node
  node_in_ring env f g Empty p h = absurd p
  node_in_ring env f g (Variable v) p h = refl
  node_in_ring env f g (Lit z) p h = refl
  node_in_ring env f g (Add a b) p h = same_op (plus_series A) h.0 h.1.0
  node_in_ring env f g (Mul a b) p h = same_op (times_series A) h.0 h.1.0
  node_in_ring env f g (Div a b) p h = absurd p
  node_in_ring env f g (Exp a) p h = absurd p
  node_in_ring env f g (Log a) p h = absurd p
  node_in_ring env f g (Pow a e) p h = ap (λ x. power (polynomials A) x e) h.0 ∙ powers_same M D (g a) e
  node_in_ring env f g (Max a b) p h = absurd p

  pub value_in_ring : (env : Values (series A)) (at : ℕ → Node) (r : ℕ) → PolynomialExpression at r → value (polynomials A) env at r ≡ value (series A) env at r
  value_in_ring env at r p =
      side_by_side {T = Unit {0}} ((polynomials A).int (pos 0)) ((series A).int (pos 0)) (value_node (polynomials A) env) (λ t. value_node (series A) env) at (λ x y. x ≡ y tt) refl (Reach at (r ∷ []))
      (λ f g i c same. node_in_ring env f (g tt) (at i) (p i c) (each_had (parts (at i)) (λ a m. same a (part c m)))) r (root (here r []))

  module _ (env : Values A) {P : Pool} (keeps : Keeps P) (v : ℕ) (known : v ≤ greatest_variable) (x : Point) (order : ℕ) where
    plain_allowed : (y : Node) → Short y → PlainNode y → Allowed A y
    plain_allowed Empty h p = absurd p
    plain_allowed (Variable u) h p = tt
    plain_allowed (Lit z) h p = tt
    plain_allowed (Add a b) h p = tt
    plain_allowed (Mul a b) h p = tt
    plain_allowed (Div a b) h p = absurd p
    plain_allowed (Exp a) h p = tt
    plain_allowed (Log a) h p = tt
    plain_allowed (Pow a e) h p = omega arith
    plain_allowed (Max a b) h p = absurd p

    module _ (words : (i : ℕ) → get_or P.words i 0 < 2 ^ 64) (r : ℕ) (h : r < P.count) where
      plain_expansion_gives : PlainExpression (node_at P) r → Gives P (Expands A env (suc order) (value (series A) (as_series A env v x) (node_at P) r)) (expand r v x order P)
      plain_expansion_gives p =
          expansion_gives M D env keeps v known x order (λ i. Reach (node_at P) (r ∷ []) i × (i < P.count)) (λ i c. c.1)
          (λ i c. each_both (Reach (node_at P) (r ∷ [])) (λ a. a < P.count) (parts (node_at P i)) (each_had (parts (node_at P i)) (λ a m. part c.0 m)) (each_below (parts (node_at P i)) (parts_below keeps i) (λ a m. m)))
          (λ i c. plain_allowed (node_at P i) (node_short P words i) (p i c.0)) r (root (here r []), h)

      -- an accepted expansion of a plain expression: as of any expression, with no law of fractions; and the pool that it leaves keeps the rules
      pub plain_expansion_means :
          {e : Expansion} {Q : Pool} → PlainExpression (node_at P) r → expand r v x order P ≡ done e Q → MeansSeries A env P (suc order) (value (series A) (as_series A env v x) (node_at P) r) e Q
      plain_expansion_means p eq = series_meant M env keeps (plain_expansion_gives p) eq

      pub plain_expansion_keeps : {e : Expansion} {Q : Pool} → PlainExpression (node_at P) r → expand r v x order P ≡ done e Q → Keeps Q
      plain_expansion_keeps p eq = (accepted (plain_expansion_gives p) eq).keeps

      -- an accepted expansion of a polynomial expression: coefficient k is that of t^k in its value at x + t, in the ring of series
      pub polynomial_expansion_means :
          {e : Expansion} {Q : Pool} → PolynomialExpression (node_at P) r → expand r v x order P ≡ done e Q → MeansSeries A env P (suc order) (value (polynomials A) (as_series A env v x) (node_at P) r) e Q
      polynomial_expansion_means p eq =
          rw (value_in_ring (as_series A env v x) (node_at P) r p) (plain_expansion_means (polynomial_is_plain (node_at P) r p) eq)
