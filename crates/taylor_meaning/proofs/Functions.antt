-- Taylor's formula for polynomial expressions: f (x + t) = c_0 + c_1 × t + .. in every ring that is a model, c being f's value at x + t in the ring of series. Series that vanish from some coefficient on can be summed, and summing respects sums, products and powers.
-- Assumes nothing.
use mathlib.Core.Path.{◌≡◌, refl, sym, ap, ◌∙◌, fun_ext}
use mathlib.Core.Bool.{Bool, true, false, cond}
use mathlib.Core.List.{[], ◌∷◌}
use mathlib.Core.Logic.{◌⊎◌, inl, inr}
use Prim.Native.Nat.{ℕ, zero, suc, ◌+◌, ◌-◌, ◌≤◌, ◌<◌}
use native.Mathlib.Omega.{arith}
use lib.Dec.{eqb}
use lib.IntN.{pos}
use Rattle.pool.specs.declared.node.Node.{Node}
use Rattle.pool.specs.declared.node.Node.TheVariants.{Empty, Variable, Lit, Add, Mul, Div, Exp, Log, Pow, Max}
use Rattle.pool.specs.Nodes.{parts}
use Rattle.pool.proofs.Folds.{side_by_side}
use Rattle.shape.specs.Shape.{Reach, root, part}
use Rattle.shape.proofs.Lists.{here, below_or_not}
use Rattle.taylor.specs.Expand.{Point}
use Rattle.meaning.specs.Model.{Algebra, Model, Distributive, power}
use Rattle.meaning.specs.Value.{Values, value_node, value}
use Rattle.meaning.proofs.Values.{Each, each_had, same_op}
use Rattle.meaning.proofs.Laws.{sum_assoc, sum_zero, product_comm, product_assoc, product_swap, product_one, product_zero, zero_product, power_none, power_more}
use Rattle.walk_meaning.specs.Setting.{setting}
use Rattle.taylor_meaning.specs.Series.{Series, constant_series, shifted, plus_series, times_series, polynomials}
use Rattle.taylor_meaning.specs.Coefficients.{base, as_series}
use Rattle.taylor_meaning.specs.PolynomialExpressions.{PolynomialNode, PolynomialExpression, polynomial_at, IsPolynomial}
use Rattle.taylor_meaning.proofs.Sums.{sum_more, sum_none, sum_same}
use Rattle.taylor_meaning.proofs.SeriesRing.{sum_zeros, sum_front, sum_plus, sum_scale, distributes_right, times_first, times_front, zero_times}

module _ {A : Algebra} (M : Model A) (D : Distributive A) where
  open A use {carrier, int, plus as ◌⊕◌, times as ◌⊗◌}

  infixl 20 ◌⊕◌
  infixl 30 ◌⊗◌
  abbrev rest : Series A → Series A
  rest f k = f (suc k)

  -- from coefficient d on there is nothing
  abbrev Vanishes : Series A → ℕ → Type 0
  Vanishes f d = (k : ℕ) → d ≤ k → f k ≡ int (pos 0)

  module _ (t : carrier) where
    abbrev sum_of : Series A → ℕ → carrier
    sum_of f n = polynomial_at A f n t

    at_none : (f : Series A) → sum_of f 0 ≡ int (pos 0)
    unfolding polynomial_at
    at_none f = sum_none A (λ k. f k ⊗ power A t k)

    at_more : (f : Series A) (n : ℕ) → sum_of f (suc n) ≡ sum_of f n ⊕ f n ⊗ power A t n
    unfolding polynomial_at
    at_more f n = sum_more A (λ k. f k ⊗ power A t k) n

    -- c_0 + t × (c_1 + ..)
    at_front : (f : Series A) (n : ℕ) → sum_of f (suc n) ≡ f 0 ⊕ t ⊗ sum_of (rest f) n
    unfolding polynomial_at
    at_front f n =
        sum_front M (λ k. f k ⊗ power A t k) n
        ∙ same_op ◌⊕◌
        (ap (λ x. f 0 ⊗ x) (power_none M t) ∙ product_one M (f 0))
        (sum_same A (λ k. f (suc k) ⊗ power A t (suc k)) (λ k. t ⊗ (f (suc k) ⊗ power A t k)) n (λ k l. ap (λ x. f (suc k) ⊗ x) (power_more M t k ∙ product_comm M (power A t k) t) ∙ product_swap M (f (suc k)) t (power A t k))
        ∙ sum_scale M D t (λ k. f (suc k) ⊗ power A t k) n)

    at_plus : (f g : Series A) (n : ℕ) → sum_of (λ k. f k ⊕ g k) n ≡ sum_of f n ⊕ sum_of g n
    unfolding polynomial_at
    at_plus f g n =
        sum_same A (λ k. (f k ⊕ g k) ⊗ power A t k) (λ k. f k ⊗ power A t k ⊕ g k ⊗ power A t k) n (λ k l. distributes_right M D (f k) (g k) (power A t k))
        ∙ sum_plus M (λ k. f k ⊗ power A t k) (λ k. g k ⊗ power A t k) n

    at_scale : (c : carrier) (f : Series A) (n : ℕ) → sum_of (λ k. c ⊗ f k) n ≡ c ⊗ sum_of f n
    unfolding polynomial_at
    at_scale c f n =
        sum_same A (λ k. c ⊗ f k ⊗ power A t k) (λ k. c ⊗ (f k ⊗ power A t k)) n (λ k l. product_assoc M c (f k) (power A t k)) ∙ sum_scale M D c (λ k. f k ⊗ power A t k) n

    at_zero : (f : Series A) (n : ℕ) → Vanishes f 0 → sum_of f n ≡ int (pos 0)
    unfolding polynomial_at
    at_zero f n none = sum_zeros M (λ k. f k ⊗ power A t k) n (λ k l. ap (λ x. x ⊗ power A t k) (none k (omega arith)) ∙ zero_product M (power A t k))

    -- past the degree nothing is added
    at_past : (f : Series A) (d m : ℕ) → Vanishes f d → sum_of f (m + d) ≡ sum_of f d
    at_past f d zero none = ap (sum_of f) (nothing d)
      where
        nothing : (d : ℕ) → 0 + d ≡ d
        nothing d = omega arith
    at_past f d (suc m) none =
        ap (sum_of f) (one_more m d)
        ∙ at_more f (m + d)
        ∙ ap (λ x. sum_of f (m + d) ⊕ x) (ap (λ x. x ⊗ power A t (m + d)) (none (m + d) (omega arith)) ∙ zero_product M (power A t (m + d)))
        ∙ sum_zero M (sum_of f (m + d))
        ∙ at_past f d m none
      where
        one_more : (m d : ℕ) → suc m + d ≡ suc (m + d)
        one_more m d = omega arith

    at_degree : (f : Series A) (d n : ℕ) → d ≤ n → Vanishes f d → sum_of f n ≡ sum_of f d
    at_degree f d n le none = ap (sum_of f) (split d n le) ∙ at_past f d (n - d) none
      where
        split : (d n : ℕ) → d ≤ n → n ≡ n - d + d
        split d n le = omega arith

    at_times : (d e n : ℕ) (f g : Series A) → Vanishes f d → Vanishes g e → d + e ≤ n → sum_of (times_series A f g) n ≡ sum_of f d ⊗ sum_of g e
    at_times zero e n f g nf ng le =
        at_zero (times_series A f g) n (λ k l. zero_times M f g (λ j. nf j (omega arith)) k) ∙ sym (ap (λ x. x ⊗ sum_of g e) (at_none f) ∙ zero_product M (sum_of g e))
    at_times (suc d) e zero f g nf ng le = absurd (never d e le)
      where
        never : (d e : ℕ) → suc d + e ≤ 0 → ⊥
        never d e le = omega arith
    at_times (suc d) e (suc n) f g nf ng le =
        at_front (times_series A f g) n
        ∙ same_op ◌⊕◌ (times_first M f g)
        (ap (λ x. t ⊗ x)
        (ap (λ s. sum_of s n) (fun_ext (λ k. times_front M f g k))
        ∙ at_plus (λ k. f 0 ⊗ g (suc k)) (times_series A (rest f) g) n
        ∙ same_op ◌⊕◌ (at_scale (f 0) (rest g) n) (at_times d e n (rest f) g (λ k l. nf (suc k) (omega arith)) ng (omega arith))))
        ∙ gather (f 0) (g 0) (sum_of (rest g) n) (sum_of (rest f) d) (sum_of g e) (sym (at_front g n) ∙ at_degree g e (suc n) (omega arith) ng)
        ∙ ap (λ x. x ⊗ sum_of g e) (sym (at_front f d))
      where
        gather : (a b r s y : carrier) → b ⊕ t ⊗ r ≡ y → a ⊗ b ⊕ t ⊗ (a ⊗ r ⊕ s ⊗ y) ≡ (a ⊕ t ⊗ s) ⊗ y
        gather a b r s y h =
            ap (λ x. a ⊗ b ⊕ x) (D.distributes t (a ⊗ r) (s ⊗ y) ∙ same_op ◌⊕◌ (product_swap M t a r) (sym (product_assoc M t s y)))
            ∙ sym (sum_assoc M (a ⊗ b) (a ⊗ (t ⊗ r)) (t ⊗ s ⊗ y))
            ∙ ap (λ x. x ⊕ t ⊗ s ⊗ y) (sym (D.distributes a b (t ⊗ r)) ∙ ap (λ x. a ⊗ x) h)
            ∙ sym (distributes_right M D a (t ⊗ s) y)

  -- ---- series that are functions of t

  record Finite (f : Series A) (y : carrier → carrier) : Type 0 where
    degree : ℕ
    vanishes : Vanishes f degree
    total : (t : carrier) → polynomial_at A f degree t ≡ y t

  finite_constant : (c : carrier) → Finite (constant_series A c) (λ t. c)
  finite_constant c =
      record {
        degree = 1;
        vanishes = none;
        total = λ t. at_front t (constant_series A c) 0 ∙ ap (λ x. c ⊕ t ⊗ x) (at_none t (rest (constant_series A c))) ∙ ap (λ x. c ⊕ x) (product_zero M t) ∙ sum_zero M c;
      }
    where
      none : Vanishes (constant_series A c) 1
      none zero l = absurd (never l)
        where
          never : 1 ≤ 0 → ⊥
          never l = omega arith
      none (suc k) l = refl

  finite_shifted : (x : carrier) → Finite (shifted A x) (λ t. x ⊕ t)
  finite_shifted x =
      record {
        degree = 2;
        vanishes = none;
        total = λ t.
            at_front t (shifted A x) 1
            ∙ ap (λ y. x ⊕ t ⊗ y) (at_front t (rest (shifted A x)) 0 ∙ ap (λ y. int (pos 1) ⊕ t ⊗ y) (at_none t (rest (rest (shifted A x)))) ∙ ap (λ y. int (pos 1) ⊕ y) (product_zero M t) ∙ sum_zero M (int (pos 1)))
            ∙ ap (λ y. x ⊕ y) (product_one M t);
      }
    where
      never : (k : ℕ) → k < 2 → 2 ≤ k → ⊥
      never k h l = omega arith

      none : Vanishes (shifted A x) 2
      none zero l = absurd (never 0 (omega arith) l)
      none (suc zero) l = absurd (never 1 (omega arith) l)
      none (suc (suc k)) l = refl

  finite_plus : {f g : Series A} {y z : carrier → carrier} → Finite f y → Finite g z → Finite (plus_series A f g) (λ t. y t ⊕ z t)
  finite_plus {f} {g} a b =
      record {
        degree = a.degree + b.degree;
        vanishes = λ k l. same_op ◌⊕◌ (a.vanishes k (omega arith)) (b.vanishes k (omega arith)) ∙ sum_zero M (int (pos 0));
        total = λ t.
            at_plus t f g (a.degree + b.degree)
            ∙ same_op ◌⊕◌
            (at_degree t f a.degree (a.degree + b.degree) (omega arith) a.vanishes ∙ a.total t)
            (at_degree t g b.degree (a.degree + b.degree) (omega arith) b.vanishes ∙ b.total t);
      }

  times_vanishes : (f g : Series A) (d e : ℕ) → Vanishes f d → Vanishes g e → Vanishes (times_series A f g) (d + e)
  unfolding times_series
  times_vanishes f g d e nf ng k l = sum_zeros M (λ j. f j ⊗ g (k - j)) (suc k) (λ j m. go j (below_or_not j d))
    where
      go : (j : ℕ) → (j < d) ⊎ (d ≤ j) → f j ⊗ g (k - j) ≡ int (pos 0)
      go j (inl h) = ap (λ x. f j ⊗ x) (ng (k - j) (omega arith)) ∙ product_zero M (f j)
      go j (inr h) = ap (λ x. x ⊗ g (k - j)) (nf j h) ∙ zero_product M (g (k - j))

  finite_times : {f g : Series A} {y z : carrier → carrier} → Finite f y → Finite g z → Finite (times_series A f g) (λ t. y t ⊗ z t)
  finite_times {f} {g} a b =
      record {
        degree = a.degree + b.degree;
        vanishes = times_vanishes f g a.degree b.degree a.vanishes b.vanishes;
        total = λ t. at_times t a.degree b.degree (a.degree + b.degree) f g a.vanishes b.vanishes (omega arith) ∙ same_op ◌⊗◌ (a.total t) (b.total t);
      }

  finite_power : {f : Series A} {y : carrier → carrier} (n : ℕ) → Finite f y → Finite (power (polynomials A) f n) (λ t. power A (y t) n)
  unfolding power
  finite_power zero a = finite_constant (int (pos 1))
  finite_power (suc n) a = finite_times (finite_power n a) a

  -- ---- expressions

  module _ (env : Values A) (v : ℕ) (x : Point) where
    -- the variable is x + t
    abbrev moved : carrier → Values A
    moved t = setting A env v (base A env v x ⊕ t)

    variable_finite : (u : ℕ) (b : Bool) → Finite (cond b (shifted A (base A env v x)) (constant_series A (env u))) (λ t. cond b (base A env v x ⊕ t) (env u))
    variable_finite u true = finite_shifted (base A env v x)
    variable_finite u false = finite_constant (env u)

    node_finite :
        (f : ℕ → Series A) (y : carrier → ℕ → carrier) (n : Node) → PolynomialNode n → Each (λ a. Finite (f a) (λ t. y t a)) (parts n) → Finite (value_node (polynomials A) (as_series A env v x) f n) (λ t. value_node A (moved t) (y t) n)
    unfolding value_node
    node_finite f y Empty p h = absurd p
    node_finite f y (Variable u) p h = variable_finite u (eqb u v)
    node_finite f y (Lit z) p h = finite_constant (int z)
    node_finite f y (Add a b) p h = finite_plus h.0 h.1.0
    node_finite f y (Mul a b) p h = finite_times h.0 h.1.0
    node_finite f y (Div a b) p h = absurd p
    node_finite f y (Exp a) p h = absurd p
    node_finite f y (Log a) p h = absurd p
    node_finite f y (Pow a e) p h = finite_power e h.0
    node_finite f y (Max a b) p h = absurd p

    module _ (at : ℕ → Node) (r : ℕ) (p : PolynomialExpression at r) where
      value_finite : Finite (value (polynomials A) (as_series A env v x) at r) (λ t. value A (moved t) at r)
      value_finite =
          side_by_side ((polynomials A).int (pos 0)) (int (pos 0)) (value_node (polynomials A) (as_series A env v x)) (λ t. value_node A (moved t)) at Finite (finite_constant (int (pos 0))) (Reach at (r ∷ []))
          (λ f g i c finite. node_finite f g (at i) (p i c) (each_had (parts (at i)) (λ a m. finite a (part c m)))) r (root (here r []))

      -- f (x + t) = c_0 + c_1 × t + .. + c_(n-1) × t^(n-1) for every t, for every n from some degree on
      pub taylor_formula : IsPolynomial A (value (polynomials A) (as_series A env v x) at r) (λ t. value A (setting A env v (A.plus (base A env v x) t)) at r)
      taylor_formula =
          record {
            degree = value_finite.degree;
            formula = λ n l t. at_degree t (value (polynomials A) (as_series A env v x) at r) value_finite.degree n l value_finite.vanishes ∙ value_finite.total t;
          }
