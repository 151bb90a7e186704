-- Derivation and expansion agree: of a plain expression, coefficient 0 at x + t is its value and coefficient 1 its slope, the variable being x. So `derive` and coefficient 1 of the expansion have equal values, in every ring that is a model. With a quotient they differ in its sign.
-- Assumes nothing.
use Rattle.std.specs.Prelude.{None}
use mathlib.Core.Path.{◌≡◌, refl, sym, ap, ◌∙◌, fun_ext}
use mathlib.Core.Bool.{Bool, true, false, cond}
use mathlib.Core.List.{[], ◌∷◌}
use Prim.Native.Nat.{ℕ, zero, suc, ◌-◌, ◌^◌, ◌≤◌, ◌<◌}
use native.Mathlib.Omega.{arith}
use lib.Dec.{eqb}
use lib.IntN.{pos, negsuc, ◌+ℤ◌}
use lib.ListN.{get_or}
use borrow.Author.Tests.{eqb-true}
use Rattle.pool.specs.declared.node.Node.{Node}
use Rattle.pool.specs.declared.node.Node.TheVariants.{Empty, Variable, Lit, Add, Mul, Div, Exp, Log, Pow, Max}
use Rattle.pool.specs.Nodes.{parts, greatest_variable}
use Rattle.pool.specs.Pool.{Pool, done, node_at}
use Rattle.constructor_laws.specs.Keeps.{Keeps}
use Rattle.shape.specs.Shape.{Reach, root, part}
use Rattle.shape.proofs.Lists.{here}
use Rattle.walks.specs.Derive.{derive}
use Rattle.taylor.specs.Expansion.{Expansion}
use Rattle.taylor.specs.Expand.{Point, expand}
use Rattle.meaning.specs.Model.{Algebra, Model, Distributive, power}
use Rattle.meaning.specs.Value.{Values, value_node, value}
use Rattle.meaning.proofs.Values.{Each, each_below, each_had, each_from, same_op, Falling, falling, value_law}
use Rattle.meaning.proofs.Laws.{sum_zero, zero_sum, product_zero, product_comm, product_swap, one_product, zero_product, int_sum}
use Rattle.walk_meaning.specs.Setting.{setting}
use Rattle.walk_meaning.specs.Slope.{slope_node, slope}
use Rattle.walk_meaning.proofs.Slopes.{slope_law}
use Rattle.walk_meaning.proofs.Derivation.{derivation_means}
use Rattle.taylor_meaning.specs.Series.{Series, constant_series, shifted, times_series, series, sum, minus, recurrence, exp_step, log_step}
use Rattle.taylor_meaning.specs.Coefficients.{base, as_series, coefficient}
use Rattle.taylor_meaning.specs.PolynomialExpressions.{PlainNode, PlainExpression}
use Rattle.taylor_meaning.proofs.Sums.{sum_more, sum_none, recurrence_solves, exp_looks_below, log_looks_below}
use Rattle.taylor_meaning.proofs.SeriesRing.{times_first, times_back, distributes_right}
use Rattle.taylor_meaning.proofs.PolynomialExpressions.{each_both, plain_expansion_means}

module _ {A : Algebra} (M : Model A) (D : Distributive A) where
  open A use {carrier, int, plus as ◌⊕◌, times as ◌⊗◌}

  infixl 20 ◌⊕◌
  infixl 30 ◌⊗◌
  -- coefficients 0 and 1
  record Begins (f : Series A) (y d : carrier) : Type 0 where
    zeroth : f 0 ≡ y
    first : f 1 ≡ d

  times_begins : {f g : Series A} {y d z e : carrier} → Begins f y d → Begins g z e → Begins (times_series A f g) (y ⊗ z) (y ⊗ e ⊕ z ⊗ d)
  times_begins {f} {g} {y} {d} {z} {e} hf hg =
      record {
        zeroth = times_first M f g ∙ same_op ◌⊗◌ hf.zeroth hg.zeroth;
        first = times_back M f g 0 ∙ same_op ◌⊕◌ (times_first M f (λ k. g (suc k)) ∙ same_op ◌⊗◌ hf.zeroth hg.first) (product_comm M (f 1) (g 0) ∙ same_op ◌⊗◌ hg.zeroth hf.first);
      }

  power_begins : {f : Series A} {y d : carrier} (n : ℕ) → Begins f y d → Begins (power (series A) f n) (power A y n) (int (pos n) ⊗ d ⊗ power A y (n - 1))
  unfolding power
  power_begins {y = y} {d} zero h = record { zeroth = refl; first = sym (ap (λ x. x ⊗ power A y (0 - 1)) (zero_product M d) ∙ zero_product M (power A y (0 - 1))) }
  power_begins {f} {y} {d} (suc n) h =
      let next = times_begins (power_begins n h) h in
      record { zeroth = next.zeroth; first = next.first ∙ gather n }
    where
      one_less : (n : ℕ) → suc n - 1 ≡ n
      one_less n = omega arith

      one_more : (n : ℕ) → pos (suc n) ≡ pos 1 +ℤ pos n
      one_more n = ap pos (omega arith)

      -- y × (n × d × y^(n - 1)) = n × d × y^n
      raise : (n : ℕ) → y ⊗ (int (pos n) ⊗ d ⊗ power A y (n - 1)) ≡ int (pos n) ⊗ d ⊗ power A y n
      raise zero =
          ap (λ x. y ⊗ (x ⊗ power A y (0 - 1))) (zero_product M d)
          ∙ ap (λ x. y ⊗ x) (zero_product M (power A y (0 - 1)))
          ∙ product_comm M y (int (pos 0))
          ∙ zero_product M y
          ∙ sym (ap (λ x. x ⊗ power A y 0) (zero_product M d) ∙ zero_product M (power A y 0))
      raise (suc n) =
          product_swap M y (int (pos (suc n)) ⊗ d) (power A y (suc n - 1))
          ∙ ap (λ x. int (pos (suc n)) ⊗ d ⊗ x) (product_comm M y (power A y (suc n - 1)) ∙ ap (λ m. power A y m ⊗ y) (one_less n))

      gather : (n : ℕ) → power A y n ⊗ d ⊕ y ⊗ (int (pos n) ⊗ d ⊗ power A y (n - 1)) ≡ int (pos (suc n)) ⊗ d ⊗ power A y (suc n - 1)
      gather n =
          same_op ◌⊕◌ (product_comm M (power A y n) d ∙ ap (λ x. x ⊗ power A y n) (sym (one_product M d))) (raise n)
          ∙ sym (distributes_right M D (int (pos 1) ⊗ d) (int (pos n) ⊗ d) (power A y n))
          ∙ ap (λ x. x ⊗ power A y n) (sym (distributes_right M D (int (pos 1)) (int (pos n)) d) ∙ ap (λ x. x ⊗ d) (sym (ap int (one_more n) ∙ int_sum M (pos 1) (pos n))))
          ∙ ap (λ m. int (pos (suc n)) ⊗ d ⊗ power A y m) (sym (one_less n))

  -- exp: v_1 = (exp u_0 × (1 × u_1)) / 1
  exp_begins : {f : Series A} {y d : carrier} → Begins f y d → Begins (recurrence A (exp_step A f)) (A.exp y) (d ⊗ A.exp y)
  unfolding exp_step
  exp_begins {f} {y} {d} h =
      record {
        zeroth = solved 0 ∙ ap A.exp h.zeroth;
        first = solved 1
            ∙ M.over_one (sum A (λ i. v (0 - i) ⊗ (int (pos (suc i)) ⊗ f (suc i))) 1)
            ∙ sum_more A (λ i. v (0 - i) ⊗ (int (pos (suc i)) ⊗ f (suc i))) 0
            ∙ ap (λ x. x ⊕ v 0 ⊗ (int (pos 1) ⊗ f 1)) (sum_none A (λ i. v (0 - i) ⊗ (int (pos (suc i)) ⊗ f (suc i))))
            ∙ zero_sum M (v 0 ⊗ (int (pos 1) ⊗ f 1))
            ∙ same_op ◌⊗◌ (solved 0 ∙ ap A.exp h.zeroth) (one_product M (f 1) ∙ h.first)
            ∙ product_comm M (A.exp y) d;
      }
    where
      v : Series A
      v = recurrence A (exp_step A f)

      solved : (k : ℕ) → v k ≡ exp_step A f v k
      solved = recurrence_solves A (exp_step A f) (exp_looks_below A f)

  -- log: v_1 = ((1 × u_1 - 0) / u_0) / 1
  log_begins : {f : Series A} {y d : carrier} → Begins f y d → Begins (recurrence A (log_step A f)) (A.log y) (A.over d y)
  unfolding log_step
  log_begins {f} {y} {d} h =
      record {
        zeroth = solved 0 ∙ ap A.log h.zeroth;
        first = solved 1
            ∙ M.over_one (A.over (minus A (int (pos 1) ⊗ f 1) (sum A (λ i. f (0 - i) ⊗ (int (pos (suc i)) ⊗ v (suc i))) 0)) (f 0))
            ∙ same_op A.over
            (same_op (minus A) (one_product M (f 1) ∙ h.first) (sum_none A (λ i. f (0 - i) ⊗ (int (pos (suc i)) ⊗ v (suc i)))) ∙ ap (λ x. d ⊕ x) (product_zero M (int (negsuc 0))) ∙ sum_zero M d)
            h.zeroth;
      }
    where
      v : Series A
      v = recurrence A (log_step A f)

      solved : (k : ℕ) → v k ≡ log_step A f v k
      solved = recurrence_solves A (log_step A f) (log_looks_below A f)

  module _ (env : Values A) (v : ℕ) (x : Point) where
    -- the variable is x
    abbrev there : Values A
    there = setting A env v (base A env v x)

    variable_begins : (u : ℕ) (b : Bool) → Begins (cond b (shifted A (base A env v x)) (constant_series A (env u))) (cond b (base A env v x) (env u)) (int (cond b (pos 1) (pos 0)))
    variable_begins u true = record { zeroth = refl; first = refl }
    variable_begins u false = record { zeroth = refl; first = refl }

    node_begins :
        (f : ℕ → Series A) (y d : ℕ → carrier) (n : Node) → PlainNode n → Each (λ a. Begins (f a) (y a) (d a)) (parts n) → Begins (value_node (series A) (as_series A env v x) f n) (value_node A there y n) (slope_node A there v y d n)
    unfolding value_node slope_node
    node_begins f y d Empty p h = absurd p
    node_begins f y d (Variable u) p h = variable_begins u (eqb u v)
    node_begins f y d (Lit z) p h = record { zeroth = refl; first = refl }
    node_begins f y d (Add a b) p h = record { zeroth = same_op ◌⊕◌ h.0.zeroth h.1.0.zeroth; first = same_op ◌⊕◌ h.0.first h.1.0.first }
    node_begins f y d (Mul a b) p h = times_begins h.0 h.1.0
    node_begins f y d (Div a b) p h = absurd p
    node_begins f y d (Exp a) p h = exp_begins h.0
    node_begins f y d (Log a) p h = log_begins h.0
    node_begins f y d (Pow a e) p h = power_begins e h.0
    node_begins f y d (Max a b) p h = absurd p

    module _ (at : ℕ → Node) (falls : Falling at) (r : ℕ) (p : PlainExpression at r) where
      abbrev expanded : ℕ → Series A
      expanded i = value (series A) (as_series A env v x) at i

      begins_below : (k i : ℕ) → i < k → Reach at (r ∷ []) i → Begins (expanded i) (value A there at i) (slope A there v at i)
      begins_below zero i h c = absurd (never i h)
        where
          never : (i : ℕ) → i < 0 → ⊥
          never i h = omega arith
      begins_below (suc k) i h c =
          rw (value_law (series A) (as_series A env v x) at falls i, value_law A there at falls i, slope_law A there v at falls i)
          (node_begins expanded (value A there at) (slope A there v at) (at i) (p i c)
          (each_from (parts (at i))
          (each_both (Reach at (r ∷ [])) (λ a. a < i) (parts (at i)) (each_had (parts (at i)) (λ a m. part c m)) (each_below (parts (at i)) (falls i) (λ a m. m)))
          (λ a q. let l = q.1 in begins_below k a (omega arith) q.0)))

      -- coefficients 0 and 1 of f (x + t) are f's value and f's slope at x
      pub first_coefficients : (expanded r 0 ≡ value A there at r) × (expanded r 1 ≡ slope A there v at r)
      first_coefficients = let both = begins_below (suc r) r (omega arith) (root (here r [])) in (both.zeroth, both.first)

  -- ---- at the variable itself

  set_to_itself : (env : Values A) (v : ℕ) → setting A env v (env v) ≡ env
  set_to_itself env v = fun_ext (λ u. go u (eqb u v) refl)
    where
      go : (u : ℕ) (t : Bool) → eqb u v ≡ t → cond t (env v) (env u) ≡ env u
      go u true t = ap env (sym (eqb-true u v t))
      go u false t = refl

  module _ (env : Values A) {P : Pool} (keeps : Keeps P) (words : (i : ℕ) → get_or P.words i 0 < 2 ^ 64) (v : ℕ) (known : v ≤ greatest_variable) where
    -- of a plain expression, `derive` and coefficient 1 of the expansion with no point have equal values, for every order from 1 on
    pub derive_is_coefficient :
        (order r : ℕ) → 1 ≤ order → r < P.count → PlainExpression (node_at P) r
        → {i : ℕ} {Q : Pool} → derive r v P ≡ done i Q
        → {e : Expansion} {R : Pool} → expand r v None order P ≡ done e R
        → value A env (node_at Q) i ≡ coefficient A env R e 1
    derive_is_coefficient order r some h p derived expanded =
        let slopes = derivation_means M env keeps v r h derived in
        let coefficients = plain_expansion_means M D env keeps v known None order words r h p expanded in
        slopes.answer
        ∙ ap (λ env. slope A env v (node_at P) r) (sym (set_to_itself env v))
        ∙ sym (coefficients.coefficients 1 (coefficients.long 1 (omega arith)) ∙ (first_coefficients env v None (node_at P) (falling keeps) r p).1)
