-- The expansion of an expression has the coefficients of its value in the algebra of series, the variable being its value and t: what is done at a node of each kind is the series' operation.
-- Assumes nothing.
use Rattle.std.specs.Prelude.{Some, None}
use mathlib.Core.Path.{◌≡◌, refl, sym, ap, ◌∙◌, subst}
use mathlib.Core.Bool.{Bool, true, false, cond}
use Prim.Native.Nat.{ℕ, suc, ◌^◌, ◌≤◌, ◌<◌}
use lib.Dec.{eqb}
use Rattle.pool.specs.declared.node.Node.{Node}
use Rattle.pool.specs.declared.node.Node.TheVariants.{Empty, Variable, Lit, Add, Mul, Div, Exp, Log, Pow, Max}
use Rattle.pool.specs.Nodes.{parts, greatest_variable}
use Rattle.pool.specs.Pool.{Pool, node_at}
use Rattle.constructor_laws.specs.Keeps.{Keeps}
use Rattle.constructor_laws.proofs.Growth.{earlier_same}
use Rattle.taylor.specs.Work.{bind}
use Rattle.taylor.specs.Expansion.{var, add_to, times, quotient, exponential, logarithm, power}
use Rattle.taylor.specs.Expand.{State, Went, Walk, Point, point_node, of_variable, expand_node, expand_at, expand}
use Rattle.taylor.specs.Expand as walk
use Rattle.constructor_laws.proofs.Giving.{Gives, gives_next}
use Rattle.taylor_laws.proofs.Walking.{Good, Walked, ended_walk, Walks, walked_next, walked_here, both_walked, lift_walked, expand_gives}
use Rattle.meaning.specs.Model.{Algebra, Model, Distributive}
use Rattle.meaning.specs.Value.{Values, value_node, value}
use Rattle.meaning.proofs.Values.{Each, falling, value_law}
use Rattle.meaning.proofs.Running.{Has, has_same, has_first, Is, node_gives, literal_gives}
use Rattle.taylor_meaning.specs.Series.{Series, constant_series, shifted, series, Fractions}
use Rattle.taylor_meaning.specs.Coefficients.{base, as_series}
use Rattle.taylor_meaning.proofs.Operations.{Expands, constant, expanding, var_gives, add_to_gives, times_gives}
use Rattle.taylor_meaning.proofs.Elementary.{exponential_gives, logarithm_gives}
use Rattle.taylor_meaning.proofs.Quotients.{quotient_gives}
use Rattle.taylor_meaning.proofs.Powers.{power_gives}

-- what a node asks of the algebra: a quotient that it has fractions, a power that its exponent has 32 bits
abbrev pub Allowed : Algebra → Node → Type 0
Allowed A Empty = Unit {0}
Allowed A (Variable u) = Unit {0}
Allowed A (Lit z) = Unit {0}
Allowed A (Add a b) = Unit {0}
Allowed A (Mul a b) = Unit {0}
Allowed A (Div a b) = Fractions A
Allowed A (Exp a) = Unit {0}
Allowed A (Log a) = Unit {0}
Allowed A (Pow a e) = e < 2 ^ 32
Allowed A (Max a b) = Unit {0}

module _ {A : Algebra} (M : Model A) (D : Distributive A) (env : Values A) {P₀ : Pool} (keeps : Keeps P₀) (v : ℕ) (known : v ≤ greatest_variable) (x : Point) (order : ℕ) where
  abbrev goal : ℕ → Series A
  goal i = value (series A) (as_series A env v x) (node_at P₀) i

  abbrev n : ℕ
  n = suc order

  abbrev Fit : State → Type 0
  Fit = Good (expanding A env n) P₀ goal

  abbrev Comes : State → Series A → Went → Type 0
  Comes = Walked (expanding A env n) P₀ goal

  -- the node of the point
  point_gives : {P : Pool} → Keeps P → (y : Point) → Gives P (Is A env (base A env v y)) (point_node v y P)
  unfolding value_node
  point_gives k None = node_gives A env k (record { below = tt; range = known })
  point_gives k (Some z) = literal_gives A env k z

  -- a node of the first pool, and its value
  stands : {S : State} → Fit S → (i : ℕ) {y : A.carrier} → i < P₀.count → value A env (node_at P₀) i ≡ y → Has A env S.pool i y
  stands good i h e = has_same e (has_first A env keeps good.grown h)

  from_parts : (i : ℕ) {y : Node} → node_at P₀ i ≡ y → value A env (node_at P₀) i ≡ value_node A env (value A env (node_at P₀)) y
  from_parts i e = value_law A env (node_at P₀) (falling keeps) i ∙ ap (value_node A env (value A env (node_at P₀))) e

  module _ (C : ℕ → Type 0) (inside : (i : ℕ) → C i → i < P₀.count) (closed : (i : ℕ) → C i → Each C (parts (node_at P₀ i))) (allowed : (i : ℕ) → C i → Allowed A (node_at P₀ i)) where
    module _ {down : ℕ → Walk} (walks : Walks (expanding A env n) P₀ goal C down) (term : ℕ) (c : C term) where
      variable_walked : (u : ℕ) → node_at P₀ term ≡ Variable u → (S : State) → Fit S → (t : Bool) → Comes S (cond t (shifted A (base A env v x)) (constant_series A (env u))) (of_variable t term v x order S)
      unfolding value_node
      variable_walked u e S good true =
          lift_walked (λ P. bind (point_node v x P) (λ p. var p order)) good (gives_next (point_gives good.keeps x) (λ p Q k_q g_q hp. var_gives M env p order k_q hp))
      variable_walked u e S good false = walked_here good (constant (stands good term (inside term c) (from_parts term e)) (λ k. refl))

      node_walked : (y : Node) → node_at P₀ term ≡ y → Each C (parts y) → Allowed A y → (S : State) → Fit S → Comes S (value_node (series A) (as_series A env v x) goal y) (expand_node v x order down term y S)
      unfolding value_node
      node_walked Empty e l ok S good = ended_walk
      node_walked (Variable u) e l ok S good = variable_walked u e S good (eqb u v)
      node_walked (Lit z) e l ok S good = walked_here good (constant (stands good term (inside term c) (from_parts term e)) (λ k. refl))
      node_walked (Add a b) e (ca, (cb, _)) ok S good =
          both_walked walks good a b ca cb (λ s t T good_T hs ht. lift_walked (add_to s t) good_T (add_to_gives M env good_T.keeps hs ht))
      node_walked (Mul a b) e (ca, (cb, _)) ok S good =
          both_walked walks good a b ca cb (λ s t T good_T hs ht. lift_walked (times s t) good_T (times_gives M env good_T.keeps hs ht))
      node_walked (Div a b) e (ca, (cb, _)) ok S good =
          both_walked walks good a b ca cb (λ s t T good_T hs ht. lift_walked (quotient s t) good_T (quotient_gives M D env (goal a) (goal b) ok good_T.keeps hs ht))
      node_walked (Exp a) e (ca, _) ok S good =
          walked_next (walks a ca S good) (λ s T good_T g_t hs. lift_walked (exponential s) good_T (exponential_gives M env (goal a) good_T.keeps hs))
      node_walked (Log a) e (ca, _) ok S good =
          walked_next (walks a ca S good) (λ s T good_T g_t hs. lift_walked (logarithm s) good_T (logarithm_gives M env (goal a) good_T.keeps hs))
      node_walked (Pow a m) e (ca, _) ok S good =
          walked_next (walks a ca S good) (λ s T good_T g_t hs. lift_walked (power s m) good_T (power_gives M D env m ok good_T.keeps hs))
      node_walked (Max a b) e l ok S good = ended_walk

      here_walked : (y : Node) → node_at P₀ term ≡ y → Each C (parts y) → Allowed A y → (S : State) → Fit S → Comes S (goal term) (expand_node v x order down term y S)
      here_walked y e l ok S good =
          subst (λ f. Comes S f (expand_node v x order down term y S))
          (sym (value_law (series A) (as_series A env v x) (node_at P₀) (falling keeps) term ∙ ap (value_node (series A) (as_series A env v x) goal) e))
          (node_walked y e l ok S good)

    at_walked : (down : ℕ → Walk) → Walks (expanding A env n) P₀ goal C down → Walks (expanding A env n) P₀ goal C (expand_at v x order down)
    at_walked down walks i c S good = here_walked walks i c (node_at S.pool i) (sym same) (rw same (closed i c)) (rw same (allowed i c)) S good
      where
        same : node_at S.pool i ≡ node_at P₀ i
        same = earlier_same good.grown i (inside i c)

    pub expansion_gives : (root : ℕ) → C root → Gives P₀ (Expands A env n (goal root)) (expand root v x order P₀)
    expansion_gives root c = expand_gives v x order at_walked keeps root c
