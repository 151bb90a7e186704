-- Substitution: the answer has the value that the root has where the variable is set to the value of the node put in. A part that is given back unchanged has that value already.
-- Assumes nothing.
use mathlib.Core.Path.{◌≡◌, refl, sym, ap, ◌∙◌}
use mathlib.Core.Bool.{Bool, true, false, ◌&&◌, cond, and-eq-true_iff}
use Prim.Native.Nat.{ℕ, ◌<◌}
use lib.Dec.{eqb}
use borrow.Author.Tests.{eqb-true}
use Rattle.pool.specs.declared.node.Node.{Node}
use Rattle.pool.specs.declared.node.Node.TheVariants.{Empty, Variable, Lit, Add, Mul, Div, Exp, Log, Pow, Max}
use Rattle.pool.specs.Nodes.{parts}
use Rattle.pool.specs.Pool.{Pool, done, Run, node_at}
use Rattle.constructors.specs.Build.{depth}
use Rattle.constructor_laws.specs.Keeps.{Keeps}
use Rattle.constructor_laws.proofs.Growth.{earlier_same}
use Rattle.constructor_laws.proofs.Rules.{AllBelow, parts_below}
use Rattle.walks.specs.Walk.{State, Went, Walk, bind, yield, lift}
use Rattle.walks.specs.Substitute.{unless, substitute_node, substitute_at, substitute_var}
use Rattle.walk_laws.proofs.Walking.{Good, Walked, ended_walk, Walks, walked_next, walked_here, both_walked, lift_walked, walk_gives}
use Rattle.meaning.specs.Model.{Algebra, Model, power}
use Rattle.meaning.specs.Value.{Values, value_node, value, Means}
use Rattle.meaning.proofs.Values.{falling, same_op, value_law, value_kept}
use Rattle.meaning.proofs.Running.{has_same, has_first, Is, valued, is_same, TwoMean, OneMeans, calls_mean}
use Rattle.meaning.proofs.Theorems.{meant}
use Rattle.walk_meaning.specs.Setting.{setting}

module _ {A : Algebra} (M : Model A) (env : Values A) {P₀ : Pool} (keeps : Keeps P₀) (var given : ℕ) (below : given < P₀.count) where
  open A use {carrier}

  abbrev val : Pool → ℕ → carrier
  val P i = value A env (node_at P) i

  -- the variable set to the value of the node put in
  abbrev set_values : Values A
  set_values = setting A env var (val P₀ given)

  abbrev goal : ℕ → carrier
  goal i = value A set_values (node_at P₀) i

  abbrev Fit : State → Type 0
  Fit = Good (valued A env) P₀ goal

  abbrev Comes : State → carrier → Went → Type 0
  Comes = Walked (valued A env) P₀ goal

  -- the value of a node, from its parts' values
  from_parts : (i : ℕ) {x : Node} → node_at P₀ i ≡ x → val P₀ i ≡ value_node A env (val P₀) x
  from_parts i e = value_law A env (node_at P₀) (falling keeps) i ∙ ap (value_node A env (val P₀)) e

  goal_from_parts : (i : ℕ) {x : Node} → node_at P₀ i ≡ x → goal i ≡ value_node A set_values goal x
  goal_from_parts i e = value_law A set_values (node_at P₀) (falling keeps) i ∙ ap (value_node A set_values goal) e

  -- a node that came back has the value that it should have
  came_back : {S : State} → Fit S → (a a2 : ℕ) → a < P₀.count → eqb a a2 ≡ true → Is A env (goal a) S.pool a2 → val P₀ a ≡ goal a
  came_back {S} good a a2 la e ha = sym (value_kept A env keeps good.grown a la) ∙ ap (val S.pool) (eqb-true a a2 e) ∙ ha.is

  module _ {down : ℕ → Walk} (walks : Walks (valued A env) P₀ goal (λ i. i < P₀.count) down) (term : ℕ) (h : term < P₀.count) where
    -- the node itself, where its value is the one that it should have
    itself : {S : State} → Fit S → val P₀ term ≡ goal term → Comes S (goal term) (done term S)
    itself good same = walked_here good (has_same same (has_first A env keeps good.grown h))

    -- a node of two parts: given back if both came back, else built from what came
    two_parts :
        {make : ℕ → ℕ → Run} (op : carrier → carrier → carrier) (a b : ℕ)
        → TwoMean A env make op
        → (a < P₀.count) × (b < P₀.count)
        → val P₀ term ≡ op (val P₀ a) (val P₀ b)
        → goal term ≡ op (goal a) (goal b)
        → (S : State) → Fit S
        → Comes S (goal term) (bind (down a S) (λ a2 T. bind (down b T) (λ b2. unless (eqb a a2 && eqb b b2) term (lift (make a2 b2)))))
    two_parts {make} op a b means (la, lb) here there S good =
        both_walked walks good a b la lb (λ a2 b2 U good_U ha hb. go a2 b2 U good_U ha hb (eqb a a2 && eqb b b2) refl)
      where
        go :
            (a2 b2 : ℕ) (U : State) → Fit U → Is A env (goal a) U.pool a2 → Is A env (goal b) U.pool b2
            → (t : Bool) → (eqb a a2 && eqb b b2) ≡ t → Comes U (goal term) (unless t term (lift (make a2 b2)) U)
        go a2 b2 U good_U ha hb true t =
            let both = (and-eq-true_iff (eqb a a2) (eqb b b2)).0 t in
            itself good_U (here ∙ same_op op (came_back good_U a a2 la both.0 ha) (came_back good_U b b2 lb both.1 hb) ∙ sym there)
        go a2 b2 U good_U ha hb false t =
            lift_walked (make a2 b2) good_U (is_same (sym there) (means U.pool good_U.keeps a2 b2 _ _ ha hb))

    one_part :
        {make : ℕ → Run} (op : carrier → carrier) (a : ℕ)
        → OneMeans A env make op
        → a < P₀.count
        → val P₀ term ≡ op (val P₀ a)
        → goal term ≡ op (goal a)
        → (S : State) → Fit S
        → Comes S (goal term) (bind (down a S) (λ a2. unless (eqb a a2) term (lift (make a2))))
    one_part {make} op a means la here there S good =
        walked_next (walks a la S good) (λ a2 T good_T g_t ha. go a2 T good_T ha (eqb a a2) refl)
      where
        go : (a2 : ℕ) (U : State) → Fit U → Is A env (goal a) U.pool a2 → (t : Bool) → eqb a a2 ≡ t → Comes U (goal term) (unless t term (lift (make a2)) U)
        go a2 U good_U ha true t = itself good_U (here ∙ ap op (came_back good_U a a2 la t ha) ∙ sym there)
        go a2 U good_U ha false t = lift_walked (make a2) good_U (is_same (sym there) (means U.pool good_U.keeps a2 _ ha))

    variable_walked : (v : ℕ) → node_at P₀ term ≡ Variable v → (S : State) → Fit S → Comes S (goal term) (yield (cond (eqb v var) given term) S)
    unfolding value_node
    variable_walked v e S good = go (eqb v var) (from_parts term e) (goal_from_parts term e)
      where
        go : (t : Bool) → val P₀ term ≡ env v → goal term ≡ cond t (val P₀ given) (env v) → Comes S (goal term) (yield (cond t given term) S)
        go true here there = walked_here good (has_same (sym there) (has_first A env keeps good.grown below))
        go false here there = itself good (here ∙ sym there)

    node_walked :
        (x : Node) → node_at P₀ term ≡ x → AllBelow P₀.count (parts x) → (S : State) → Fit S → Comes S (goal term) (substitute_node var given down term x S)
    unfolding value_node
    node_walked Empty e l S good = ended_walk
    node_walked (Variable v) e l S good = variable_walked v e S good
    node_walked (Lit z) e l S good = itself good (from_parts term e ∙ sym (goal_from_parts term e))
    node_walked (Add a b) e (la, (lb, _)) S good = two_parts A.plus a b (calls_mean M env depth).add_at (la, lb) (from_parts term e) (goal_from_parts term e) S good
    node_walked (Mul a b) e (la, (lb, _)) S good = two_parts A.times a b (calls_mean M env depth).mul_at (la, lb) (from_parts term e) (goal_from_parts term e) S good
    node_walked (Div a b) e (la, (lb, _)) S good = two_parts A.over a b (calls_mean M env depth).div_at (la, lb) (from_parts term e) (goal_from_parts term e) S good
    node_walked (Exp a) e (la, _) S good = one_part A.exp a (calls_mean M env depth).exp_at la (from_parts term e) (goal_from_parts term e) S good
    node_walked (Log a) e (la, _) S good = one_part A.log a (calls_mean M env depth).log_at la (from_parts term e) (goal_from_parts term e) S good
    node_walked (Pow a n) e (la, _) S good = one_part (λ x. power A x n) a ((calls_mean M env depth).pow_at n) la (from_parts term e) (goal_from_parts term e) S good
    node_walked (Max a b) e (la, (lb, _)) S good = two_parts A.max a b (calls_mean M env depth).max_at (la, lb) (from_parts term e) (goal_from_parts term e) S good

  at_walked : (down : ℕ → Walk) → Walks (valued A env) P₀ goal (λ i. i < P₀.count) down → Walks (valued A env) P₀ goal (λ i. i < P₀.count) (substitute_at var given down)
  at_walked down walks i h S good = node_walked walks i h (node_at S.pool i) (sym same) (rw same (parts_below keeps i)) S good
    where
      same : node_at S.pool i ≡ node_at P₀ i
      same = earlier_same good.grown i h

  -- an accepted substitution: the answer's value is the root's with the variable set to the value of the node put in, and all earlier values stand
  pub substitution_means : {i : ℕ} {Q : Pool} (root : ℕ) → root < P₀.count → substitute_var root var given P₀ ≡ done i Q → Means A env P₀ (goal root) i Q
  unfolding substitute_var
  substitution_means root h e = meant M env keeps (walk_gives at_walked keeps root h) e
