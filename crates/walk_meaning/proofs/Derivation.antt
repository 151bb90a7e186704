-- Derivation: the answer's value is the slope of the root by the rules of the calculus, the quotient's with the Rust's sign.
-- Assumes nothing.
use mathlib.Core.Path.{◌≡◌, refl, sym, ap, ◌∙◌}
use mathlib.Core.Bool.{Bool, true, false, cond}
use Prim.Native.Nat.{ℕ, ◌-◌, ◌<◌}
use lib.Dec.{eqb}
use lib.IntN.{ℤ, pos, negsuc}
use Rattle.literal.specs.Literal.{folded}
use Rattle.pool.specs.declared.node.Node.{Node}
use Rattle.pool.specs.declared.node.Node.TheVariants.{Empty, Variable, Lit, Add, Mul, Div, Exp, Log, Pow, Max}
use Rattle.pool.specs.Nodes.{parts}
use Rattle.pool.specs.Pool.{Pool, done, node_at}
use Rattle.constructors.specs.Build.{calls, depth, literal}
use Rattle.constructor_laws.specs.Keeps.{Keeps}
use Rattle.constructor_laws.proofs.Growth.{earlier_same}
use Rattle.constructor_laws.proofs.Rules.{AllBelow, parts_below}
use Rattle.walks.specs.Walk.{State, Went, Walk, bind}
use Rattle.walks.specs.Derive.{lit, add, mul, div, neg, pow, quotient_rule, derive_node, derive_at, derive}
use Rattle.walk_laws.proofs.Walking.{Good, Walked, ended_walk, Walks, walked_next, both_walked, lift_walked, walk_gives}
use Rattle.meaning.specs.Model.{Algebra, Model, power}
use Rattle.meaning.specs.Value.{Values, value_node, value, Means}
use Rattle.meaning.proofs.Values.{falling, value_law}
use Rattle.meaning.proofs.Running.{Has, has_later, has_same, has_first, valued, literal_gives, calls_mean}
use Rattle.meaning.proofs.Theorems.{meant}
use Rattle.walk_meaning.specs.Slope.{quotient_slope, slope_node, slope}
use Rattle.walk_meaning.proofs.Slopes.{slope_law}

module _ {A : Algebra} (M : Model A) (env : Values A) {P₀ : Pool} (keeps : Keeps P₀) (var : ℕ) where
  open A use {carrier, int, plus as ◌⊕◌, times as ◌⊗◌, over as ◌⊘◌, exp}

  infixl 20 ◌⊕◌
  infixl 30 ◌⊗◌ ◌⊘◌
  abbrev val : Pool → ℕ → carrier
  val P i = value A env (node_at P) i

  abbrev goal : ℕ → carrier
  goal i = slope A env var (node_at P₀) i

  abbrev Fit : State → Type 0
  Fit = Good (valued A env) P₀ goal

  abbrev Gives : State → carrier → Went → Type 0
  Gives = Walked (valued A env) P₀ goal

  -- a node of the first pool
  first : {S : State} → Fit S → (i : ℕ) → i < P₀.count → Has A env S.pool i (val P₀ i)
  first good i h = has_first A env keeps good.grown h

  -- ---- the operators

  module _ {S : State} (good : Fit S) where
    lit_gives : (z : ℤ) → Gives S (int z) (lit z S)
    lit_gives z = lift_walked (literal (folded z)) good (literal_gives A env good.keeps z)

    module _ {a b : ℕ} {x y : carrier} (ha : Has A env S.pool a x) (hb : Has A env S.pool b y) where
      add_gives : Gives S (x ⊕ y) (add a b S)
      add_gives = lift_walked ((calls depth).add_at a b) good ((calls_mean M env depth).add_at S.pool good.keeps a b x y ha hb)

      mul_gives : Gives S (x ⊗ y) (mul a b S)
      mul_gives = lift_walked ((calls depth).mul_at a b) good ((calls_mean M env depth).mul_at S.pool good.keeps a b x y ha hb)

      div_gives : Gives S (x ⊘ y) (div a b S)
      div_gives = lift_walked ((calls depth).div_at a b) good ((calls_mean M env depth).div_at S.pool good.keeps a b x y ha hb)

    module _ {a : ℕ} {x : carrier} (ha : Has A env S.pool a x) where
      neg_gives : Gives S (int (negsuc 0) ⊗ x) (neg a S)
      neg_gives = lift_walked ((calls depth).neg_at a) good ((calls_mean M env depth).neg_at S.pool good.keeps a x ha)

      pow_gives : (e : ℕ) → Gives S (power A x e) (pow a e S)
      pow_gives e = lift_walked ((calls depth).pow_at a e) good ((calls_mean M env depth).pow_at e S.pool good.keeps a x ha)

  -- a × db + b × da
  product_gives : {S : State} {a b da db : ℕ} {x y x' y' : carrier} → Fit S → Has A env S.pool a x → Has A env S.pool b y → Has A env S.pool da x' → Has A env S.pool db y' → Gives S (x ⊗ y' ⊕ y ⊗ x') (bind (mul a db S) (λ p T. bind (mul b da T) (λ q. add p q)))
  product_gives good ha hb hda hdb =
      walked_next (mul_gives good ha hdb) (λ p T good_T g_t hp.
      walked_next (mul_gives good_T (has_later good.keeps g_t hb) (has_later good.keeps g_t hda)) (λ q U good_U g_u hq.
      add_gives good_U (has_later good_T.keeps g_u hp) hq))

  -- (a × db - b × da) / b^2
  quotient_gives : {S : State} {a b da db : ℕ} {x y x' y' : carrier} → Fit S → Has A env S.pool a x → Has A env S.pool b y → Has A env S.pool da x' → Has A env S.pool db y' → Gives S (quotient_slope A env var x y x' y') (quotient_rule a b da db S)
  quotient_gives good ha hb hda hdb =
      walked_next (mul_gives good ha hdb) (λ p T good_T g_t hp.
      walked_next (mul_gives good_T (has_later good.keeps g_t hb) (has_later good.keeps g_t hda)) (λ q U good_U g_u hq.
      walked_next (pow_gives good_U (has_later good_T.keeps g_u (has_later good.keeps g_t hb)) 2) (λ b2 R good_R g_r hb2.
      walked_next (neg_gives good_R (has_later good_U.keeps g_r hq)) (λ n W good_W g_w hn.
      walked_next (add_gives good_W (has_later good_R.keeps g_w (has_later good_U.keeps g_r (has_later good_T.keeps g_u hp))) hn) (λ s X good_X g_x hs.
      div_gives good_X hs (has_later good_W.keeps g_x (has_later good_R.keeps g_w hb2)))))))

  -- ---- the nodes

  module _ {down : ℕ → Walk} (walks : Walks (valued A env) P₀ goal (λ i. i < P₀.count) down) (term : ℕ) (h : term < P₀.count) where
    picked : (t : Bool) → int (cond t (pos 1) (pos 0)) ≡ int (cond t (pos 1) (pos 0))
    picked true = refl
    picked false = refl

    from_parts : {x : Node} → node_at P₀ term ≡ x → goal term ≡ slope_node A env var (val P₀) goal x
    from_parts e = slope_law A env var (node_at P₀) (falling keeps) term ∙ ap (slope_node A env var (val P₀) goal) e

    value_from_parts : {x : Node} → node_at P₀ term ≡ x → val P₀ term ≡ value_node A env (val P₀) x
    value_from_parts e = value_law A env (node_at P₀) (falling keeps) term ∙ ap (value_node A env (val P₀)) e

    -- what is done at a node gives its slope from its parts' values and slopes
    node_gives : (x : Node) → node_at P₀ term ≡ x → AllBelow P₀.count (parts x) → (S : State) → Fit S → Gives S (slope_node A env var (val P₀) goal x) (derive_node var down term x S)
    unfolding slope_node value_node
    node_gives Empty e l S good = ended_walk
    node_gives (Variable v) e l S good = rw (sym (picked (eqb v var))) (lit_gives good (cond (eqb v var) (pos 1) (pos 0)))
    node_gives (Lit z) e l S good = lit_gives good (pos 0)
    node_gives (Add a b) e (la, (lb, _)) S good = both_walked walks good a b la lb (λ da db T good_T hda hdb. add_gives good_T hda hdb)
    node_gives (Mul a b) e (la, (lb, _)) S good =
        both_walked walks good a b la lb (λ da db T good_T hda hdb. product_gives good_T (first good_T a la) (first good_T b lb) hda hdb)
    node_gives (Div a b) e (la, (lb, _)) S good =
        both_walked walks good a b la lb (λ da db T good_T hda hdb. quotient_gives good_T (first good_T a la) (first good_T b lb) hda hdb)
    node_gives (Exp a) e (la, _) S good =
        walked_next (walks a la S good) (λ da T good_T g_t hda.
        mul_gives good_T hda (has_same (value_from_parts e) (first good_T term h)))
    node_gives (Log a) e (la, _) S good = walked_next (walks a la S good) (λ da T good_T g_t hda. div_gives good_T hda (first good_T a la))
    node_gives (Pow a n) e (la, _) S good =
        walked_next (walks a la S good) (λ da T good_T g_t hda.
        walked_next (pow_gives good_T (first good_T a la) (n - 1)) (λ p U good_U g_u hp.
        walked_next (lit_gives good_U (pos n)) (λ c R good_R g_r hc.
        walked_next (mul_gives good_R hc (has_later good_U.keeps g_r (has_later good_T.keeps g_u hda))) (λ t W good_W g_w ht.
        mul_gives good_W ht (has_later good_R.keeps g_w (has_later good_U.keeps g_r hp))))))
    node_gives (Max a b) e l S good = ended_walk

    walked_node : (x : Node) → node_at P₀ term ≡ x → AllBelow P₀.count (parts x) → (S : State) → Fit S → Gives S (goal term) (derive_node var down term x S)
    walked_node x e l S good = rw (from_parts e) (node_gives x e l S good)

  at_walked : (down : ℕ → Walk) → Walks (valued A env) P₀ goal (λ i. i < P₀.count) down → Walks (valued A env) P₀ goal (λ i. i < P₀.count) (derive_at var down)
  at_walked down walks i h S good = walked_node walks i h (node_at S.pool i) (sym same) (rw same (parts_below keeps i)) S good
    where
      same : node_at S.pool i ≡ node_at P₀ i
      same = earlier_same good.grown i h

  -- an accepted derivation: the answer's value is the root's slope, and all earlier values stand
  pub derivation_means : {i : ℕ} {Q : Pool} (root : ℕ) → root < P₀.count → derive root var P₀ ≡ done i Q → Means A env P₀ (slope A env var (node_at P₀) root) i Q
  unfolding derive
  derivation_means root h e = meant M env keeps (walk_gives at_walked keeps root h) e
