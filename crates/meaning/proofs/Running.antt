-- Running a term gives its value: appending a node does, so by induction on the depth every constructor gives the value of its operation.
-- Assumes nothing.
use Rattle.std.specs.Prelude.{Ok, Err}
use mathlib.Core.Path.{◌≡◌, refl, sym, ap, ◌∙◌}
use mathlib.Core.Bool.{Bool, true, false, cond}
use Prim.Native.Nat.{ℕ, zero, suc, ◌<◌}
use native.Mathlib.Omega.{arith}
use lib.Dec.{leb}
use lib.IntN.{ℤ, pos, negsuc}
use Rattle.refusals.specs.Refusals.{no_exp_or_log, out_of_range}
use Rattle.literal.specs.Literal.{is_literal, is_zero, is_one, folded, exp_of, log_of}
use Rattle.pool.specs.declared.node.Node.{Node}
use Rattle.pool.specs.declared.node.Node.TheVariants as node
use Rattle.pool.specs.Nodes.{parts, greatest_exponent}
use Rattle.pool.specs.Pool.{Pool, Result, Run, bind, append, node_at}
use Rattle.constructors.specs.Terms.{Term, #, lit, lit_exp, lit_log, add, mul, exp, log, pow, Add, Mul, Div, Max, Exp, Log, Pow}
use Rattle.constructors.specs.Build.{Calls, literal, if_exponent_fits, build, no_calls, deeper, calls}
use Rattle.constructor_laws.specs.Grown.{Grown}
use Rattle.constructor_laws.specs.Keeps.{Keeps}
use Rattle.constructor_laws.proofs.Growth.{grown_by_nothing, grown_by_both}
use Rattle.constructor_laws.proofs.Rules.{parts_below}
use Rattle.constructor_laws.proofs.Coding.{Fine}
use Rattle.constructor_laws.proofs.Soundness.{Sound, add_sound, mul_sound, div_sound, max_sound, neg_sound, exp_sound, log_sound, pow_sound}
use Rattle.constructor_laws.proofs.Giving.{Aims, Gives, ended, gives_weaker, gives_here, gives_next, append_gives}
use Rattle.meaning.specs.Model.{Algebra, Model, power}
use Rattle.meaning.specs.Value.{Values, value_node, value}
use Rattle.meaning.proofs.Values.{each_below, same_op, falling, node_same, value_law, value_kept}
use Rattle.meaning.proofs.Terms.{zero_is, one_is, Runs, term_value, Right}
use Rattle.meaning.proofs.Tables.{add_right, mul_right, div_right, max_right, neg_right, exp_right, log_right, pow_right}

-- a node of the value x
pub record Has (A : Algebra) (env : Values A) (P : Pool) (i : ℕ) (x : A.carrier) : Type 0 where
  pub below : i < P.count
  pub is : value A env (node_at P) i ≡ x

module _ {A : Algebra} {env : Values A} where
  pub has_later : {P Q : Pool} {i : ℕ} {x : A.carrier} → Keeps P → Grown P Q → Has A env P i x → Has A env Q i x
  has_later {P} {Q} {i} k g h = let l = h.below in record { below = omega (arith, g.no_fewer); is = value_kept A env k g i h.below ∙ h.is }

  pub has_same : {P : Pool} {i : ℕ} {x y : A.carrier} → x ≡ y → Has A env P i x → Has A env P i y
  has_same e h = record { below = h.below; is = h.is ∙ e }

module _ (A : Algebra) (env : Values A) where
  -- a node of the first pool
  pub has_first : {P Q : Pool} {i : ℕ} → Keeps P → Grown P Q → i < P.count → Has A env Q i (value A env (node_at P) i)
  has_first k g h = has_later k g (record { below = h; is = refl })

  abbrev pub Is : A.carrier → Pool → ℕ → Type 0
  Is x Q i = Has A env Q i x

  -- the aims are values, and the nodes of a value meet it
  abbrev pub valued : Aims ℕ
  valued = record { Aim = A.carrier; Meets = Is; later = has_later }

-- with another name for the value
pub is_same : {A : Algebra} {env : Values A} {P : Pool} {x y : A.carrier} {r : Result Pool ℕ} → x ≡ y → Gives P (Is A env x) r → Gives P (Is A env y) r
is_same e h = gives_weaker (λ Q i g s. has_same e s) h

module _ (A : Algebra) (env : Values A) where
  open A use {carrier}

  abbrev val : Pool → ℕ → carrier
  val P i = value A env (node_at P) i

  pub node_gives : {P : Pool} {x : Node} → Keeps P → Fine P.count x → Gives P (Is A env (value_node A env (val P) x)) (append x P)
  node_gives {P} {x} k fine = append_gives k fine (λ Q k_q g there read. record { below = there; is = is Q k_q g read })
    where
      is : (Q : Pool) → Keeps Q → Grown P Q → node_at Q P.count ≡ x → val Q P.count ≡ value_node A env (val P) x
      is Q k_q g read =
          value_law A env (node_at Q) (falling k_q) P.count
          ∙ ap (value_node A env (val Q)) read
          ∙ node_same A env (val Q) (val P) x (each_below (parts x) fine.below (value_kept A env k g))

  -- ---- literals

  picked_gives :
      {P : Pool} → Keeps P → (t : Bool) (z : ℤ) (k : ℕ) → (t ≡ true → is_literal z ≡ true) → Gives P (λ Q i. (t ≡ true) × Is A env (A.int z) Q i) (literal (cond t (Ok z) (Err k)) P)
  unfolding value_node
  picked_gives {P} k_p true z k fits = gives_weaker (λ Q i g h. (refl, h)) (node_gives {x = node.Lit z} k_p (record { below = tt; range = fits refl }))
  picked_gives k_p false z k fits = ended

  pub literal_gives : {P : Pool} → Keeps P → (z : ℤ) → Gives P (Is A env (A.int z)) (literal (folded z) P)
  unfolding folded
  literal_gives k z = gives_weaker (λ Q i g h. h.1) (picked_gives k (is_literal z) z out_of_range (λ t. t))

  -- ---- the constructors

  -- constructors of two nodes and of one that give the value of an operation
  abbrev pub TwoMean : (ℕ → ℕ → Run) → (carrier → carrier → carrier) → Type 0
  TwoMean make op = (P : Pool) → Keeps P → (a b : ℕ) (x y : carrier) → Is A env x P a → Is A env y P b → Gives P (Is A env (op x y)) (make a b P)

  abbrev pub OneMeans : (ℕ → Run) → (carrier → carrier) → Type 0
  OneMeans make op = (P : Pool) → Keeps P → (a : ℕ) (x : carrier) → Is A env x P a → Gives P (Is A env (op x)) (make a P)

  pub record AllMean (c : Calls) : Type 0 where
    pub add_at : TwoMean c.add_at A.plus
    pub mul_at : TwoMean c.mul_at A.times
    pub div_at : TwoMean c.div_at A.over
    pub max_at : TwoMean c.max_at A.max
    pub neg_at : OneMeans c.neg_at (A.times (A.int (negsuc 0)))
    pub exp_at : OneMeans c.exp_at A.exp
    pub log_at : OneMeans c.log_at A.log
    pub pow_at : (e : ℕ) → OneMeans (λ base. c.pow_at base e) (λ x. power A x e)

  -- the plain nodes
  plain_two : (make : ℕ → ℕ → Node) (op : carrier → carrier → carrier) → ((n a b : ℕ) → a < n → b < n → Fine n (make a b)) → ((f : ℕ → carrier) (a b : ℕ) → value_node A env f (make a b) ≡ op (f a) (f b)) → TwoMean (λ a b. append (make a b)) op
  plain_two make op fine law P k a b x y ha hb = is_same (law (val P) a b ∙ same_op op ha.is hb.is) (node_gives k (fine P.count a b ha.below hb.below))

  plain_one : (make : ℕ → Node) (op : carrier → carrier) → ((n a : ℕ) → a < n → Fine n (make a)) → ((f : ℕ → carrier) (a : ℕ) → value_node A env f (make a) ≡ op (f a)) → OneMeans (λ a. append (make a)) op
  plain_one make op fine law P k a x ha = is_same (law (val P) a ∙ ap op ha.is) (node_gives k (fine P.count a ha.below))

  -- 13. an exponent that is too large is refused
  exponent_means : (fits : Bool) {make : ℕ → Run} (op : carrier → carrier) → OneMeans make op → OneMeans (λ a. if_exponent_fits fits (make a)) op
  exponent_means true op h = h
  exponent_means false op h = λ P k a x ha. ended

  none_mean : AllMean no_calls
  none_mean =
      record {
        add_at = λ P k a b x y ha hb. ended;
        mul_at = λ P k a b x y ha hb. ended;
        div_at = λ P k a b x y ha hb. ended;
        max_at = λ P k a b x y ha hb. ended;
        neg_at = λ P k a x ha. ended;
        exp_at = λ P k a x ha. ended;
        log_at = λ P k a x ha. ended;
        pow_at = λ e P k a x ha. ended;
      }

module _ {A : Algebra} (M : Model A) (env : Values A) where
  open A use {carrier}

  -- terms of nodes of P₀, run on it or on a pool that has grown from it
  module _ {P₀ : Pool} (k₀ : Keeps P₀) where
    abbrev val₀ : ℕ → carrier
    val₀ i = value A env (node_at P₀) i

    -- a term that was run: it is one that is not refused, and the answer has its value
    abbrev Ran : Term → Pool → ℕ → Type 0
    Ran t Q i = Runs t × Is A env (term_value A val₀ t) Q i

    abbrev Builds : Term → Run → Type 0
    Builds t run = (P : Pool) → Keeps P → Grown P₀ P → Gives P (Ran t) (run P)

    -- both arguments, left first, and then the operation on them
    both_ran :
        {make : ℕ → ℕ → Run} (op : carrier → carrier → carrier) (s t : Term) {left right : Run}
        → TwoMean A env make op
        → Builds s left
        → Builds t right
        → (P : Pool) → Keeps P → Grown P₀ P
        → Gives P (λ Q i. (Runs s × Runs t) × Is A env (op (term_value A val₀ s) (term_value A val₀ t)) Q i) (bind (left P) (λ a Q. bind (right Q) (λ b. make a b)))
    both_ran op s t last first second P k g =
        gives_next (first P k g) (λ a Q k_q g_q ha.
        gives_next (second Q k_q (grown_by_both g g_q)) (λ b R k_r g_r hb.
        gives_weaker (λ U i g_u h. ((ha.0, hb.0), h)) (last R k_r a b _ _ (has_later k_q g_r ha.1) hb.1)))

    one_ran :
        {make : ℕ → Run} (op : carrier → carrier) (t : Term) {arg : Run}
        → OneMeans A env make op
        → Builds t arg
        → (P : Pool) → Keeps P → Grown P₀ P
        → Gives P (λ Q i. Runs t × Is A env (op (term_value A val₀ t)) Q i) (bind (arg P) (λ a. make a))
    one_ran op t last first P k g = gives_next (first P k g) (λ a Q k_q g_q ha. gives_weaker (λ U i g_u h. (ha.0, h)) (last Q k_q a _ ha.1))

    build_means : {c : Calls} → AllMean A env c → (t : Term) → Sound P₀.count t → Builds t (build c t)
    unfolding build folded exp_of log_of value_node
    build_means c (# a) h P k g = gives_here k (tt, has_first A env k₀ g h)
    build_means c (lit z) h P k g = gives_weaker (λ Q i g_q e. (tt, e)) (literal_gives A env k z)
    build_means c (lit_exp z) h P k g =
        gives_weaker (λ Q i g_q e. (e.0, has_same (sym (ap (λ n. A.exp (A.int n)) (zero_is z e.0) ∙ M.exp_zero)) e.1)) (picked_gives A env k (is_zero z) (pos 1) no_exp_or_log (λ t. refl))
    build_means c (lit_log z) h P k g =
        gives_weaker (λ Q i g_q e. (e.0, has_same (sym (ap (λ n. A.log (A.int n)) (one_is z e.0) ∙ M.log_one)) e.1)) (picked_gives A env k (is_one z) (pos 0) no_exp_or_log (λ t. refl))
    build_means c (add s t) h P k g = both_ran A.plus s t c.add_at (build_means c s h.0) (build_means c t h.1) P k g
    build_means c (mul s t) h P k g = both_ran A.times s t c.mul_at (build_means c s h.0) (build_means c t h.1) P k g
    build_means c (exp t) h P k g = one_ran A.exp t c.exp_at (build_means c t h) P k g
    build_means c (log t) h P k g = one_ran A.log t c.log_at (build_means c t h) P k g
    build_means c (pow t e) h P k g = one_ran (λ x. power A x e) t (exponent_means A env (leb e greatest_exponent) (λ x. power A x e) (c.pow_at e)) (build_means c t h) P k g
    build_means c (Add s t) h P k g =
        both_ran A.plus s t (plain_two A env node.Add A.plus (λ n a b l r. record { below = (l, (r, tt)); range = tt }) (λ f a b. refl)) (build_means c s h.0) (build_means c t h.1) P k g
    build_means c (Mul s t) h P k g =
        both_ran A.times s t (plain_two A env node.Mul A.times (λ n a b l r. record { below = (l, (r, tt)); range = tt }) (λ f a b. refl)) (build_means c s h.0) (build_means c t h.1) P k g
    build_means c (Div s t) h P k g =
        both_ran A.over s t (plain_two A env node.Div A.over (λ n a b l r. record { below = (l, (r, tt)); range = tt }) (λ f a b. refl)) (build_means c s h.0) (build_means c t h.1) P k g
    build_means c (Max s t) h P k g =
        both_ran A.max s t (plain_two A env node.Max A.max (λ n a b l r. record { below = (l, (r, tt)); range = tt }) (λ f a b. refl)) (build_means c s h.0) (build_means c t h.1) P k g
    build_means c (Exp t) h P k g = one_ran A.exp t (plain_one A env node.Exp A.exp (λ n a l. record { below = (l, tt); range = tt }) (λ f a. refl)) (build_means c t h) P k g
    build_means c (Log t) h P k g = one_ran A.log t (plain_one A env node.Log A.log (λ n a l. record { below = (l, tt); range = tt }) (λ f a. refl)) (build_means c t h) P k g
    build_means c (Pow t e) h P k g =
        one_ran (λ x. power A x e) t (plain_one A env (λ a. node.Pow a e) (λ x. power A x e) (λ n a l. record { below = (l, tt); range = h.1 }) (λ f a. refl)) (build_means c t h.0) P k g

    -- a table that gives the right term on the pool as it is found
    table_means : {c : Calls} {x y : carrier} {t : Term} → AllMean A env c → Sound P₀.count t → Right A val₀ x t → x ≡ y → Gives P₀ (Is A env y) (build c t P₀)
    table_means {t = t} c sound right same = gives_weaker (λ Q i g ran. has_same (right.same ran.0 ∙ same) ran.1) (build_means c t sound P₀ k₀ (grown_by_nothing P₀))

    law_of : (i : ℕ) → val₀ i ≡ value_node A env val₀ (node_at P₀ i)
    law_of = value_law A env (node_at P₀) (falling k₀)

  pub deeper_mean : {c : Calls} → AllMean A env c → AllMean A env (deeper c)
  deeper_mean c =
      record {
        add_at = λ P k a b x y ha hb. table_means k c (add_sound P.count (node_at P) (parts_below k) a b ha.below hb.below) (add_right M env (node_at P) (val₀ k) (law_of k) a b) (same_op A.plus ha.is hb.is);
        mul_at = λ P k a b x y ha hb. table_means k c (mul_sound P.count (node_at P) (parts_below k) a b ha.below hb.below) (mul_right M env (node_at P) (val₀ k) (law_of k) a b) (same_op A.times ha.is hb.is);
        div_at = λ P k a b x y ha hb. table_means k c (div_sound P.count (node_at P) (parts_below k) a b ha.below hb.below) (div_right M env (node_at P) (val₀ k) (law_of k) a b) (same_op A.over ha.is hb.is);
        max_at = λ P k a b x y ha hb. table_means k c (max_sound P.count (node_at P) (parts_below k) a b ha.below hb.below) (max_right M env (node_at P) (val₀ k) (law_of k) a b) (same_op A.max ha.is hb.is);
        neg_at = λ P k a x ha. table_means k c (neg_sound P.count (node_at P) (parts_below k) a ha.below) (neg_right M env (node_at P) (val₀ k) (law_of k) a) (ap (A.times (A.int (negsuc 0))) ha.is);
        exp_at = λ P k a x ha. table_means k c (exp_sound P.count (node_at P) (parts_below k) a ha.below) (exp_right M env (node_at P) (val₀ k) (law_of k) a) (ap A.exp ha.is);
        log_at = λ P k a x ha. table_means k c (log_sound P.count (node_at P) (parts_below k) a ha.below) (log_right M env (node_at P) (val₀ k) (law_of k) a) (ap A.log ha.is);
        pow_at = λ e P k a x ha. table_means k c (pow_sound P.count (node_at P) (parts_below k) a ha.below e) (pow_right M env (node_at P) (val₀ k) (law_of k) a e) (ap (λ x. power A x e) ha.is);
      }

  -- with any depth left, every constructor gives the value of its operation
  pub calls_mean : (left : ℕ) → AllMean A env (calls left)
  unfolding calls
  calls_mean zero = none_mean A env
  calls_mean (suc left) = deeper_mean (calls_mean left)
