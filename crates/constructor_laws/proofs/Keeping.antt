-- Every constructor keeps the rules of the pool, at any depth: given nodes of a pool that keeps them, it answers a node of a pool that keeps them. Appending a fine node does, a sound term does where the calls in it do, the tables are sound, and the rest is induction on the depth.
-- Assumes nothing.
use Rattle.std.specs.Prelude.{Ok, Err}
use mathlib.Core.Path.{◌≡◌, refl, subst}
use mathlib.Core.Bool.{Bool, true, false, cond}
use Prim.Native.Nat.{ℕ, zero, suc, ◌≤◌, ◌<◌}
use native.Mathlib.Nat.{le_refl}
use native.Mathlib.Omega.{arith}
use lib.Dec.{leb}
use lib.IntN.{ℤ, pos}
use Rattle.refusals.specs.Refusals.{exponent_too_large, too_deep, no_exp_or_log, out_of_range}
use Rattle.literal.specs.Literal.{is_literal, is_zero, is_one, folded, exp_of, log_of}
use Rattle.literal.specs.Literal.{Folded}
use Rattle.pool.specs.declared.node.Node.{Node}
use Rattle.pool.specs.declared.node.Node.TheVariants as node
use Rattle.pool.specs.Nodes.{greatest_variable, greatest_exponent}
use Rattle.pool.specs.Pool.{Pool, Out, done, refused, Run, bind, yield, refuse, append, node_at}
use Rattle.constructors.specs.Terms.{Term, #, lit, lit_exp, lit_log, add, mul, exp, log, pow, Add, Mul, Div, Max, Exp, Log, Pow}
use Rattle.constructors.specs.Tables.{add_table, mul_table, div_table, neg_table, exp_table, log_table, pow_table, max_table}
use Rattle.constructors.specs.Build.{Calls, literal, if_exponent_fits, build, no_calls, deeper, calls}
use Rattle.constructor_laws.specs.Grown.{Grown}
use Rattle.constructor_laws.specs.Keeps.{Keeps, Kept, KeptBy}
use Rattle.constructor_laws.proofs.Growth.{grown_by_nothing, grown_by_both}
use Rattle.constructor_laws.proofs.Rules.{PartsBelow, parts_below}
use Rattle.constructor_laws.proofs.Coding.{Fine, fine_with_more}
use Rattle.constructor_laws.proofs.Appending.{append_kept}
use Rattle.constructor_laws.proofs.Soundness.{Sound, add_sound, mul_sound, div_sound, max_sound, neg_sound, exp_sound, log_sound, pow_sound}

-- ---- pieces of work

-- work that keeps the rules of every pool with n nodes or more
pub record Keeping (n : ℕ) (run : Run) : Type 0 where
  pub kept : (P : Pool) → Keeps P → n ≤ P.count → KeptBy P (run P)

pub accepted_kept : {P Q : Pool} {i : ℕ} {o : Out} → KeptBy P o → o ≡ done i Q → Kept P i Q
accepted_kept {P} k e = subst (KeptBy P) e k

-- what is kept from the grown pool on is kept from the first on
pub kept_from : {P Q : Pool} → Grown P Q → (o : Out) → KeptBy Q o → KeptBy P o
kept_from g (done i R) k = record { grown = grown_by_both g k.grown; keeps = k.keeps; there = k.there }
kept_from g (refused r) k = tt

pub yield_keeps : {n a : ℕ} → a < n → Keeping n (yield a)
yield_keeps {n} {a} h = record { kept = λ P k more. record { grown = grown_by_nothing P; keeps = k; there = omega arith } }

pub refuse_keeps : {n : ℕ} (r : ℕ) → Keeping n (refuse r)
refuse_keeps r = record { kept = λ P k more. tt }

-- one piece of work, and then another that may use its node
pub next_keeps : {n : ℕ} {run : Run} {last : ℕ → Run} → Keeping n run → ((m a : ℕ) → n ≤ m → a < m → Keeping m (last a)) → Keeping n (λ P. bind (run P) last)
next_keeps {n} {run} {last} first next = record { kept = λ P k more. go P more (run P) (first.kept P k more) }
  where
    go : (P : Pool) → n ≤ P.count → (o : Out) → KeptBy P o → KeptBy P (bind o last)
    go P more (done a Q) k =
        let grown : P.count ≤ Q.count = k.grown.no_fewer in
        kept_from k.grown (last a Q) ((next Q.count a (omega arith) k.there).kept Q k.keeps (le_refl Q.count))
    go P more (refused r) k = tt

later_keeps : {n m : ℕ} {run : Run} → n ≤ m → Keeping n run → Keeping m run
later_keeps le w = record { kept = λ P k more. w.kept P k (omega arith) }

-- two pieces of work, and then one that may use both nodes
pub both_keep :
    {n : ℕ} {left right : Run} {last : ℕ → ℕ → Run}
    → Keeping n left
    → Keeping n right
    → ((m a b : ℕ) → a < m → b < m → Keeping m (last a b))
    → Keeping n (λ P. bind (left P) (λ a Q. bind (right Q) (λ b. last a b)))
both_keep first second next =
    next_keeps first (λ m a more h. next_keeps (later_keeps more second) (λ m' b more' h'. next m' a b (omega arith) h'))

pub append_keeps : {n : ℕ} {x : Node} → Fine n x → Keeping n (append x)
append_keeps {n} {x} fine = record { kept = λ P k more. append_kept x P k (fine_with_more more fine) }

-- 13. an exponent that is too large is refused before it is used
pub exponent_keeps : {n : ℕ} (fits : Bool) {run : Run} → Keeping n run → Keeping n (if_exponent_fits fits run)
exponent_keeps true work = work
exponent_keeps false work = refuse_keeps exponent_too_large

-- ---- literals

-- a number, if there is one, in the literal range
abbrev InLiterals : Folded → Type 0
InLiterals (Ok z) = is_literal z ≡ true
InLiterals (Err k) = Unit {0}

picked_in_literals : (t : Bool) (z : ℤ) (k : ℕ) → (t ≡ true → is_literal z ≡ true) → InLiterals (cond t (Ok z) (Err k))
picked_in_literals true z k h = h refl
picked_in_literals false z k h = tt

pub literal_keeps : {n : ℕ} (f : Folded) → InLiterals f → Keeping n (literal f)
literal_keeps (Ok z) h = append_keeps (record { below = tt; range = h })
literal_keeps (Err k) h = refuse_keeps k

pub folded_keeps : {n : ℕ} (z : ℤ) → Keeping n (literal (folded z))
unfolding folded
folded_keeps z = literal_keeps (folded z) (picked_in_literals (is_literal z) z out_of_range (λ t. t))

-- ---- the constructors

-- constructors of two nodes, and of one
abbrev pub KeepTwo : (ℕ → ℕ → Run) → Type 0
KeepTwo make = (n lhs rhs : ℕ) → lhs < n → rhs < n → Keeping n (make lhs rhs)

abbrev pub KeepOne : (ℕ → Run) → Type 0
KeepOne make = (n arg : ℕ) → arg < n → Keeping n (make arg)

-- constructors that keep the rules
pub record AllKeep (c : Calls) : Type 0 where
  pub add_at : KeepTwo c.add_at
  pub mul_at : KeepTwo c.mul_at
  pub div_at : KeepTwo c.div_at
  pub max_at : KeepTwo c.max_at
  pub neg_at : KeepOne c.neg_at
  pub exp_at : KeepOne c.exp_at
  pub log_at : KeepOne c.log_at
  pub pow_at : (e : ℕ) → KeepOne (λ base. c.pow_at base e)

pub build_keeps : {c : Calls} → AllKeep c → {n : ℕ} (t : Term) → Sound n t → Keeping n (build c t)
unfolding build exp_of log_of
build_keeps k (# a) h = yield_keeps h
build_keeps k (lit z) h = folded_keeps z
build_keeps k (lit_exp z) h = literal_keeps (exp_of z) (picked_in_literals (is_zero z) (pos 1) no_exp_or_log (λ t. refl))
build_keeps k (lit_log z) h = literal_keeps (log_of z) (picked_in_literals (is_one z) (pos 0) no_exp_or_log (λ t. refl))
build_keeps k (add s t) h = both_keep (build_keeps k s h.0) (build_keeps k t h.1) k.add_at
build_keeps k (mul s t) h = both_keep (build_keeps k s h.0) (build_keeps k t h.1) k.mul_at
build_keeps k (exp t) h = next_keeps (build_keeps k t h) (λ m a more. k.exp_at m a)
build_keeps k (log t) h = next_keeps (build_keeps k t h) (λ m a more. k.log_at m a)
build_keeps k (pow t e) h = next_keeps (build_keeps k t h) (λ m a more l. exponent_keeps (leb e greatest_exponent) (k.pow_at e m a l))
build_keeps k (Add s t) h = both_keep (build_keeps k s h.0) (build_keeps k t h.1) (λ m a b l r. append_keeps (record { below = (l, (r, tt)); range = tt }))
build_keeps k (Mul s t) h = both_keep (build_keeps k s h.0) (build_keeps k t h.1) (λ m a b l r. append_keeps (record { below = (l, (r, tt)); range = tt }))
build_keeps k (Div s t) h = both_keep (build_keeps k s h.0) (build_keeps k t h.1) (λ m a b l r. append_keeps (record { below = (l, (r, tt)); range = tt }))
build_keeps k (Max s t) h = both_keep (build_keeps k s h.0) (build_keeps k t h.1) (λ m a b l r. append_keeps (record { below = (l, (r, tt)); range = tt }))
build_keeps k (Exp t) h = next_keeps (build_keeps k t h) (λ m a more l. append_keeps (record { below = (l, tt); range = tt }))
build_keeps k (Log t) h = next_keeps (build_keeps k t h) (λ m a more l. append_keeps (record { below = (l, tt); range = tt }))
build_keeps k (Pow t e) h = next_keeps (build_keeps k t h.0) (λ m a more l. append_keeps (record { below = (l, tt); range = h.1 }))

-- a table that is sound on every pool that it finds
pub table_keeps :
    {c : Calls} → AllKeep c → {n : ℕ} (table : (ℕ → Node) → Term) → ((m : ℕ) → n ≤ m → (at : ℕ → Node) → PartsBelow m at → Sound m (table at)) → Keeping n (λ P. build c (table (node_at P)) P)
table_keeps k table sound =
    record { kept = λ P k_p more. (build_keeps k (table (node_at P)) (sound P.count more (node_at P) (parts_below k_p))).kept P k_p (le_refl P.count) }

two_deeper :
    {c : Calls}
    → AllKeep c
    → (table : (ℕ → Node) → ℕ → ℕ → Term)
    → ((n : ℕ) (at : ℕ → Node) → PartsBelow n at → (lhs rhs : ℕ) → lhs < n → rhs < n → Sound n (table at lhs rhs))
    → KeepTwo (λ lhs rhs P. build c (table (node_at P) lhs rhs) P)
two_deeper k table sound n lhs rhs l r = table_keeps k (λ at. table at lhs rhs) (λ m more at below. sound m at below lhs rhs (omega arith) (omega arith))

one_deeper :
    {c : Calls}
    → AllKeep c
    → (table : (ℕ → Node) → ℕ → Term)
    → ((n : ℕ) (at : ℕ → Node) → PartsBelow n at → (arg : ℕ) → arg < n → Sound n (table at arg))
    → KeepOne (λ arg P. build c (table (node_at P) arg) P)
one_deeper k table sound n arg l = table_keeps k (λ at. table at arg) (λ m more at below. sound m at below arg (omega arith))

pub deeper_keep : {c : Calls} → AllKeep c → AllKeep (deeper c)
deeper_keep k =
    record {
      add_at = two_deeper k add_table add_sound;
      mul_at = two_deeper k mul_table mul_sound;
      div_at = two_deeper k div_table div_sound;
      max_at = two_deeper k max_table max_sound;
      neg_at = one_deeper k neg_table neg_sound;
      exp_at = one_deeper k exp_table exp_sound;
      log_at = one_deeper k log_table log_sound;
      pow_at = λ e. one_deeper k (λ at base. pow_table at base e) (λ n at below base h. pow_sound n at below base h e);
    }

none_keep : AllKeep no_calls
none_keep =
    record {
      add_at = λ n lhs rhs l r. refuse_keeps too_deep;
      mul_at = λ n lhs rhs l r. refuse_keeps too_deep;
      div_at = λ n lhs rhs l r. refuse_keeps too_deep;
      max_at = λ n lhs rhs l r. refuse_keeps too_deep;
      neg_at = λ n arg l. refuse_keeps too_deep;
      exp_at = λ n arg l. refuse_keeps too_deep;
      log_at = λ n arg l. refuse_keeps too_deep;
      pow_at = λ e n base l. refuse_keeps too_deep;
    }

-- with any depth left, every constructor keeps the rules
pub calls_keep : (left : ℕ) → AllKeep (calls left)
unfolding calls
calls_keep zero = none_keep
calls_keep (suc left) = deeper_keep (calls_keep left)

-- ---- what a caller has

-- on the pool as the call finds it
on_this : {P : Pool} {run : Run} → Keeps P → Keeping P.count run → KeptBy P (run P)
on_this {P} k w = w.kept P k (le_refl P.count)

module _ {P : Pool} (k : Keeps P) where
  pub lit_kept : (z : ℤ) → is_literal z ≡ true → KeptBy P (append (node.Lit z) P)
  lit_kept z h = append_kept (node.Lit z) P k (record { below = tt; range = h })

  pub var_kept : (v : ℕ) → v ≤ greatest_variable → KeptBy P (append (node.Variable v) P)
  var_kept v h = append_kept (node.Variable v) P k (record { below = tt; range = h })

  module _ (left lhs rhs : ℕ) (l : lhs < P.count) (r : rhs < P.count) where
    pub add_kept : KeptBy P ((calls left).add_at lhs rhs P)
    add_kept = on_this k ((calls_keep left).add_at P.count lhs rhs l r)

    pub mul_kept : KeptBy P ((calls left).mul_at lhs rhs P)
    mul_kept = on_this k ((calls_keep left).mul_at P.count lhs rhs l r)

    pub div_kept : KeptBy P ((calls left).div_at lhs rhs P)
    div_kept = on_this k ((calls_keep left).div_at P.count lhs rhs l r)

    pub max_kept : KeptBy P ((calls left).max_at lhs rhs P)
    max_kept = on_this k ((calls_keep left).max_at P.count lhs rhs l r)

  module _ (left arg : ℕ) (h : arg < P.count) where
    pub neg_kept : KeptBy P ((calls left).neg_at arg P)
    neg_kept = on_this k ((calls_keep left).neg_at P.count arg h)

    pub exp_kept : KeptBy P ((calls left).exp_at arg P)
    exp_kept = on_this k ((calls_keep left).exp_at P.count arg h)

    pub log_kept : KeptBy P ((calls left).log_at arg P)
    log_kept = on_this k ((calls_keep left).log_at P.count arg h)

    pub pow_kept : (e : ℕ) → KeptBy P ((calls left).pow_at arg e P)
    pow_kept e = on_this k ((calls_keep left).pow_at e P.count arg h)
