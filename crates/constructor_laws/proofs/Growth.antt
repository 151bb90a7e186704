-- Every constructor only appends, whatever the pool, the arguments and the depth: appending does, one piece of work after another does where both do, so a term does where the calls in it do, and the rest is induction on the depth.
-- Assumes nothing.
use Rattle.std.specs.Prelude.{Ok, Err}
use mathlib.Core.Path.{◌≡◌, refl, sym, ap, ◌∙◌}
use mathlib.Core.Bool.{Bool, true, false, ◌&&◌, cond}
use mathlib.Core.List.{List}
use Prim.Native.Nat.{ℕ, zero, suc, ◌+◌, ◌-◌, ◌≤◌, ◌<◌}
use native.Mathlib.Omega.{arith}
use lib.Dec.{leb, ltb}
use lib.ListN.{get_or, take, drop, set, length-set}
use lib.Seq.{take-take, drop-drop, take-set-le, drop-set-lt, get_or-take}
use borrow.Author.Tests.{ltb-true}
use Rattle.refusals.specs.Refusals.{exponent_too_large, too_deep, pool_full}
use Rattle.literal.specs.Literal.{folded, exp_of, log_of}
use Rattle.literal.specs.Literal.{Folded}
use Rattle.pool.specs.declared.node.Node.{Node}
use Rattle.pool.specs.declared.node.Node.TheVariants as node
use Rattle.pool.specs.Nodes.{kind_of, word_of, greatest_exponent}
use Rattle.pool.specs.Pool.{Pool, pool, Out, done, refused, Work, Run, bind, yield, refuse, append, limit, node_at, node_in}
use Rattle.constructors.specs.Terms.{Term, #, lit, lit_exp, lit_log, add, mul, exp, log, pow, Add, Mul, Div, Max, Exp, Log, Pow}
use Rattle.constructors.specs.Tables.{add_table, mul_table, div_table, neg_table, exp_table, log_table, pow_table, max_table}
use Rattle.constructors.specs.Build.{Calls, literal, if_exponent_fits, build, no_calls, deeper, calls}
use Rattle.constructor_laws.specs.Grown.{SameBut, Grown, Grows}
use Rattle.constructor_laws.proofs.Going.{Going, Ways, then_goes, yield_goes, refuse_goes}

-- ---- one table

pub same_but_nothing : (n : ℕ) (t : List ℕ) → SameBut n n t t
same_but_nothing n t = record { before = refl; behind = refl; long = refl }

-- what is the same in both steps is the same in the whole
pub same_but_both : {a b c : ℕ} {t u v : List ℕ} → a ≤ b → b ≤ c → SameBut a b t u → SameBut b c u v → SameBut a c t v
same_but_both {a} {b} {c} {t} {u} {v} ab bc first next =
    record {
      before = shorter_before v u next.before ∙ first.before;
      behind = next.behind ∙ further_behind u t first.behind;
      long = next.long ∙ first.long;
    }
  where
    shorter_before : (x y : List ℕ) → take b x ≡ take b y → take a x ≡ take a y
    shorter_before x y e = sym (take-take a b x ab) ∙ ap (take a) e ∙ take-take a b y ab

    reached : b + (c - b) ≡ c
    reached = omega arith

    further_behind : (x y : List ℕ) → drop b x ≡ drop b y → drop c x ≡ drop c y
    further_behind x y e = rw (← reached) (sym (drop-drop (c - b) b x) ∙ ap (drop (c - b)) e ∙ drop-drop (c - b) b y)

pub same_but_one : (n : ℕ) (t : List ℕ) (a : ℕ) → SameBut n (n + 1) t (set t n a)
same_but_one n t a =
    record {
      before = take-set-le n t n a (omega arith);
      behind = drop-set-lt (n + 1) t n a (omega arith);
      long = length-set t n a;
    }

pub same_entry : {a b : ℕ} {t u : List ℕ} (i : ℕ) → i < a → SameBut a b t u → get_or u i 0 ≡ get_or t i 0
same_entry {a} {b} {t} {u} i h same = sym (get_or-take a u i 0 h) ∙ ap (λ (l : List ℕ). get_or l i 0) same.before ∙ get_or-take a t i 0 h

-- ---- pools

pub grown_by_nothing : (P : Pool) → Grown P P
grown_by_nothing P =
    record {
      no_fewer = omega arith;
      kinds = same_but_nothing P.count P.kinds;
      words = same_but_nothing P.count P.words;
      end = refl;
      within = λ h. h;
    }

pub grown_by_both : {P Q R : Pool} → Grown P Q → Grown Q R → Grown P R
grown_by_both {P} {Q} {R} g h =
    record {
      no_fewer = omega (arith, g.no_fewer, h.no_fewer);
      kinds = same_but_both g.no_fewer h.no_fewer g.kinds h.kinds;
      words = same_but_both g.no_fewer h.no_fewer g.words h.words;
      end = h.end ∙ g.end;
      within = λ w. h.within (g.within w);
    }

-- every earlier expression is what it was
pub earlier_same : {P Q : Pool} → Grown P Q → (i : ℕ) → i < P.count → node_at Q i ≡ node_at P i
unfolding node_in
earlier_same g i h = rw (same_entry i h g.kinds, same_entry i h g.words)

-- ---- pieces of work

-- work that only appends, on any pool
abbrev pub Growing : {A : Type 0} → Work A → Type 0
Growing work = Going Grown work

pub grown_ways : Ways Grown
grown_ways = record { by_nothing = grown_by_nothing; by_both = grown_by_both }

-- one piece of work after the other, so that a proof is the same `do` block as the work
infixl 1 ◌>>=◌
pub ◌>>=◌ : {A B : Type 0} {work : Work A} {next : A → Work B} → Growing work → ((v : A) → Growing (next v)) → Growing (λ P. bind (work P) next)
g >>= h = then_goes grown_ways g h

pub yield_grows : {A : Type 0} (v : A) → Growing (yield v)
yield_grows v = yield_goes grown_ways v

pub refuse_grows : {A : Type 0} (k : ℕ) → Growing (refuse {A = A} k)
refuse_grows k = refuse_goes k

-- the pool with one node more
abbrev pub appended : Node → Pool → Pool
appended n P = pool (set P.kinds P.count (kind_of n)) (set P.words P.count (word_of n)) (P.count + 1) P.end

-- what appending comes to: the node stands at the count, or there was no room
pub append_comes_to :
    (H : Out → Type 0) (n : Node) (P : Pool) → (P.count < P.end → P.count < limit → H (done P.count (appended n P))) → H (refused pool_full) → H (append n P)
unfolding append
append_comes_to H n P there full = go (ltb P.count P.end) (ltb P.count limit) refl refl
  where
    go :
        (room below : Bool) → ltb P.count P.end ≡ room → ltb P.count limit ≡ below → H (cond (room && below) (done P.count (appended n P)) (refused pool_full))
    go true true r b = there (ltb-true P.count P.end r) (ltb-true P.count limit b)
    go true false r b = full
    go false below r b = full

pub appended_grown : (n : Node) (P : Pool) → P.count < limit → Grown P (appended n P)
appended_grown n P below =
    record {
      no_fewer = omega arith;
      kinds = same_but_one P.count P.kinds (kind_of n);
      words = same_but_one P.count P.words (word_of n);
      end = refl;
      within = λ w. omega arith;
    }

pub append_grows : (n : Node) → Growing (append n)
append_grows n = record { grows = λ P. append_comes_to (Grows P) n P (λ room below. appended_grown n P below) tt }

pub literal_grows : (f : Folded) → Growing (literal f)
literal_grows (Ok z) = append_grows (node.Lit z)
literal_grows (Err k) = refuse_grows k

pub exponent_grows : (fits : Bool) {run : Run} → Growing run → Growing (if_exponent_fits fits run)
exponent_grows true g = g
exponent_grows false g = refuse_grows exponent_too_large

-- ---- the constructors

-- constructors that only append
pub record AllGrow (c : Calls) : Type 0 where
  pub add_at : (lhs rhs : ℕ) → Growing (c.add_at lhs rhs)
  pub mul_at : (lhs rhs : ℕ) → Growing (c.mul_at lhs rhs)
  pub div_at : (lhs rhs : ℕ) → Growing (c.div_at lhs rhs)
  pub max_at : (lhs rhs : ℕ) → Growing (c.max_at lhs rhs)
  pub neg_at : (arg : ℕ) → Growing (c.neg_at arg)
  pub exp_at : (arg : ℕ) → Growing (c.exp_at arg)
  pub log_at : (arg : ℕ) → Growing (c.log_at arg)
  pub pow_at : (base e : ℕ) → Growing (c.pow_at base e)

pub build_grows : {c : Calls} → AllGrow c → (t : Term) → Growing (build c t)
unfolding build
build_grows g (# a) = yield_grows a
build_grows g (lit z) = literal_grows (folded z)
build_grows g (lit_exp z) = literal_grows (exp_of z)
build_grows g (lit_log z) = literal_grows (log_of z)
build_grows g (add s t) = do
  a ← build_grows g s
  b ← build_grows g t
  g.add_at a b
build_grows g (mul s t) = do
  a ← build_grows g s
  b ← build_grows g t
  g.mul_at a b
build_grows g (exp t) = do
  a ← build_grows g t
  g.exp_at a
build_grows g (log t) = do
  a ← build_grows g t
  g.log_at a
build_grows g (pow t e) = do
  a ← build_grows g t
  exponent_grows (leb e greatest_exponent) (g.pow_at a e)
build_grows g (Add s t) = do
  a ← build_grows g s
  b ← build_grows g t
  append_grows (node.Add a b)
build_grows g (Mul s t) = do
  a ← build_grows g s
  b ← build_grows g t
  append_grows (node.Mul a b)
build_grows g (Div s t) = do
  a ← build_grows g s
  b ← build_grows g t
  append_grows (node.Div a b)
build_grows g (Max s t) = do
  a ← build_grows g s
  b ← build_grows g t
  append_grows (node.Max a b)
build_grows g (Exp t) = do
  a ← build_grows g t
  append_grows (node.Exp a)
build_grows g (Log t) = do
  a ← build_grows g t
  append_grows (node.Log a)
build_grows g (Pow t e) = do
  a ← build_grows g t
  append_grows (node.Pow a e)

-- a term that is chosen by the pool
pub table_grows : {c : Calls} → AllGrow c → (table : Pool → Term) → Growing (λ P. build c (table P) P)
table_grows g table = record { grows = λ P. (build_grows g (table P)).grows P }

pub deeper_grow : {c : Calls} → AllGrow c → AllGrow (deeper c)
deeper_grow g =
    record {
      add_at = λ lhs rhs. table_grows g (λ P. add_table (node_at P) lhs rhs);
      mul_at = λ lhs rhs. table_grows g (λ P. mul_table (node_at P) lhs rhs);
      div_at = λ lhs rhs. table_grows g (λ P. div_table (node_at P) lhs rhs);
      max_at = λ lhs rhs. table_grows g (λ P. max_table (node_at P) lhs rhs);
      neg_at = λ arg. table_grows g (λ P. neg_table (node_at P) arg);
      exp_at = λ arg. table_grows g (λ P. exp_table (node_at P) arg);
      log_at = λ arg. table_grows g (λ P. log_table (node_at P) arg);
      pow_at = λ base e. table_grows g (λ P. pow_table (node_at P) base e);
    }

none_grow : AllGrow no_calls
none_grow =
    record {
      add_at = λ lhs rhs. refuse_grows too_deep;
      mul_at = λ lhs rhs. refuse_grows too_deep;
      div_at = λ lhs rhs. refuse_grows too_deep;
      max_at = λ lhs rhs. refuse_grows too_deep;
      neg_at = λ arg. refuse_grows too_deep;
      exp_at = λ arg. refuse_grows too_deep;
      log_at = λ arg. refuse_grows too_deep;
      pow_at = λ base e. refuse_grows too_deep;
    }

-- with any depth left, every constructor only appends
pub calls_grow : (left : ℕ) → AllGrow (calls left)
unfolding calls
calls_grow zero = none_grow
calls_grow (suc left) = deeper_grow (calls_grow left)
