-- Work on nodes keeps the rules of the pool: constructors and literals do, one piece of work after another does, and so do loops of them over lists.
-- Assumes nothing.
use mathlib.Core.Path.{◌≡◌, refl, ap, subst}
use mathlib.Core.List.{List, [], ◌∷◌, ◌++◌}
use Prim.Native.Nat.{ℕ, zero, suc, ◌+◌, min, ◌≤◌, ◌<◌}
use native.Mathlib.Nat.{le_refl, suc-min-suc, zero-min, min-zero}
use native.Mathlib.Omega.{arith}
use lib.IntN.{ℤ, pos}
use lib.ListN.{length, length-append}
use Rattle.pool.specs.Pool.{Pool, Run}
use Rattle.constructors.specs.Build.{depth}
use Rattle.constructor_laws.specs.Keeps.{Keeps}
use Rattle.constructor_laws.proofs.Giving.{Gives, ended, gives_weaker, gives_here, gives_next, kept_gives}
use Rattle.constructor_laws.proofs.Rules.{AllBelow, all_below_more}
use Rattle.constructor_laws.proofs.Keeping.{folded_keeps, calls_keep}
use Rattle.constructor_laws.proofs.Keeping as runs
use Rattle.taylor.specs.Work.{Result, Work, bind, yield, refuse, lit, from, add, mul, div, neg, sub, exp, log, max, at, each, each_two, fold, fill}
use Rattle.taylor.specs.Expansion.{first}

-- ---- pieces of work

-- work that keeps the rules, and what is said of the answer holds with as many nodes as there are then
abbrev pub KeptAs : {A : Type 0} → (ℕ → A → Type 0) → Pool → Result A → Type 0
KeptAs Good P r = Gives P (λ Q x. Good Q.count x) r

-- so it does on every pool with n nodes or more
pub record Keeping {A : Type 0} (n : ℕ) (Good : ℕ → A → Type 0) (work : Work A) : Type 0 where
  pub kept : (P : Pool) → Keeps P → n ≤ P.count → KeptAs Good P (work P)

pub yield_keeps : {A : Type 0} {n : ℕ} {Good : ℕ → A → Type 0} {x : A} → ((m : ℕ) → n ≤ m → Good m x) → Keeping n Good (yield x)
yield_keeps h = record { kept = λ P k more. gives_here k (h P.count more) }

pub refuse_keeps : {A : Type 0} {n : ℕ} {Good : ℕ → A → Type 0} (k : ℕ) → Keeping n Good (refuse k)
refuse_keeps k = record { kept = λ P s more. ended }

-- one piece of work, and then another that may use its answer
pub next_keeps :
    {A B : Type 0} {n : ℕ} {Good : ℕ → A → Type 0} {Last : ℕ → B → Type 0} {work : Work A} {next : A → Work B}
    → Keeping n Good work → ((m : ℕ) (x : A) → n ≤ m → Good m x → Keeping m Last (next x)) → Keeping n Last (λ P. bind (work P) next)
next_keeps w h =
    record { kept = λ P k more. gives_next (w.kept P k more) (λ x Q k_q g good. (h Q.count x (omega (arith, g.no_fewer)) good).kept Q k_q (le_refl Q.count)) }

-- less said of the answer
pub said_as : {A : Type 0} {n : ℕ} {Good Said : ℕ → A → Type 0} {work : Work A} → ((m : ℕ) (x : A) → Good m x → Said m x) → Keeping n Good work → Keeping n Said work
said_as h w = record { kept = λ P k more. gives_weaker (λ Q x g good. h Q.count x good) (w.kept P k more) }

-- ---- constructors and literals

-- a node of the pool
abbrev pub Node : ℕ → ℕ → Type 0
Node m a = a < m

pub node_keeps : {n : ℕ} {run : Run} → runs.Keeping n run → Keeping n Node run
node_keeps {run = run} w = record { kept = λ P k more. kept_gives (run P) (w.kept P k more) }

module _ {n : ℕ} where
  pub lit_keeps : (z : ℤ) → Keeping n Node (lit z)
  lit_keeps z = node_keeps (folded_keeps z)

  pub from_keeps : (i : ℕ) → Keeping n Node (from i)
  from_keeps i = lit_keeps (pos i)

  pub add_keeps : {a b : ℕ} → a < n → b < n → Keeping n Node (add a b)
  add_keeps {a} {b} la lb = node_keeps ((calls_keep depth).add_at n a b la lb)

  pub mul_keeps : {a b : ℕ} → a < n → b < n → Keeping n Node (mul a b)
  mul_keeps {a} {b} la lb = node_keeps ((calls_keep depth).mul_at n a b la lb)

  pub div_keeps : {a b : ℕ} → a < n → b < n → Keeping n Node (div a b)
  div_keeps {a} {b} la lb = node_keeps ((calls_keep depth).div_at n a b la lb)

  pub max_keeps : {a b : ℕ} → a < n → b < n → Keeping n Node (max a b)
  max_keeps {a} {b} la lb = node_keeps ((calls_keep depth).max_at n a b la lb)

  pub neg_keeps : {a : ℕ} → a < n → Keeping n Node (neg a)
  neg_keeps {a} la = node_keeps ((calls_keep depth).neg_at n a la)

  pub exp_keeps : {a : ℕ} → a < n → Keeping n Node (exp a)
  exp_keeps {a} la = node_keeps ((calls_keep depth).exp_at n a la)

  pub log_keeps : {a : ℕ} → a < n → Keeping n Node (log a)
  log_keeps {a} la = node_keeps ((calls_keep depth).log_at n a la)

pub sub_keeps : {n a b : ℕ} → a < n → b < n → Keeping n Node (sub a b)
sub_keeps la lb = next_keeps (neg_keeps lb) (λ m c more lc. add_keeps (omega arith) lc)

-- ---- lists

-- k nodes of the pool
pub record Nodes (k m : ℕ) (cs : List ℕ) : Type 0 where
  pub long : length cs ≡ k
  pub below : AllBelow m cs

-- an entry of a list, or 0 past its end, is a node of any pool that has one
pub at_below : {m : ℕ} (cs : List ℕ) (i : ℕ) → 0 < m → AllBelow m cs → at cs i < m
at_below [] i some h = some
at_below (c ∷ cs) zero some h = h.0
at_below (c ∷ cs) (suc i) some h = at_below cs i some h.1

pub append_below : {m : ℕ} (cs : List ℕ) {c : ℕ} → AllBelow m cs → c < m → AllBelow m (cs ++ (c ∷ []))
append_below [] h l = (l, tt)
append_below (d ∷ cs) h l = (h.0, append_below cs h.1 l)

pub nodes_as : {n k j : ℕ} {work : Work (List ℕ)} → k ≡ j → Keeping n (Nodes k) work → Keeping n (Nodes j) work
nodes_as {n} {k} {j} {work} e w = subst (λ (i : ℕ). Keeping n (Nodes i) work) e w

one_more : {n k : ℕ} {r : ℕ} {work : Work (List ℕ)} → r < n → Keeping n (Nodes k) work → Keeping n (Nodes (suc k)) (λ P. bind (work P) (λ rs. yield (r ∷ rs)))
one_more l w =
    next_keeps w (λ m rs more h. yield_keeps (λ m' more'. record { long = ap suc h.long; below = (omega arith, all_below_more rs more' h.below) }))

-- for each entry
module _ {n : ℕ} {f : ℕ → Work ℕ} (g : (m c : ℕ) → n ≤ m → c < m → Keeping m Node (f c)) where
  pub each_keeps : (m : ℕ) (cs : List ℕ) → n ≤ m → AllBelow m cs → Keeping m (Nodes (length cs)) (each f cs)
  unfolding each
  each_keeps m [] more h = yield_keeps (λ m' l. record { long = refl; below = tt })
  each_keeps m (c ∷ cs) more h =
      next_keeps (g m c more h.0) (λ m' r more' l. one_more l (each_keeps m' cs (omega arith) (all_below_more cs more' h.1)))

  pub first_keeps : (cs : List ℕ) → AllBelow n cs → Keeping n (Nodes (length cs)) (first f cs)
  first_keeps [] h = yield_keeps (λ m' l. record { long = refl; below = tt })
  first_keeps (c ∷ cs) h =
      next_keeps (g n c (le_refl n) h.0)
      (λ m' r more' l. yield_keeps (λ m'' more''. record { long = refl; below = (omega arith, all_below_more cs (omega arith) h.1) }))

-- for the entries of two lists side by side
pub two_keep :
    {n : ℕ} {f : ℕ → ℕ → Work ℕ} → ((m u w : ℕ) → n ≤ m → u < m → w < m → Keeping m Node (f u w))
    → (m : ℕ) (us ws : List ℕ) → n ≤ m → AllBelow m us → AllBelow m ws → Keeping m (Nodes (min (length us) (length ws))) (each_two f us ws)
unfolding each_two
two_keep g m [] ws more hu hw = yield_keeps (λ m' l. rw (zero-min (length ws)) (record { long = refl; below = tt }))
two_keep g m (u ∷ us) [] more hu hw = yield_keeps (λ m' l. rw (min-zero (suc (length us))) (record { long = refl; below = tt }))
two_keep g m (u ∷ us) (w ∷ ws) more hu hw =
    rw (suc-min-suc (length us) (length ws))
    (next_keeps (g m u w more hu.0 hw.0)
    (λ m' r more' l. one_more l (two_keep g m' us ws (omega arith) (all_below_more us more' hu.1) (all_below_more ws more' hw.1))))

-- (j .. j + todo).fold(acc, f)
module _ {n : ℕ} {f : ℕ → ℕ → Work ℕ} (g : (m acc j : ℕ) → n ≤ m → acc < m → Keeping m Node (f acc j)) where
  pub fold_keeps : (m j todo acc : ℕ) → n ≤ m → acc < m → Keeping m Node (fold f j todo acc)
  unfolding fold
  fold_keeps m j zero acc more l = yield_keeps (λ m' more'. omega arith)
  fold_keeps m j (suc todo) acc more l =
      next_keeps (g m acc j more l) (λ m' next more' l'. fold_keeps m' (suc j) todo next (omega arith) l')

-- for k in res.len() .. res.len() + todo { res[k] = f(res, k) }
module _ {n : ℕ} {f : List ℕ → ℕ → Work ℕ} (g : (m : ℕ) (res : List ℕ) (k : ℕ) → n ≤ m → AllBelow m res → Keeping m Node (f res k)) where
  pub fill_keeps : (m todo : ℕ) (res : List ℕ) → n ≤ m → AllBelow m res → Keeping m (Nodes (length res + todo)) (fill f todo res)
  unfolding fill
  fill_keeps m zero res more h = yield_keeps (λ m' more'. record { long = omega arith; below = all_below_more res more' h })
  fill_keeps m (suc todo) res more h =
      next_keeps (g m res (length res) more h)
      (λ m' c more' l. nodes_as (longer c) (fill_keeps m' todo (res ++ (c ∷ [])) (omega arith) (append_below res (all_below_more res more' h) l)))
    where
      longer : (c : ℕ) → length (res ++ (c ∷ [])) + todo ≡ length res + suc todo
      longer c = rw (length-append res (c ∷ [])) (omega arith)
