-- Every operation on expansions only appends, and refuses by its own numbers: instances of the general law.
-- Assumes nothing.
use mathlib.Core.Path.{refl}
use mathlib.Core.Logic.{inr}
use mathlib.Core.List.{List}
use Prim.Native.Nat.{ℕ, ◌-◌}
use lib.IntN.{pos}
use Rattle.refusals.specs.Refusals.{pool_full}
use Rattle.literal.specs.Literal.{folded}
use Rattle.pool.specs.Pool.{Pool, Out, done, refused, Run}
use Rattle.constructors.specs.Build.{depth}
use Rattle.constructor_laws.specs.Grown.{Grown, Grows}
use Rattle.constructor_laws.proofs.Growth.{Growing, grown_by_nothing, grown_by_both, calls_grow, literal_grows}
use Rattle.taylor.specs.Work.{Result, Work, zero_lit, one_lit, add, neg, max}
use Rattle.situations.specs.Refusal.{OneOf, Among, of_out, of_result}
use Rattle.situations.specs.Situations.{of_constructors, of_sums, of_appending, of_max}
use Rattle.situations.proofs.Steps.{literal_refuses}
use Rattle.situations.proofs.Constructors.{calls_refuse, literals_refuse}
use Rattle.situations.proofs.Literals.{Long, long_grown}
use Rattle.situations.proofs.Each.{add_refuses, neg_refuses, max_refuses}
use Rattle.taylor_laws.proofs.General.{Goes, Law, Holding, Keeping}

-- on pools with long tables: the pool grows, and a refusal is one of these numbers
abbrev pub refusing_by : List ℕ → Law
refusing_by ks =
    record {
      Fit = Long;
      Good = Grown;
      Bad = OneOf ks;
      fits = λ P Q l g. long_grown g l;
      same = grown_by_nothing;
      both = λ P Q R g h. grown_by_both g h;
    }

pub called : (ks : List ℕ) {run : Run} → Growing run → ((P : Pool) → Long P → Among ks (of_out (run P))) → Holding (refusing_by ks) run
called ks {run} g r = record { holds = λ P l. go P (run P) (g.grows P) (r P l) }
  where
    go : (P : Pool) (o : Out) → Grows P o → Among ks (of_out o) → Goes Grown (OneOf ks) P o
    go P (done i Q) h s = h
    go P (refused k) h s = s

-- what the law says of the answer
pub meets : (ks : List ℕ) {A : Type 0} {work : Work A} → Holding (refusing_by ks) work → (P : Pool) → Long P → Among ks (of_result (work P))
meets ks {work = work} g P l = go (work P) (g.holds P l)
  where
    go : {A : Type 0} (x : Result A) → Goes Grown (OneOf ks) P x → Among ks (of_result x)
    go (done v Q) h = tt
    go (refused k) h = h

-- more numbers
pub wider : (ks ms : List ℕ) → ((k : ℕ) → OneOf ks k → OneOf ms k) → {A : Type 0} {work : Work A} → Holding (refusing_by ks) work → Holding (refusing_by ms) work
wider ks ms more {work = work} g = record { holds = λ P l. go P (work P) (g.holds P l) }
  where
    go : {A : Type 0} (P : Pool) (x : Result A) → Goes Grown (OneOf ks) P x → Goes Grown (OneOf ms) P x
    go P (done v Q) h = h
    go P (refused k) h = more k h

-- ---- constructors and literals
module _ (ks : List ℕ) (full : OneOf ks pool_full) where
  pub zero_holds : Holding (refusing_by ks) zero_lit
  zero_holds = called ks (literal_grows (folded (pos 0))) (λ P l. (literal_refuses full (pos 0) refl).refuses P)

  pub one_holds : Holding (refusing_by ks) one_lit
  one_holds = called ks (literal_grows (folded (pos 1))) (λ P l. (literal_refuses full (pos 1) refl).refuses P)

pub every_constructor : Keeping (refusing_by of_constructors)
every_constructor =
    let c = calls_refuse depth in
    record {
      lit_holds = λ z. called of_constructors (literal_grows (folded z)) (λ P l. (literals_refuse z).refuses P);
      add_holds = λ a b. called of_constructors ((calls_grow depth).add_at a b) (λ P l. (c.add_at a b).refuses P);
      mul_holds = λ a b. called of_constructors ((calls_grow depth).mul_at a b) (λ P l. (c.mul_at a b).refuses P);
      div_holds = λ a b. called of_constructors ((calls_grow depth).div_at a b) (λ P l. (c.div_at a b).refuses P);
      neg_holds = λ a. called of_constructors ((calls_grow depth).neg_at a) (λ P l. (c.neg_at a).refuses P);
      exp_holds = λ a. called of_constructors ((calls_grow depth).exp_at a) (λ P l. (c.exp_at a).refuses P);
      log_holds = λ a. called of_constructors ((calls_grow depth).log_at a) (λ P l. (c.log_at a).refuses P);
    }

pub sum_holds : (a b : ℕ) → Holding (refusing_by of_sums) (add a b)
sum_holds a b = called of_sums ((calls_grow depth).add_at a b) (λ P l. (add_refuses depth a b).refuses P)

pub opposite_holds : (a : ℕ) → Holding (refusing_by of_appending) (neg a)
opposite_holds a = called of_appending ((calls_grow depth).neg_at a) (neg_refuses (depth - 2) a)

pub greater_holds : (a b : ℕ) → Holding (refusing_by of_max) (max a b)
greater_holds a b = wider of_appending of_max (λ k h. inr h) (called of_appending ((calls_grow depth).max_at a b) (λ P l. (max_refuses (depth - 1) a b).refuses P))
