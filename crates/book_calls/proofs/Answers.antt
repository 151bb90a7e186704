-- A call that answered an expansion: what was demanded of its arguments holds, its work was accepted, and the outcome is the expansion that the work gave.
-- Assumes nothing.
use Rattle.std.specs.Prelude.{Ok, Err}
use mathlib.Core.Path.{◌≡◌, refl, sym, ap, ◌∙◌, subst}
use mathlib.Core.Bool.{Bool, true, false, ◌&&◌}
use mathlib.Core.List.{List, [], ◌∷◌}
use Prim.Native.Nat.{ℕ, ◌-◌, ◌≤◌}
use native.Mathlib.Nat.{min-eq_left}
use native.Mathlib.Omega.{arith}
use lib.ListN.{length, take, replicate}
use lib.Dec.{leb}
use lib.Seq.{take_at, length-take-le}
use borrow.Author.Tests.{leb-true, ne_eqb}
use Rattle.refusals.specs.Refusals.{broken_pool, unknown_node, wrong_order}
use Rattle.pool.specs.Nodes.{all_below}
use Rattle.pool.specs.Pool.{Pool, is_pool, done, refused}
use Rattle.constructor_laws.specs.Grown.{Grown}
use Rattle.constructor_laws.specs.Keeps.{Keeps}
use Rattle.taylor.specs.Work.{Result, Work, at}
use Rattle.taylor.specs.Expansion.{Expansion, endless}
use Rattle.taylor.specs.declared.expansion.Expansion.TheVariants.{Constant, Polynomial}
use Rattle.taylor.specs.Coefficients.{terms}
use Rattle.taylor_rules.specs.Kept.{Fits}
use Rattle.lent.specs.Call.{Returned, returned, leaves, lent_pool, demand}
use Rattle.lent.proofs.Finishing.{and_left, and_right}
use Rattle.lent_series.specs.declared.series.Series.{Series}
use Rattle.lent_series.specs.Series.{is_constant, nodes_of, length_ok, given, series_of}
use Rattle.lent_series.specs.Call.{Outcome, accepted, refused_outcome, given_series, given_two}
use Rattle.book_calls.specs.Calls.{Array, Answered}

-- what is demanded holds where the work was accepted
pub demanded : {A : Type 0} (t : Bool) (k : ℕ) {x : Result A} {e : A} {Q : Pool} → demand refused t k x ≡ done e Q → (t ≡ true) × (x ≡ done e Q)
demanded true k h = (refl, h)
demanded {A} false k {x} {e} {Q} h = absurd (never h)
  where
    never : ◌≡◌ {A = Result A} (refused k) (done e Q) → ⊥
    never h = let z : ◌≡◌ {A = ℕ} 0 1 = cc in omega arith

-- the work of a call that answered an expansion
pub record Done (work : Work Expansion) (ks ws : List ℕ) (n : ℕ) (r : Series) (ks' ws' : List ℕ) (n' : ℕ) : Type 0 where
  pub keeps : Keeps (lent_pool ks ws n)
  pub expansion : Expansion
  pub finish : Pool
  pub worked : work (lent_pool ks ws n) ≡ done expansion finish
  pub outcome : r ≡ series_of expansion
  pub kinds : ks' ≡ finish.kinds
  pub words : ws' ≡ finish.words
  pub count : n' ≡ finish.count

pub done_by : {work : Work Expansion} {ks ws : List ℕ} {n : ℕ} {r : Series} {ks' ws' : List ℕ} {n' : ℕ} → Answered work ks ws n r ks' ws' n' → Done work ks ws n r ks' ws' n'
done_by {work} {ks} {ws} {n} {r} {ks'} {ws'} {n'} h =
    let answered : h.outcome ≡ Ok r = h.accepted in
    go (demand refused (is_pool ks ws n) broken_pool (work (lent_pool ks ws n))) refl (rw answered at h.contract)
  where
    go :
        (x : Result Expansion) → demand refused (is_pool ks ws n) broken_pool (work (lent_pool ks ws n)) ≡ x → returned (Ok r) ks' ws' n' ≡ leaves accepted refused_outcome ks ws n x
        → Done work ks ws n r ks' ws' n'
    go (done e Q) d c =
        let both = demanded (is_pool ks ws n) broken_pool d in
        record {
          keeps = record { rules = both.0; end = omega arith };
          expansion = e;
          finish = Q;
          worked = both.1;
          outcome = same (ap (λ (l : Returned Outcome). l.answer) c);
          kinds = ap (λ (l : Returned Outcome). l.kinds) c;
          words = ap (λ (l : Returned Outcome). l.words) c;
          count = ap (λ (l : Returned Outcome). l.count) c;
        }
      where
        same : {s : Series} → ◌≡◌ {A = Outcome} (Ok r) (Ok s) → r ≡ s
        same p = cc
    go (refused k) d c = absurd (never (ap (λ (l : Returned Outcome). l.answer) c))
      where
        never : ◌≡◌ {A = Outcome} (Ok r) (Err k) → ⊥
        never p = let z : ◌≡◌ {A = ℕ} 0 1 = cc in omega arith

-- ---- what is returned

-- the expansion that is read off an answer
answer_is : {n : ℕ} (e : Expansion) → Fits n e → given (series_of e) ≡ e
answer_is (Constant c) h = refl
answer_is (Polynomial cs) h =
    let most : length cs ≤ terms = h.most in
    let list : is_constant (series_of (Polynomial cs)) ≡ false = ne_eqb (length cs) endless (λ e. omega arith) in
    rw list (ap Polynomial (take_at cs (replicate (terms - length cs) 0) (length cs) refl))

-- what holds of the work's expansion and pool holds of the answer and of the pool that is returned
pub holds_of_the_answer :
    {work : Work Expansion} {ks ws : List ℕ} {n : ℕ} {r : Series} {ks' ws' : List ℕ} {n' : ℕ} (H : Pool → Expansion → Type 0)
    → (d : Done work ks ws n r ks' ws' n') → Grown (lent_pool ks ws n) d.finish → Fits d.finish.count d.expansion → H d.finish d.expansion
    → H (lent_pool ks' ws' n') (given r)
holds_of_the_answer {ks = ks} {ws} {n} {r} {ks'} {ws'} {n'} H d g fits h =
    let same : given r ≡ d.expansion = ap given d.outcome ∙ answer_is d.expansion fits in
    let same_pool : lent_pool ks' ws' n' ≡ d.finish = rw (d.kinds, d.words, d.count, ← g.end) in
    subst (λ P. H P (given r)) (sym same_pool) (subst (H d.finish) (sym same) h)

-- ---- what is given

-- a constant stands in coeffs[0]
first_below : (n : ℕ) (cs : List ℕ) → length cs ≡ terms → all_below n (take 1 cs) ≡ true → all_below n (at cs 0 ∷ []) ≡ true
first_below n [] e h = absurd (none e)
  where
    none : 0 ≡ terms → ⊥
    none e = omega arith
first_below n (c ∷ cs) e h = h

given_fits : (n : ℕ) (s : Series) → Array s → all_below n (nodes_of s) ≡ true → length_ok s ≡ true → Fits n (given s)
given_fits n s array below ok = go (is_constant s) refl
  where
    go : (t : Bool) → is_constant s ≡ t → Fits n (given s)
    go true e = rw e (record { nodes = first_below n s.coeffs array (rw e at below); least = omega arith; most = omega arith })
    go false e =
        let both : (leb 1 s.order && leb s.order terms) ≡ true = rw e at ok in
        let least = leb-true 1 s.order (and_left (leb 1 s.order) _ both) in
        let most = leb-true s.order terms (and_right (leb 1 s.order) _ both) in
        let long : length (take s.order s.coeffs) ≡ s.order = length-take-le s.order s.coeffs (omega (arith, most, array)) in
        rw e (record { nodes = rw (e, min-eq_left most) at below; least = omega (arith, long, least); most = omega (arith, long, most) })

-- one expansion that was given, and two
pub record OneGiven (s : Series) (work : Work Expansion) (P : Pool) (e : Expansion) (Q : Pool) : Type 0 where
  pub fits : Fits P.count (given s)
  pub worked : work P ≡ done e Q

pub one_given : (s : Series) → Array s → (work : Work Expansion) (P : Pool) {e : Expansion} {Q : Pool} → given_series s work P ≡ done e Q → OneGiven s work P e Q
one_given s array work P h =
    let nodes = demanded (all_below P.count (nodes_of s)) unknown_node h in
    let length = demanded (length_ok s) wrong_order nodes.1 in
    record { fits = given_fits P.count s array nodes.0 length.0; worked = length.1 }

pub record TwoGiven (s t : Series) (work : Work Expansion) (P : Pool) (e : Expansion) (Q : Pool) : Type 0 where
  pub left : Fits P.count (given s)
  pub right : Fits P.count (given t)
  pub worked : work P ≡ done e Q

pub two_given : (s t : Series) → Array s → Array t → (work : Work Expansion) (P : Pool) {e : Expansion} {Q : Pool} → given_two s t (length_ok s && length_ok t) work P ≡ done e Q → TwoGiven s t work P e Q
two_given s t array array' work P h =
    let nodes = demanded (all_below P.count (nodes_of s) && all_below P.count (nodes_of t)) unknown_node h in
    let lengths = demanded (length_ok s && length_ok t) wrong_order nodes.1 in
    record {
      left = given_fits P.count s array (and_left (all_below P.count (nodes_of s)) _ nodes.0) (and_left (length_ok s) _ lengths.0);
      right = given_fits P.count t array' (and_right (all_below P.count (nodes_of s)) _ nodes.0) (and_right (length_ok s) _ lengths.0);
      worked = lengths.1;
    }
