-- Every accepted call of `mul`, `div`, `exp` or `log` of expansions follows the book: its answer's coefficients are worked from the recurrence on the coefficients that were given.
-- Assumes nothing.
use mathlib.Core.Path.{◌≡◌}
use mathlib.Core.Bool.{◌&&◌}
use mathlib.Core.List.{List}
use Prim.Native.Nat.{ℕ}
use Rattle.pool.specs.Pool.{Pool, done}
use Rattle.constructor_laws.specs.Grown.{Grown}
use Rattle.constructor_laws.specs.Keeps.{Keeps}
use Rattle.taylor.specs.Work.{Work}
use Rattle.taylor.specs.Expansion.{Expansion, times, quotient, exponential, logarithm}
use Rattle.taylor_rules.specs.Kept.{Fits}
use Rattle.taylor_rules.proofs.Theorems.{times_kept, quotient_kept, exponential_kept, logarithm_kept}
use Rattle.lent.specs.Call.{lent_pool}
use Rattle.lent_series.specs.declared.series.Series.{Series}
use Rattle.lent_series.specs.Series.{length_ok, given}
use Rattle.lent_series.specs.Call.{given_series, given_two}
use Rattle.book_calls.specs.Follows.{ProductFollows, QuotientFollows, ExpFollows, LogFollows}
use Rattle.book_calls.specs.Calls.{Array, Answered}
use Rattle.book_calls.proofs.Follows.{kept_then, product_follows, quotient_follows, exponential_follows, logarithm_follows}
use Rattle.book_calls.proofs.Answers.{done_by, holds_of_the_answer, one_given, two_given}

module _ {ks ws : List ℕ} {n : ℕ} {r : Series} {ks' ws' : List ℕ} {n' : ℕ} where
  -- a call on two expansions, and on one
  pub two_follow :
      (op : Expansion → Expansion → Work Expansion) (Follows : Pool → Expansion → Expansion → Expansion → Type 0)
      → ((s t e : Expansion) (Q : Pool) → Keeps (lent_pool ks ws n) → Fits n s → Fits n t → op s t (lent_pool ks ws n) ≡ done e Q → Grown (lent_pool ks ws n) Q × Fits Q.count e)
      → ((s t e : Expansion) (Q : Pool) → Keeps (lent_pool ks ws n) → Fits n s → Fits n t → op s t (lent_pool ks ws n) ≡ done e Q → Follows Q s t e)
      → (lhs rhs : Series) → Array lhs → Array rhs
      → Answered (given_two lhs rhs (length_ok lhs && length_ok rhs) (op (given lhs) (given rhs))) ks ws n r ks' ws' n'
      → Follows (lent_pool ks' ws' n') (given lhs) (given rhs) (given r)
  two_follow op Follows kept follows lhs rhs array array' call =
      let done = done_by call in
      let two = two_given lhs rhs array array' (op (given lhs) (given rhs)) (lent_pool ks ws n) done.worked in
      let k = kept (given lhs) (given rhs) done.expansion done.finish done.keeps two.left two.right two.worked in
      holds_of_the_answer (λ Q e. Follows Q (given lhs) (given rhs) e) done k.0 k.1
      (follows (given lhs) (given rhs) done.expansion done.finish done.keeps two.left two.right two.worked)

  pub one_follows :
      (op : Expansion → Work Expansion) (Follows : Pool → Expansion → Expansion → Type 0)
      → ((s e : Expansion) (Q : Pool) → Keeps (lent_pool ks ws n) → Fits n s → op s (lent_pool ks ws n) ≡ done e Q → Grown (lent_pool ks ws n) Q × Fits Q.count e)
      → ((s e : Expansion) (Q : Pool) → Keeps (lent_pool ks ws n) → Fits n s → op s (lent_pool ks ws n) ≡ done e Q → Follows Q s e)
      → (arg : Series) → Array arg
      → Answered (given_series arg (op (given arg))) ks ws n r ks' ws' n'
      → Follows (lent_pool ks' ws' n') (given arg) (given r)
  one_follows op Follows kept follows arg array call =
      let done = done_by call in
      let one = one_given arg array (op (given arg)) (lent_pool ks ws n) done.worked in
      let k = kept (given arg) done.expansion done.finish done.keeps one.fits one.worked in
      holds_of_the_answer (λ Q e. Follows Q (given arg) e) done k.0 k.1 (follows (given arg) done.expansion done.finish done.keeps one.fits one.worked)

  module _ (lhs rhs : Series) (array : Array lhs) (array' : Array rhs) where
    pub mul_call_follows_the_book :
        Answered (given_two lhs rhs (length_ok lhs && length_ok rhs) (times (given lhs) (given rhs))) ks ws n r ks' ws' n'
        → ProductFollows (lent_pool ks ws n) (lent_pool ks' ws' n') (given lhs) (given rhs) (given r)
    mul_call_follows_the_book =
        two_follow times (ProductFollows (lent_pool ks ws n)) (λ s t e Q k hs ht eq. let x = kept_then (times_kept k s t hs ht) eq in (x.grown, x.fits)) (λ s t e Q k hs ht eq. product_follows k s t e hs ht eq) lhs rhs array array'

    pub div_call_follows_the_book :
        Answered (given_two lhs rhs (length_ok lhs && length_ok rhs) (quotient (given lhs) (given rhs))) ks ws n r ks' ws' n'
        → QuotientFollows (lent_pool ks ws n) (lent_pool ks' ws' n') (given lhs) (given rhs) (given r)
    div_call_follows_the_book =
        two_follow quotient (QuotientFollows (lent_pool ks ws n)) (λ s t e Q k hs ht eq. let x = kept_then (quotient_kept k s t hs ht) eq in (x.grown, x.fits)) (λ s t e Q k hs ht eq. quotient_follows k s t e hs ht eq) lhs rhs array array'

  module _ (arg : Series) (array : Array arg) where
    pub exp_call_follows_the_book : Answered (given_series arg (exponential (given arg))) ks ws n r ks' ws' n' → ExpFollows (lent_pool ks ws n) (lent_pool ks' ws' n') (given arg) (given r)
    exp_call_follows_the_book =
        one_follows exponential (ExpFollows (lent_pool ks ws n)) (λ s e Q k hs eq. let x = kept_then (exponential_kept k s hs) eq in (x.grown, x.fits)) (λ s e Q k hs eq. exponential_follows k s e hs eq) arg array

    pub log_call_follows_the_book : Answered (given_series arg (logarithm (given arg))) ks ws n r ks' ws' n' → LogFollows (lent_pool ks ws n) (lent_pool ks' ws' n') (given arg) (given r)
    log_call_follows_the_book =
        one_follows logarithm (LogFollows (lent_pool ks ws n)) (λ s e Q k hs eq. let x = kept_then (logarithm_kept k s hs) eq in (x.grown, x.fits)) (λ s e Q k hs eq. logarithm_follows k s e hs eq) arg array
