-- In every ring with fractions, for all values of the variables: the coefficients that an accepted call of `mul`, `div`, `exp` or `log` of expansions answers have the values of the book's formulas; and those of an expression are the coefficients of its value in the algebra of series.
-- Assumes nothing.
use Rattle.std.specs.Prelude.{Some, None}
use mathlib.Core.Path.{◌≡◌}
use mathlib.Core.Bool.{◌&&◌}
use mathlib.Core.List.{List, [], ◌∷◌}
use Prim.Native.Nat.{ℕ, zero, suc, ◌^◌, ◌<◌}
use native.Mathlib.Omega.{arith}
use lib.IntN.{ℤ}
use lib.ListN.{length, get_or}
use Rattle.pool.specs.Pool.{Pool, node_at, done}
use Rattle.constructor_laws.specs.Keeps.{Keeps}
use Rattle.constructor_laws.proofs.Rules.{AllBelow, below_by_test}
use Rattle.taylor.specs.Work.{at}
use Rattle.taylor.specs.Expansion.{Expansion, times, quotient, exponential, logarithm}
use Rattle.taylor.specs.declared.expansion.Expansion.TheVariants.{Constant, Polynomial}
use Rattle.taylor_rules.specs.Kept.{Fits}
use Rattle.taylor_rules.proofs.Theorems.{times_kept, quotient_kept, exponential_kept, logarithm_kept}
use Rattle.book.specs.Formula.{Formula, #, ◌⊗◌, ◌⊘◌, Exp, Log, work}
use Rattle.meaning.specs.Model.{Algebra, Model, Distributive}
use Rattle.meaning.specs.Value.{Values, value}
use Rattle.taylor_meaning.specs.Series.{series, Fractions}
use Rattle.taylor_meaning.specs.Coefficients.{MeansSeries, as_series}
use Rattle.taylor_meaning.proofs.Theorems.{expansion_means}
use Rattle.book_meaning.proofs.Working.{Stands}
use Rattle.book_meaning.proofs.Recurrences.{worked_has_its_value}
use Rattle.book_meaning.proofs.Theorems.{product_has_the_books_values, scaled_has_the_books_values, quotient_has_the_books_values, constant_quotient_has_the_books_values, divided_has_the_books_values, exp_has_the_books_values, log_has_the_books_values}
use Rattle.lent.specs.Call.{lent_pool}
use Rattle.lent_series.specs.declared.series.Series.{Series}
use Rattle.lent_series.specs.Series.{length_ok, given}
use Rattle.lent_series.specs.Call.{given_series, given_two}
use Rattle.engine_expand.specs.Expressions.{expand_work}
use Rattle.book_calls.specs.Follows.{ProductFollows, QuotientFollows, ExpFollows, LogFollows}
use Rattle.book_calls.specs.Follows as follows
use Rattle.book_calls.specs.Calls.{Array, Answered}
use Rattle.book_calls.specs.Formulas.{product_formula, quotient_formula, exp_formula, log_formula, HasValues}
use Rattle.book_calls.proofs.Follows.{kept_then, product_follows, quotient_follows, exponential_follows, logarithm_follows}
use Rattle.book_calls.proofs.Operations.{two_follow, one_follows}
use Rattle.book_calls.proofs.Expressions.{expansion_holds}

-- each entry of a list that is below is below
entry_below : (n : ℕ) (cs : List ℕ) → AllBelow n cs → (k : ℕ) → k < length cs → at cs k < n
entry_below n [] h k l = absurd (never l)
  where
    never : k < 0 → ⊥
    never l = omega arith
entry_below n (c ∷ cs) h zero l = h.0
entry_below n (c ∷ cs) h (suc k) l = entry_below n cs h.1 k (omega arith)

module _ {A : Algebra} (M : Model A) (D : Distributive A) (fractions : Fractions A) (env : Values A) where
  module _ (P Q : Pool) (keeps : Keeps P) where
    nodes : (us : List ℕ) → Fits P.count (Polynomial us) → (k : ℕ) → k < length us → at us k < P.count
    nodes us h = entry_below P.count us (below_by_test P.count us h.nodes)

    node : (c : ℕ) → Fits P.count (Constant c) → c < P.count
    node c h = (below_by_test P.count (c ∷ []) h.nodes).0

    -- a constant that is one formula's
    constant_values : {v : ℕ} (f : Formula) → Stands P f → work f P ≡ done v Q → HasValues A env Q (Constant v) (λ k. f)
    constant_values f h e zero l = worked_has_its_value M env f P keeps h e
    constant_values f h e (suc k) l = absurd (never l)
      where
        never : suc k < 1 → ⊥
        never l = omega arith

    pub product_values : {s t e : Expansion} → ProductFollows P Q s t e → Fits P.count s → Fits P.count t → HasValues A env Q e (product_formula s t)
    product_values (follows.constants {b} {c} h) hs ht = constant_values (# b ⊗ # c) (node b hs, node c ht) h
    product_values (follows.constant_left {c} {ws} {vs} h) hs ht = λ k l. scaled_has_the_books_values M D fractions env P Q keeps c ws vs (node c hs) (nodes ws ht) h k (omega (arith, h.long, l))
    product_values (follows.constant_right {us} {vs} {c} h) hs ht = λ k l. scaled_has_the_books_values M D fractions env P Q keeps c us vs (node c ht) (nodes us hs) h k (omega (arith, h.long, l))
    product_values (follows.lists {us} {ws} {vs} h) hs ht = λ k l. product_has_the_books_values M D fractions env P Q keeps us ws vs (nodes us hs) (nodes ws ht) h k (omega (arith, h.1.long, l))

    pub quotient_values : {s t e : Expansion} → QuotientFollows P Q s t e → Fits P.count s → Fits P.count t → HasValues A env Q e (quotient_formula s t e)
    quotient_values (follows.constants {b} {c} h) hs ht = constant_values (# b ⊘ # c) (node b hs, node c ht) h
    quotient_values (follows.constant_left {c} {ws} {vs} h) hs ht =
        λ k l. constant_quotient_has_the_books_values M D fractions env P Q keeps c ws vs ht.least (node c hs) (nodes ws ht) h k (omega (arith, h.2.long, l))
    quotient_values (follows.constant_right {us} {vs} {c} h) hs ht = λ k l. divided_has_the_books_values M D fractions env P Q keeps us vs c (nodes us hs) (node c ht) h k (omega (arith, h.long, l))
    quotient_values (follows.lists {us} {ws} {vs} h) hs ht =
        λ k l. quotient_has_the_books_values M D fractions env P Q keeps us ws vs ht.least (nodes us hs) (nodes ws ht) h k (omega (arith, h.2.long, l))

    pub exp_values : {s e : Expansion} → ExpFollows P Q s e → Fits P.count s → HasValues A env Q e (exp_formula s e)
    exp_values (follows.of_constant {c} h) hs = constant_values (Exp (# c)) (node c hs) h
    exp_values (follows.of_list {us} {vs} h) hs = λ k l. exp_has_the_books_values M D fractions env P Q keeps us vs (nodes us hs) h k (omega (arith, h.1.long, l))

    pub log_values : {s e : Expansion} → LogFollows P Q s e → Fits P.count s → HasValues A env Q e (log_formula s e)
    log_values (follows.of_constant {c} h) hs = constant_values (Log (# c)) (node c hs) h
    log_values (follows.of_list {us} {vs} h) hs = λ k l. log_has_the_books_values M D fractions env P Q keeps us vs (nodes us hs) h k (omega (arith, h.1.long, l))

  -- ---- accepted calls
  module _ {ks ws : List ℕ} {n : ℕ} {r : Series} {ks' ws' : List ℕ} {n' : ℕ} where
    module _ (lhs rhs : Series) (array : Array lhs) (array' : Array rhs) where
      pub mul_call_has_the_books_values :
          Answered (given_two lhs rhs (length_ok lhs && length_ok rhs) (times (given lhs) (given rhs))) ks ws n r ks' ws' n'
          → HasValues A env (lent_pool ks' ws' n') (given r) (product_formula (given lhs) (given rhs))
      mul_call_has_the_books_values =
          two_follow times (λ Q s t e. HasValues A env Q e (product_formula s t)) (λ s t e Q k hs ht eq. let x = kept_then (times_kept k s t hs ht) eq in (x.grown, x.fits))
          (λ s t e Q k hs ht eq. product_values (lent_pool ks ws n) Q k (product_follows k s t e hs ht eq) hs ht) lhs rhs array array'

      pub div_call_has_the_books_values :
          Answered (given_two lhs rhs (length_ok lhs && length_ok rhs) (quotient (given lhs) (given rhs))) ks ws n r ks' ws' n'
          → HasValues A env (lent_pool ks' ws' n') (given r) (quotient_formula (given lhs) (given rhs) (given r))
      div_call_has_the_books_values =
          two_follow quotient (λ Q s t e. HasValues A env Q e (quotient_formula s t e)) (λ s t e Q k hs ht eq. let x = kept_then (quotient_kept k s t hs ht) eq in (x.grown, x.fits))
          (λ s t e Q k hs ht eq. quotient_values (lent_pool ks ws n) Q k (quotient_follows k s t e hs ht eq) hs ht) lhs rhs array array'

    module _ (arg : Series) (array : Array arg) where
      pub exp_call_has_the_books_values :
          Answered (given_series arg (exponential (given arg))) ks ws n r ks' ws' n' → HasValues A env (lent_pool ks' ws' n') (given r) (exp_formula (given arg) (given r))
      exp_call_has_the_books_values =
          one_follows exponential (λ Q s e. HasValues A env Q e (exp_formula s e)) (λ s e Q k hs eq. let x = kept_then (exponential_kept k s hs) eq in (x.grown, x.fits))
          (λ s e Q k hs eq. exp_values (lent_pool ks ws n) Q k (exponential_follows k s e hs eq) hs) arg array

      pub log_call_has_the_books_values :
          Answered (given_series arg (logarithm (given arg))) ks ws n r ks' ws' n' → HasValues A env (lent_pool ks' ws' n') (given r) (log_formula (given arg) (given r))
      log_call_has_the_books_values =
          one_follows logarithm (λ Q s e. HasValues A env Q e (log_formula s e)) (λ s e Q k hs eq. let x = kept_then (logarithm_kept k s hs) eq in (x.grown, x.fits))
          (λ s e Q k hs eq. log_values (lent_pool ks ws n) Q k (logarithm_follows k s e hs eq) hs) arg array

    -- of an expression: its value in the algebra of series, the variable being its value and t
    module _ (from v order : ℕ) (words : (i : ℕ) → get_or ws i 0 < 2 ^ 64) where
      pub coeffs_call_means :
          Answered (expand_work from v None order) ks ws n r ks' ws' n'
          → MeansSeries A env (lent_pool ks ws n) (suc order) (value (series A) (as_series A env v None) (node_at (lent_pool ks ws n)) from) (given r) (lent_pool ks' ws' n')
      coeffs_call_means =
          expansion_holds from v order None (λ Q e. MeansSeries A env (lent_pool ks ws n) (suc order) (value (series A) (as_series A env v None) (node_at (lent_pool ks ws n)) from) e Q)
          (λ keeps inside known small e Q eq. expansion_means M env keeps D v known None order fractions words from inside eq)

      pub coeffs_at_call_means :
          (z : ℤ) → Answered (expand_work from v (Some z) order) ks ws n r ks' ws' n'
          → MeansSeries A env (lent_pool ks ws n) (suc order) (value (series A) (as_series A env v (Some z)) (node_at (lent_pool ks ws n)) from) (given r) (lent_pool ks' ws' n')
      coeffs_at_call_means z =
          expansion_holds from v order (Some z) (λ Q e. MeansSeries A env (lent_pool ks ws n) (suc order) (value (series A) (as_series A env v (Some z)) (node_at (lent_pool ks ws n)) from) e Q)
          (λ keeps inside known small e Q eq. expansion_means M env keeps D v known (Some z) order fractions words from inside eq)
