-- How a check in front of the work changes what a call answers, for every kind of answer; and what follows from the table for every call: which numbers it can answer at all, and that 0 is none of them.
-- Assumes nothing.
use mathlib.Core.Path.{◌≡◌, refl, sym, subst⁻¹}
use mathlib.Core.Logic.{inl, inr}
use mathlib.Core.Bool.{Bool, true, false}
use mathlib.Core.List.{List, [], ◌∷◌, ◌++◌}
use Prim.Native.Nat.{ℕ, zero, suc}
use native.Mathlib.Omega.{arith}
use Rattle.lent.specs.Call.{demand}
use Rattle.situations.specs.Refusal.{Refusal, none, by, OneOf, Among}
use Rattle.situation_calls.specs.Table as table
use Rattle.situation_calls.specs.Table.{Call, checked, met}
use Rattle.situation_calls.specs.Answers.{first_failed, Situated, ByTable}

-- ---- checks

-- a refusal is told from none
told : {k : ℕ} → by k ≡ none → ⊥
told e = let z : ◌≡◌ {A = ℕ} 0 1 = cc in omega arith

-- no check is left
pub working : {meets : List ℕ} {r : Refusal} → Among meets r → Situated [] meets [] r
working h = record { first = λ k e. absurd (told (sym e)); worked = λ e. h }

module _ {checks meets : List ℕ} {tests : List Bool} where
  -- a check that passes
  pub passing : {r : Refusal} (k : ℕ) → Situated checks meets tests r → Situated (k ∷ checks) meets (true ∷ tests) r
  passing k s = record { first = s.first; worked = s.worked }

  -- a check that fails
  pub failing : (k : ℕ) → Situated (k ∷ checks) meets (false ∷ tests) (by k)
  failing k = record { first = λ j e. e; worked = λ e. absurd (told e) }

  -- what is demanded before an answer of any kind
  module _ {T : Type 0} (of : T → Refusal) (refusal : ℕ → T) (refuses : (k : ℕ) → of (refusal k) ≡ by k) where
    pub demanded : (t : Bool) (k : ℕ) (x : T) → (t ≡ true → Situated checks meets tests (of x)) → Situated (k ∷ checks) meets (t ∷ tests) (of (demand refusal t k x))
    demanded true k x h = passing k (h refl)
    demanded false k x h = subst⁻¹ (λ r. Situated (k ∷ checks) meets (false ∷ tests) r) (refuses k) (failing k)

-- ---- what follows from the table

is_checked : (tests : List Bool) (checks : List ℕ) (k : ℕ) → first_failed tests checks ≡ by k → OneOf checks k
is_checked [] checks k e = absurd (told (sym e))
is_checked (t ∷ tests) [] k e = absurd (told (sym e))
is_checked (true ∷ tests) (j ∷ checks) k e = inr (is_checked tests checks k e)
is_checked (false ∷ tests) (j ∷ checks) k e = inl (cc)

in_first : (ks ms : List ℕ) (k : ℕ) → OneOf ks k → OneOf (ks ++ ms) k
in_first [] ms k x = elim x [ ]
in_first (j ∷ ks) ms k (inl e) = inl e
in_first (j ∷ ks) ms k (inr h) = inr (in_first ks ms k h)

in_second : (ks ms : List ℕ) (r : Refusal) → Among ms r → Among (ks ++ ms) r
in_second ks ms none h = tt
in_second [] ms (by k) h = h
in_second (j ∷ ks) ms (by k) h = inr (in_second ks ms (by k) h)

pub numbers : {checks meets : List ℕ} {tests : List Bool} {r : Refusal} → Situated checks meets tests r → Among (checks ++ meets) r
numbers {checks} {meets} {tests} {r} s = go (first_failed tests checks) refl
  where
    go : (f : Refusal) → first_failed tests checks ≡ f → Among (checks ++ meets) r
    go none e = in_second checks meets r (s.worked e)
    go (by k) e = subst⁻¹ (λ x. Among (checks ++ meets) x) (s.first k e) (in_first checks meets k (is_checked tests checks k e))

-- a call answers no number but those that its row of the table has
pub refuses_by_the_table : (c : Call) {tests : List Bool} {r : Refusal} → ByTable c tests r → Among (checked c ++ met c) r
refuses_by_the_table c a = numbers a

abbrev pub positive : List ℕ → Bool
positive [] = true
positive (zero ∷ ks) = false
positive (suc k ∷ ks) = positive ks

pub not_zero : (ks : List ℕ) → positive ks ≡ true → OneOf ks 0 → ⊥
not_zero [] p h = elim h [ ]
not_zero (zero ∷ ks) p h = let z : ◌≡◌ {A = ℕ} 0 1 = cc in omega arith
not_zero (suc j ∷ ks) p (inl e) = omega arith
not_zero (suc j ∷ ks) p (inr h) = not_zero ks p h

-- no row of the table has 0
pub no_zero : (c : Call) → positive (checked c ++ met c) ≡ true
no_zero table.lit = refl
no_zero table.var = refl
no_zero table.add = refl
no_zero table.mul = refl
no_zero table.div = refl
no_zero table.max = refl
no_zero table.neg = refl
no_zero table.exp = refl
no_zero table.log = refl
no_zero table.pow = refl
no_zero table.substitute_var = refl
no_zero table.derive = refl
no_zero table.evaluate = refl
no_zero table.evaluate_residue = refl
no_zero table.print = refl
no_zero table.write = refl
no_zero table.read = refl
no_zero table.strip = refl
no_zero table.run_strip = refl
no_zero table.of_var = refl
no_zero table.of_coeff = refl
no_zero table.of_derivative = refl
no_zero table.of_order = refl
no_zero table.of_from_coefficients = refl
no_zero table.of_neg = refl
no_zero table.of_exp = refl
no_zero table.of_log = refl
no_zero table.of_pow = refl
no_zero table.of_add = refl
no_zero table.of_sub = refl
no_zero table.of_mul = refl
no_zero table.of_div = refl
no_zero table.of_max = refl
no_zero table.of_subst = refl
no_zero table.coeffs = refl
no_zero table.coeffs_at = refl

-- a refusal is never 0
pub never_by_zero : (c : Call) {tests : List Bool} → ByTable c tests (by 0) → ⊥
never_by_zero c a = not_zero (checked c ++ met c) (no_zero c) (refuses_by_the_table c a)
