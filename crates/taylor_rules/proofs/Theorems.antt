-- What every operation on expansions promises where it is accepted: of a pool that keeps the rules, and expansions that may be given of it.
-- Assumes nothing.
use mathlib.Core.Path.{◌≡◌}
use Prim.Native.Nat.{ℕ, suc, ◌^◌, min, ◌≤◌, ◌<◌}
use native.Mathlib.Nat.{le_refl}
use Rattle.pool.specs.Nodes.{greatest_variable}
use Rattle.pool.specs.Pool.{Pool}
use Rattle.constructor_laws.specs.Keeps.{Keeps}
use Rattle.constructor_laws.proofs.Rules.{below_by_test, below_all}
use Rattle.constructor_laws.proofs.Giving.{gave, ended, gives_kept}
use Rattle.taylor.specs.Work.{Result, Work}
use Rattle.taylor.specs.Expansion.{Expansion, order, var, coeff, derivative, add_to, negate, sub_from, times, quotient, exponential, logarithm, power, maximum, subst}
use Rattle.taylor.specs.Expand.{Point, expand}
use Rattle.taylor.specs.Coefficients.{terms}
use Rattle.taylor_rules.specs.Kept.{nodes_of, Fits, KeptBy, NodeKeptBy, power_order, subst_order, ExpandedOrder}
use Rattle.taylor_rules.proofs.Nodes.{KeptAs, Keeping, Node}
use Rattle.taylor_rules.proofs.Operations.{Within, Series, var_keeps, coeff_keeps, derivative_keeps, add_to_keeps, negate_keeps, sub_from_keeps, times_keeps, quotient_keeps, exponential_keeps, logarithm_keeps, power_keeps, maximum_keeps, subst_keeps}
use Rattle.taylor_rules.proofs.Expanding.{Come, expand_comes}

-- the tests of an expansion, as facts about each of its nodes and back
given : {n : ℕ} (e : Expansion) → Fits n e → Within n e
given {n} e h = record { below = below_by_test n (nodes_of e) h.nodes; least = h.least; most = h.most }

fits : {n : ℕ} (e : Expansion) → Within n e → Fits n e
fits {n} e h = record { nodes = below_all n (nodes_of e) h.below; least = h.least; most = h.most }

module _ {P : Pool} (keeps : Keeps P) where
  series_kept : {k : ℕ} (work : Work Expansion) → Keeping P.count (Series k) work → KeptBy P (λ j. j ≡ k) (work P)
  series_kept {k} work w = go (w.kept P keeps (le_refl P.count))
    where
      go : {r : Result Expansion} → KeptAs (Series k) P r → KeptBy P (λ j. j ≡ k) r
      go (gave {x = e} k_q g s) = record { grown = g; keeps = k_q; fits = fits e s.within; order = s.order }
      go ended = tt

  node_kept : (work : Work ℕ) → Keeping P.count Node work → NodeKeptBy P (work P)
  node_kept work w = gives_kept (w.kept P keeps (le_refl P.count))

  pub var_kept : (x order : ℕ) → x < P.count → order < terms → KeptBy P (λ j. j ≡ suc order) (var x order P)
  var_kept x order lx l = series_kept (var x order) (var_keeps x order lx l)

  module _ (e : Expansion) (h : Fits P.count e) where
    pub coeff_kept : (k : ℕ) → NodeKeptBy P (coeff e k P)
    coeff_kept k = node_kept (coeff e k) (coeff_keeps e k (given e h))

    pub derivative_kept : (k : ℕ) → NodeKeptBy P (derivative e k P)
    derivative_kept k = node_kept (derivative e k) (derivative_keeps e k (given e h))

    pub negate_kept : KeptBy P (λ j. j ≡ order e) (negate e P)
    negate_kept = series_kept (negate e) (negate_keeps e (given e h))

    pub exponential_kept : KeptBy P (λ j. j ≡ order e) (exponential e P)
    exponential_kept = series_kept (exponential e) (exponential_keeps e (given e h))

    pub logarithm_kept : KeptBy P (λ j. j ≡ order e) (logarithm e P)
    logarithm_kept = series_kept (logarithm e) (logarithm_keeps e (given e h))

    -- an exponent has 32 bits
    pub power_kept : (n : ℕ) → n < 2 ^ 32 → KeptBy P (λ j. j ≡ power_order e n) (power e n P)
    power_kept n l = series_kept (power e n) (power_keeps e n l (given e h))

  -- as long as the shorter of both
  module _ (s t : Expansion) (hs : Fits P.count s) (ht : Fits P.count t) where
    pub add_to_kept : KeptBy P (λ j. j ≡ min (order s) (order t)) (add_to s t P)
    add_to_kept = series_kept (add_to s t) (add_to_keeps s t (given s hs) (given t ht))

    pub sub_from_kept : KeptBy P (λ j. j ≡ min (order s) (order t)) (sub_from s t P)
    sub_from_kept = series_kept (sub_from s t) (sub_from_keeps s t (given s hs) (given t ht))

    pub times_kept : KeptBy P (λ j. j ≡ min (order s) (order t)) (times s t P)
    times_kept = series_kept (times s t) (times_keeps s t (given s hs) (given t ht))

    pub quotient_kept : KeptBy P (λ j. j ≡ min (order s) (order t)) (quotient s t P)
    quotient_kept = series_kept (quotient s t) (quotient_keeps s t (given s hs) (given t ht))

    pub maximum_kept : KeptBy P (λ j. j ≡ min (order s) (order t)) (maximum s t P)
    maximum_kept = series_kept (maximum s t) (maximum_keeps s t (given s hs) (given t ht))

    pub subst_kept : KeptBy P (λ j. j ≡ subst_order s t) (subst s t P)
    subst_kept = series_kept (subst s t) (subst_keeps s t (given s hs) (given t ht))

  -- a constant, or a coefficient for each order
  pub expand_kept : (root v : ℕ) (x : Point) (order : ℕ) → root < P.count → v ≤ greatest_variable → order < terms → KeptBy P (ExpandedOrder order) (expand root v x order P)
  expand_kept root v x order lr lv lo = go (expand_comes order lo v x lv root keeps lr)
    where
      go : {r : Result Expansion} → KeptAs (Come order lo) P r → KeptBy P (ExpandedOrder order) r
      go (gave {x = e} k_q g s) = record { grown = g; keeps = k_q; fits = fits e s.within; order = s.size }
      go ended = tt
