-- The operations on expansions keep the rules of the pool and answer what may be given again, of the order that they should have: each is made of work on nodes, which does.
-- Assumes nothing.
use mathlib.Core.Path.{◌≡◌, refl, sym, ap, ◌∙◌}
use mathlib.Core.Bool.{cond}
use mathlib.Core.List.{List, [], ◌∷◌, reverse, reverse_aux}
use Prim.Native.Nat.{ℕ, zero, suc, ◌+◌, ◌-◌, ◌*◌, ◌/◌, ◌%◌, ◌^◌, min, ◌≤◌, ◌<◌}
use native.Mathlib.Nat.{le_refl, min-le_left, min-le_right, le-min, min-eq_left, min-eq_right, pow-suc, div-add-mod', mod-lt}
use native.Mathlib.Decide.{ℕ_discrete}
use native.Mathlib.Omega.{arith}
use lib.Dec.{eqb}
use lib.ListN.{length, replicate, length-replicate, length-reverse}
use borrow.Author.Tests.{eq-eqb, ne_eqb}
use Rattle.refusals.specs.Refusals.{max_reached}
use Rattle.constructor_laws.proofs.Rules.{AllBelow, all_below_more}
use Rattle.taylor.specs.Work.{Work, bind, yield, from, add, mul, at}
use Rattle.taylor.specs.Expansion.{Expansion, polynomial, constant, var_coeffs, var, coeff, order, derivative, add_to, negate, sub_from, product_at, times, quotient_at, quotient, exp_at, exponential, log_at, logarithm, pow_from, power, maximum, horner, subst, endless}
use Rattle.taylor.specs.declared.expansion.Expansion.TheVariants.{Constant, Polynomial}
use Rattle.taylor.specs.Coefficients.{terms}
use Rattle.taylor_rules.specs.Kept.{nodes_of, power_order, subst_order}
use Rattle.taylor_rules.proofs.Nodes.{Keeping, yield_keeps, refuse_keeps, next_keeps, Node, Nodes, at_below, nodes_as, from_keeps, add_keeps, mul_keeps, div_keeps, max_keeps, neg_keeps, sub_keeps, exp_keeps, log_keeps, each_keeps, first_keeps, two_keep, fold_keeps, fill_keeps}

-- what may be given where the pool has m nodes
pub record Within (m : ℕ) (e : Expansion) : Type 0 where
  pub below : AllBelow m (nodes_of e)
  pub least : 1 ≤ length (nodes_of e)
  pub most : length (nodes_of e) ≤ terms

-- the same, of the order k
pub record Series (k m : ℕ) (e : Expansion) : Type 0 where
  pub within : Within m e
  pub order : order e ≡ k

pub within_more : {n m : ℕ} (e : Expansion) → n ≤ m → Within n e → Within m e
within_more e more h = record { below = all_below_more (nodes_of e) more h.below; least = h.least; most = h.most }

pub series_as : {n k j : ℕ} {work : Work Expansion} → k ≡ j → Keeping n (Series k) work → Keeping n (Series j) work
series_as e w = rw e at w

-- a list is no longer than a constant
order_most : {m : ℕ} (e : Expansion) → Within m e → order e ≤ endless
order_most (Constant c) h = omega arith
order_most (Polynomial cs) h = omega (arith, h.most)

-- ---- constants and lists
polynomial_keeps : {n k : ℕ} {work : Work (List ℕ)} → 1 ≤ k → k ≤ terms → Keeping n (Nodes k) work → Keeping n (Series k) (polynomial work)
polynomial_keeps {n} {k} least most w =
    next_keeps w
    (λ m cs more h. yield_keeps
    (λ m' more'. record {
      within = record { below = all_below_more cs more' h.below; least = rw h.long least; most = rw h.long most };
      order = h.long;
    }))

constant_keeps : {n : ℕ} {work : Work ℕ} → Keeping n Node work → Keeping n (Series endless) (constant work)
constant_keeps w =
    next_keeps w
    (λ m c more h. yield_keeps
    (λ m' more'. record { within = record { below = (omega arith, tt); least = omega arith; most = omega arith }; order = refl }))

-- entry i of a list, with more nodes than there were
entry : {n : ℕ} (cs : List ℕ) → AllBelow n cs → (m i : ℕ) → n ≤ m → 0 < m → at cs i < m
entry cs h m i more some = at_below cs i some (all_below_more cs more h)

pub var_keeps : {n : ℕ} (x order : ℕ) → x < n → order < terms → Keeping n (Series (suc order)) (var x order)
var_keeps {n} x order lx h = polynomial_keeps (omega arith) (omega arith) (coeffs order)
  where
    same : (k z m : ℕ) → z < m → AllBelow m (replicate k z)
    same zero z m l = tt
    same (suc k) z m l = (l, same k z m l)

    coeffs : (order : ℕ) → Keeping n (Nodes (suc order)) (var_coeffs x order)
    coeffs zero = next_keeps (from_keeps 0) (λ m z more lz. yield_keeps (λ m' more'. record { long = refl; below = (omega arith, tt) }))
    coeffs (suc k) =
        next_keeps (from_keeps 0)
        (λ m z more lz. next_keeps (from_keeps 1)
        (λ m' o more' lo. yield_keeps
        (λ m'' more''. record {
          long = ap (λ (i : ℕ). suc (suc i)) (length-replicate k z);
          below = (omega arith, (omega arith, same k z m'' (omega arith)));
        })))

-- the pool of an expansion has a node
some_node : {n : ℕ} (cs : List ℕ) → 1 ≤ length cs → AllBelow n cs → 0 < n
some_node [] l h = absurd (none l)
  where
    none : 1 ≤ 0 → ⊥
    none l = omega arith
some_node (c ∷ cs) l h = omega (arith, h.0)

pub coeff_keeps : {n : ℕ} (e : Expansion) (k : ℕ) → Within n e → Keeping n Node (coeff e k)
coeff_keeps {n} (Polynomial cs) k h =
    let some : 0 < n = some_node cs h.least h.below in
    yield_keeps (λ m more. entry cs h.below m k more (omega arith))
coeff_keeps (Constant c) zero h = yield_keeps (λ m more. omega (arith, h.below.0))
coeff_keeps (Constant c) (suc k) h = from_keeps 0

pub derivative_keeps : {n : ℕ} (e : Expansion) (k : ℕ) → Within n e → Keeping n Node (derivative e k)
derivative_keeps {n} (Polynomial cs) k h =
    next_keeps (from_keeps 1)
    (λ m one more lo. next_keeps (fold_keeps (λ m' acc i more' l. next_keeps (from_keeps i) (λ m'' c more'' lc. mul_keeps (omega arith) lc)) m 1 k one (le_refl m) lo)
    (λ m' f more' lf. mul_keeps lf (entry cs h.below m' k (omega arith) (omega arith))))
derivative_keeps (Constant c) zero h = yield_keeps (λ m more. omega (arith, h.below.0))
derivative_keeps (Constant c) (suc k) h = from_keeps 0

-- ---- add_assign, neg, sub_assign
module _ {n : ℕ} where
  pub add_to_keeps : (s t : Expansion) → Within n s → Within n t → Keeping n (Series (min (order s) (order t))) (add_to s t)
  add_to_keeps (Constant l) (Constant r) hs ht = constant_keeps (add_keeps hs.below.0 ht.below.0)
  add_to_keeps (Polynomial cs) (Constant r) hs ht =
      series_as (sym (min-eq_left (order_most (Polynomial cs) hs)))
      (polynomial_keeps hs.least hs.most (first_keeps (λ m c more l. add_keeps l (omega (arith, ht.below.0))) cs hs.below))
  add_to_keeps (Constant c) (Polynomial ws) hs ht =
      series_as (sym (min-eq_right (order_most (Polynomial ws) ht)))
      (polynomial_keeps ht.least ht.most (first_keeps (λ m w more l. add_keeps l (omega (arith, hs.below.0))) ws ht.below))
  add_to_keeps (Polynomial us) (Polynomial ws) hs ht =
      polynomial_keeps (le-min hs.least ht.least) (omega (arith, min-le_left (length us) (length ws), hs.most))
      (two_keep (λ m u w more lu lw. add_keeps lw lu) n us ws (le_refl n) hs.below ht.below)

  pub negate_keeps : (e : Expansion) → Within n e → Keeping n (Series (order e)) (negate e)
  negate_keeps (Constant c) h = constant_keeps (neg_keeps h.below.0)
  negate_keeps (Polynomial cs) h = polynomial_keeps h.least h.most (each_keeps (λ m c more l. neg_keeps l) n cs (le_refl n) h.below)

  pub sub_from_keeps : (s t : Expansion) → Within n s → Within n t → Keeping n (Series (min (order s) (order t))) (sub_from s t)
  sub_from_keeps (Constant l) (Constant r) hs ht = constant_keeps (sub_keeps hs.below.0 ht.below.0)
  sub_from_keeps (Polynomial cs) (Constant r) hs ht =
      series_as (sym (min-eq_left (order_most (Polynomial cs) hs)))
      (polynomial_keeps hs.least hs.most (first_keeps (λ m c more l. sub_keeps l (omega (arith, ht.below.0))) cs hs.below))
  sub_from_keeps (Constant c) (Polynomial ws) hs ht =
      series_as (sym (min-eq_right (order_most (Polynomial ws) ht)))
      (polynomial_keeps ht.least ht.most
      (next_keeps (each_keeps (λ m w more l. neg_keeps l) n ws (le_refl n) ht.below)
      (λ m cs more h. nodes_as h.long (first_keeps (λ m' w more' l. add_keeps l (omega (arith, hs.below.0))) cs h.below))))
  sub_from_keeps (Polynomial us) (Polynomial ws) hs ht =
      polynomial_keeps (le-min hs.least ht.least) (omega (arith, min-le_left (length us) (length ws), hs.most))
      (two_keep (λ m u w more lu lw. sub_keeps lu lw) n us ws (le_refl n) hs.below ht.below)

-- ---- mul
module _ {n : ℕ} (us ws : List ℕ) (hu : AllBelow n us) (hw : AllBelow n ws) where
  product_keeps : (m z : ℕ) (res : List ℕ) (k : ℕ) → n ≤ m → z < m → Keeping m Node (product_at us ws z res k)
  product_keeps m z res k more lz =
      fold_keeps
      (λ m' sum j more' l. next_keeps (mul_keeps (entry us hu m' j (omega arith) (omega arith)) (entry ws hw m' (k - j) (omega arith) (omega arith))) (λ m'' t more'' lt. add_keeps (omega arith) lt))
      m 0 (suc k) z (le_refl m) lz

module _ {n : ℕ} where
  pub times_keeps : (s t : Expansion) → Within n s → Within n t → Keeping n (Series (min (order s) (order t))) (times s t)
  unfolding times
  times_keeps (Constant l) (Constant r) hs ht = constant_keeps (mul_keeps hs.below.0 ht.below.0)
  times_keeps (Constant c) (Polynomial ws) hs ht =
      series_as (sym (min-eq_right (order_most (Polynomial ws) ht)))
      (polynomial_keeps ht.least ht.most (each_keeps (λ m w more l. mul_keeps l (omega (arith, hs.below.0))) n ws (le_refl n) ht.below))
  times_keeps (Polynomial us) (Constant c) hs ht =
      series_as (sym (min-eq_left (order_most (Polynomial us) hs)))
      (polynomial_keeps hs.least hs.most (each_keeps (λ m u more l. mul_keeps l (omega (arith, ht.below.0))) n us (le_refl n) hs.below))
  times_keeps (Polynomial us) (Polynomial ws) hs ht =
      polynomial_keeps (le-min hs.least ht.least) (omega (arith, min-le_left (length us) (length ws), hs.most))
      (next_keeps (from_keeps 0)
      (λ m z more lz. nodes_as (omega arith)
      (fill_keeps (λ m' res k more' h. product_keeps us ws hs.below ht.below m' z res k (omega arith) (omega arith)) m (min (length us) (length ws)) [] (le_refl m) tt)))

-- ---- div
module _ {n : ℕ} (ws : List ℕ) (hw : AllBelow n ws) where
  quotient_at_keeps :
      (start : ℕ → ℕ) (m scale : ℕ) (res : List ℕ) (k : ℕ) → n ≤ m → start k < m → scale < m → AllBelow m res → Keeping m Node (quotient_at start ws scale res k)
  quotient_at_keeps start m scale res k more lstart lscale h =
      next_keeps
      (fold_keeps
      (λ m' sum i more' l. next_keeps (mul_keeps (entry res h m' i more' (omega arith)) (entry ws hw m' (k - i) (omega arith) (omega arith))) (λ m'' t more'' lt. sub_keeps (omega arith) lt))
      m 0 k (start k) (le_refl m) lstart)
      (λ m' s more' ls. mul_keeps (omega arith) ls)

-- one entry is there, and the others are filled in
one_and_rest : {k : ℕ} → 1 ≤ k → 1 + (k - 1) ≡ k
one_and_rest {k} h = omega arith

module _ {n : ℕ} where
  pub quotient_keeps : (s t : Expansion) → Within n s → Within n t → Keeping n (Series (min (order s) (order t))) (quotient s t)
  quotient_keeps (Constant l) (Constant r) hs ht = constant_keeps (div_keeps hs.below.0 ht.below.0)
  quotient_keeps (Polynomial us) (Constant c) hs ht =
      series_as (sym (min-eq_left (order_most (Polynomial us) hs)))
      (polynomial_keeps hs.least hs.most (each_keeps (λ m u more l. div_keeps l (omega (arith, ht.below.0))) n us (le_refl n) hs.below))
  quotient_keeps (Constant c) (Polynomial ws) hs ht =
      series_as (sym (min-eq_right (order_most (Polynomial ws) ht)))
      (polynomial_keeps ht.least ht.most
      (next_keeps (from_keeps 0)
      (λ m z more lz. next_keeps (from_keeps 1)
      (λ m₁ o more₁ lo. next_keeps (div_keeps lo (entry ws ht.below m₁ 0 (omega arith) (omega arith)))
      (λ m₂ scale more₂ lscale. next_keeps (mul_keeps (omega (arith, hs.below.0)) lscale)
      (λ m₃ r more₃ lr. nodes_as (one_and_rest ht.least)
      (fill_keeps (λ m' res k more' h. quotient_at_keeps ws ht.below (λ k. z) m' scale res k (omega arith) (omega arith) (omega arith) h) m₃ (length ws - 1) (r ∷ []) (le_refl m₃) (lr, tt))))))))
  quotient_keeps (Polynomial us) (Polynomial ws) hs ht =
      polynomial_keeps (le-min hs.least ht.least) (omega (arith, min-le_left (length us) (length ws), hs.most))
      (next_keeps (from_keeps 0)
      (λ m z more lz. next_keeps (from_keeps 1)
      (λ m₁ o more₁ lo. next_keeps (div_keeps lo (entry ws ht.below m₁ 0 (omega arith) (omega arith)))
      (λ m₂ scale more₂ lscale. next_keeps (mul_keeps lscale (entry us hs.below m₂ 0 (omega arith) (omega arith)))
      (λ m₃ r more₃ lr. nodes_as (one_and_rest (le-min hs.least ht.least))
      (fill_keeps (λ m' res k more' h. quotient_at_keeps ws ht.below (λ k. at us k) m' scale res k (omega arith) (entry us hs.below m' k (omega arith) (omega arith)) (omega arith) h) m₃ (min (length us) (length ws) - 1) (r ∷ []) (le_refl m₃) (lr, tt)))))))

-- ---- exp, log
-- sum + a * b * T::from(j)
term_keeps : (m a b j sum : ℕ) → a < m → b < m → sum < m → Keeping m Node (λ P. bind (mul a b P) (λ p Q. bind (from j Q) (λ c R. bind (mul p c R) (λ t. add sum t))))
term_keeps m a b j sum la lb ls =
    next_keeps (mul_keeps la lb)
    (λ m₁ p more₁ lp. next_keeps (from_keeps j)
    (λ m₂ c more₂ lc. next_keeps (mul_keeps (omega arith) lc) (λ m₃ t more₃ lt. add_keeps (omega arith) lt)))

module _ {n : ℕ} (us : List ℕ) (hu : AllBelow n us) where
  exp_at_keeps : (m z : ℕ) (res : List ℕ) (k : ℕ) → n ≤ m → z < m → AllBelow m res → Keeping m Node (exp_at us z res k)
  exp_at_keeps m z res k more lz h =
      next_keeps
      (fold_keeps (λ m' sum j more' l. term_keeps m' (at res (k - j)) (at us j) j sum (entry res h m' (k - j) more' (omega arith)) (entry us hu m' j (omega arith) (omega arith)) l) m 1 k z (le_refl m) lz)
      (λ m₁ s more₁ ls. next_keeps (from_keeps k) (λ m₂ c more₂ lc. div_keeps (omega arith) lc))

  log_at_keeps : (m z : ℕ) (res : List ℕ) (k : ℕ) → n ≤ m → z < m → AllBelow m res → Keeping m Node (log_at us z res k)
  log_at_keeps m z res k more lz h =
      next_keeps
      (fold_keeps (λ m' sum j more' l. term_keeps m' (at us (k - j)) (at res j) j sum (entry us hu m' (k - j) (omega arith) (omega arith)) (entry res h m' j more' (omega arith)) l) m 1 (k - 1) z (le_refl m) lz)
      (λ m₁ s more₁ ls. next_keeps (from_keeps k)
      (λ m₂ c more₂ lc. next_keeps (mul_keeps (entry us hu m₂ k (omega arith) (omega arith)) lc)
      (λ m₃ p more₃ lp. next_keeps (sub_keeps lp (omega arith))
      (λ m₄ d more₄ ld. next_keeps (div_keeps ld (entry us hu m₄ 0 (omega arith) (omega arith)))
      (λ m₅ q more₅ lq. next_keeps (from_keeps k) (λ m₆ c more₆ lc. div_keeps (omega arith) lc))))))

module _ {n : ℕ} where
  pub exponential_keeps : (e : Expansion) → Within n e → Keeping n (Series (order e)) (exponential e)
  exponential_keeps (Constant c) h = constant_keeps (exp_keeps h.below.0)
  exponential_keeps (Polynomial us) h =
      polynomial_keeps h.least h.most
      (next_keeps (from_keeps 0)
      (λ m z more lz. next_keeps (exp_keeps (entry us h.below m 0 more (omega arith)))
      (λ m₁ r more₁ lr. nodes_as (one_and_rest h.least)
      (fill_keeps (λ m' res k more' b. exp_at_keeps us h.below m' z res k (omega arith) (omega arith) b) m₁ (length us - 1) (r ∷ []) (le_refl m₁) (lr, tt)))))

  pub logarithm_keeps : (e : Expansion) → Within n e → Keeping n (Series (order e)) (logarithm e)
  logarithm_keeps (Constant c) h = constant_keeps (log_keeps h.below.0)
  logarithm_keeps (Polynomial us) h =
      polynomial_keeps h.least h.most
      (next_keeps (from_keeps 0)
      (λ m z more lz. next_keeps (log_keeps (entry us h.below m 0 more (omega arith)))
      (λ m₁ r more₁ lr. nodes_as (one_and_rest h.least)
      (fill_keeps (λ m' res k more' b. log_at_keeps us h.below m' z res k (omega arith) (omega arith) b) m₁ (length us - 1) (r ∷ []) (le_refl m₁) (lr, tt)))))

  pub maximum_keeps : (s t : Expansion) → Within n s → Within n t → Keeping n (Series (min (order s) (order t))) (maximum s t)
  maximum_keeps (Constant a) (Constant b) hs ht = constant_keeps (max_keeps hs.below.0 ht.below.0)
  maximum_keeps (Constant a) (Polynomial ws) hs ht = refuse_keeps max_reached
  maximum_keeps (Polynomial us) (Constant b) hs ht = refuse_keeps max_reached
  maximum_keeps (Polynomial us) (Polynomial ws) hs ht = refuse_keeps max_reached

-- ---- pow: with no digits of the exponent left the result so far, else that times the base
abbrev pow_order : ℕ → ℕ → ℕ → ℕ
pow_order zero r b = r
pow_order (suc e) r b = min r b

some_power : (e r b : ℕ) → (e ≡ 0 → ⊥) → min r b ≡ pow_order e r b
some_power zero r b h = absurd (h refl)
some_power (suc e) r b h = refl

same_min : (b : ℕ) → min b b ≡ b
same_min b = min-eq_left (le_refl b)

again : (r b : ℕ) → min (min r b) b ≡ min r b
again r b = min-eq_left (min-le_right r b)

series_more : {k n m : ℕ} {e : Expansion} → n ≤ m → Series k n e → Series k m e
series_more {e = e} more h = record { within = within_more e more h.within; order = h.order }

-- a product of two expansions of known orders
product_series : {n r b : ℕ} {res base : Expansion} → Series r n res → Series b n base → Keeping n (Series (min r b)) (times res base)
product_series {n} {r} {b} {res} {base} hr hb =
    series_as (ap (λ (i : ℕ). min i (order base)) hr.order ∙ ap (λ (i : ℕ). min r i) hb.order) (times_keeps res base hr.within hb.within)

halved : (e k : ℕ) → e < 2 ^ suc k → e / 2 < 2 ^ k
halved e k h =
    let twice : 2 ^ suc k ≡ 2 ^ k * 2 = pow-suc 2 k in
    let parts : e / 2 * 2 + e % 2 ≡ e = div-add-mod' e 2 in
    omega (arith, h, twice, parts)

-- what is left of a power, from any result and base
abbrev PowKeeps : ℕ → ℕ → Type 0
PowKeeps k e = (n r b : ℕ) (res base : Expansion) → Series r n res → Series b n base → Keeping n (Series (pow_order e r b)) (pow_from k e res base)

pow_from_keeps : (k e : ℕ) → e < 2 ^ k → PowKeeps k e
unfolding pow_from
pow_from_keeps zero e l n r b res base hr hb =
    let none : e ≡ 0 = omega arith in
    rw none (yield_keeps (λ m more. series_more more hr))
pow_from_keeps (suc k) e l n r b res base hr hb = go (ℕ_discrete (e % 2) 1) (ℕ_discrete (e / 2) 0) (pow_from_keeps k (e / 2) (halved e k l))
  where
    parts : e / 2 * 2 + e % 2 ≡ e
    parts = div-add-mod' e 2

    small : e % 2 < 2
    small = mod-lt e (omega arith)

    next : (res2 : Expansion) → Work Expansion
    next res2 = cond (eqb (e / 2) 0) (yield res2) (λ P. bind (times base base P) (λ base2. pow_from k (e / 2) res2 base2))

    no_power : e ≡ 0 → r ≡ pow_order e r b
    no_power z = rw z refl

    -- no square after the last digit
    ended : e / 2 ≡ 0 → (m j : ℕ) (res2 : Expansion) → Series j m res2 → Keeping m (Series j) (next res2)
    ended last m j res2 h = rw (eq-eqb (e / 2) 0 last) (yield_keeps (λ m' more'. series_more more' h))

    -- the square, and what is left
    onward :
        PowKeeps k (e / 2) → (e / 2 ≡ 0 → ⊥) → (m j : ℕ) (res2 : Expansion) → n ≤ m → Series j m res2 → Keeping m (Series (min j b)) (next res2)
    onward less some m j res2 more h =
        rw (ne_eqb (e / 2) 0 some)
        (next_keeps (product_series (series_more more hb) (series_more more hb))
        (λ m' base2 more' h'. series_as (sym (some_power (e / 2) j (min b b) some) ∙ ap (min j) (same_min b)) (less m' j (min b b) res2 base2 (series_more more' h) h')))

    go :
        Dec (e % 2 ≡ 1) → Dec (e / 2 ≡ 0)
        → PowKeeps k (e / 2)
        → Keeping n (Series (pow_order e r b)) (λ P. bind (cond (eqb (e % 2) 1) (times res base) (yield res) P) next)
    go (yes odd) (yes last) less =
        let some : e ≡ 0 → ⊥ = λ z. omega (arith, odd, z) in
        rw (eq-eqb (e % 2) 1 odd)
        (next_keeps (product_series hr hb) (λ m x more h. series_as (some_power e r b some) (ended last m (min r b) x h)))
    go (yes odd) (no further) less =
        let some : e ≡ 0 → ⊥ = λ z. omega (arith, odd, z) in
        rw (eq-eqb (e % 2) 1 odd)
        (next_keeps (product_series hr hb) (λ m x more h. series_as (again r b ∙ some_power e r b some) (onward less further m (min r b) x more h)))
    go (no even) (yes last) less =
        let none : e ≡ 0 = omega (arith, parts, small, even, last) in
        rw (ne_eqb (e % 2) 1 even)
        (next_keeps (yield_keeps (λ m more. series_more more hr)) (λ m x more h. series_as (no_power none) (ended last m r x h)))
    go (no even) (no further) less =
        let some : e ≡ 0 → ⊥ = λ z. further (omega (arith, parts, small, z)) in
        rw (ne_eqb (e % 2) 1 even)
        (next_keeps (yield_keeps (λ m more. series_more more hr)) (λ m x more h. series_as (some_power e r b some) (onward less further m r x more h)))

pub power_keeps : {n : ℕ} (base : Expansion) (e : ℕ) → e < 2 ^ 32 → Within n base → Keeping n (Series (power_order base e)) (power base e)
power_keeps base e l h =
    next_keeps (from_keeps 1)
    (λ m o more lo. series_as (starts_as_one e) (pow_from_keeps 32 e l m endless (order base) (Constant o) base (record { within = record { below = (lo, tt); least = omega arith; most = omega arith }; order = refl }) (record { within = within_more base more h; order = refl })))
  where
    starts_as_one : (e : ℕ) → pow_order e endless (order base) ≡ power_order base e
    starts_as_one zero = refl
    starts_as_one (suc e) = min-eq_right (order_most base h)

-- ---- subst: after the first coefficient the result is as long as the inner expansion
abbrev horner_order : List ℕ → ℕ → ℕ → ℕ
horner_order [] r i = r
horner_order (c ∷ cs) r i = min r i

after_one : (cs : List ℕ) (r i : ℕ) → horner_order cs (min r i) i ≡ min r i
after_one [] r i = refl
after_one (c ∷ cs) r i = again r i

horner_keeps : (inner : Expansion) (n r : ℕ) (cs : List ℕ) (res : Expansion) → Within n inner → AllBelow n cs → Series r n res → Keeping n (Series (horner_order cs r (order inner))) (horner inner cs res)
unfolding horner
horner_keeps inner n r [] res hi hc hr = yield_keeps (λ m more. series_more more hr)
horner_keeps inner n r (c ∷ cs) res hi hc hr =
    next_keeps (product_series hr (record { within = hi; order = refl }))
    (λ m p more hp. next_keeps (constant_added m p more hp)
    (λ m' s more' hs. series_as (after_one cs r (order inner)) (horner_keeps inner m' (min r (order inner)) cs s (within_more inner (omega arith) hi) (all_below_more cs (omega arith) hc.1) hs)))
  where
    constant_within : (m : ℕ) → n ≤ m → Within m (Constant c)
    constant_within m more = record { below = (omega (arith, hc.0), tt); least = omega arith; most = omega arith }

    -- a constant leaves the order as it is
    constant_added : (m : ℕ) (p : Expansion) → n ≤ m → Series (min r (order inner)) m p → Keeping m (Series (min r (order inner))) (add_to p (Constant c))
    constant_added m p more hp =
        series_as (min-eq_left (order_most p hp.within) ∙ hp.order) (add_to_keeps p (Constant c) hp.within (constant_within m more))

reversed_below : (m : ℕ) (cs rest : List ℕ) → AllBelow m cs → AllBelow m rest → AllBelow m (reverse_aux cs rest)
reversed_below m [] rest h r = r
reversed_below m (c ∷ cs) rest h r = reversed_below m cs (c ∷ rest) h.1 (h.0, r)

pub subst_keeps : {n : ℕ} (outer inner : Expansion) → Within n outer → Within n inner → Keeping n (Series (subst_order outer inner)) (subst outer inner)
subst_keeps (Constant c) inner ho hi = yield_keeps (λ m more. record { within = within_more (Constant c) more ho; order = refl })
subst_keeps {n} (Polynomial cs) inner ho hi =
    next_keeps (from_keeps 0)
    (λ m z more lz. series_as (some_coefficients (reverse cs) (rw (length-reverse cs) ho.least))
    (horner_keeps inner m endless (reverse cs) (Constant z) (within_more inner more hi) (reversed_below m cs [] (all_below_more cs more ho.below) tt)
    (record { within = record { below = (lz, tt); least = omega arith; most = omega arith }; order = refl })))
  where
    some_coefficients : (ds : List ℕ) → 1 ≤ length ds → horner_order ds endless (order inner) ≡ order inner
    some_coefficients [] h = absurd (none h)
      where
        none : 1 ≤ 0 → ⊥
        none h = omega arith
    some_coefficients (d ∷ ds) h = min-eq_right (order_most inner hi)
