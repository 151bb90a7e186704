-- Exponentials and logarithms of expansions have the coefficients that the book's recurrences give: each coefficient is a fold over those below it.
-- Assumes nothing.
use mathlib.Core.Path.{◌≡◌, refl, sym, ap, ◌∙◌}
use mathlib.Core.List.{List, [], ◌∷◌}
use Prim.Native.Nat.{ℕ, zero, suc, ◌+◌, ◌-◌, ◌≤◌, ◌<◌}
use native.Mathlib.Omega.{arith}
use lib.IntN.{pos}
use lib.ListN.{length}
use Rattle.pool.specs.Pool.{Pool}
use Rattle.constructor_laws.specs.Keeps.{Keeps}
use Rattle.taylor.specs.Expansion.{Expansion, exp_term, exp_at, exponential, log_term, log_at, logarithm}
use Rattle.constructor_laws.proofs.Giving.{Gives, gives_next}
use Rattle.taylor_laws.proofs.Lists.{Shows, shows_later, shows_none, shows_cons, fold_gives, fill_gives}
use Rattle.meaning.specs.Model.{Algebra, Model}
use Rattle.meaning.specs.Value.{Values}
use Rattle.meaning.proofs.Values.{same_op}
use Rattle.meaning.proofs.Laws.{product_comm, product_assoc, product_zero, zero_product}
use Rattle.meaning.proofs.Running.{Has, has_later, Is, has_same, is_same, literal_gives, valued}
use Rattle.taylor_meaning.specs.Series.{minus, sum, Series, recurrence, exp_step, log_step}
use Rattle.taylor_meaning.proofs.Sums.{sum_more, sum_none, recurrence_solves, exp_looks_below, log_looks_below}
use Rattle.taylor_meaning.proofs.SeriesRing.{sum_zeros}
use Rattle.taylor_meaning.proofs.Working.{add_gives, mul_gives, div_gives, exp_gives, log_gives, sub_gives}
use Rattle.taylor_meaning.proofs.Operations.{Expands, constant, list, constant_gives, list_gives, minus_zero}

module _ {A : Algebra} (M : Model A) (env : Values A) where
  open A use {carrier, int, plus as ◌⊕◌, times as ◌⊗◌, over as ◌⊘◌}

  infixl 20 ◌⊕◌
  infixl 30 ◌⊗◌ ◌⊘◌
  -- the value of a fold over j = 1, 2, .. before step j
  abbrev partial : (ℕ → carrier) → ℕ → carrier
  partial f zero = int (pos 0)
  partial f (suc i) = sum A f i

  suc_both : (k i : ℕ) → suc k - suc i ≡ k - i
  suc_both k i = omega arith

  one_and : (k : ℕ) → 1 + k ≡ suc k
  one_and k = omega arith

  no_step : {B : Type 0} → 1 ≤ 0 → B
  no_step h = absurd (never h)
    where
      never : 1 ≤ 0 → ⊥
      never h = omega arith

  module _ (u : Series A) where
    abbrev exp_v : Series A
    exp_v = recurrence A (exp_step A u)

    abbrev exp_terms : ℕ → ℕ → carrier
    exp_terms k i = exp_v (k - i) ⊗ (int (pos (suc i)) ⊗ u (suc i))

    -- res[k - j] * coeffs[j] * T::from(j), added
    exp_term_gives :
        {P : Pool} {us rs : List ℕ} (k a j : ℕ)
        → Keeps P
        → Shows (valued A env) u P us
        → Shows (valued A env) exp_v P rs
        → length rs ≡ suc k
        → suc k < length us
        → 1 ≤ j
        → j < 1 + suc k
        → Has A env P a (partial (exp_terms k) j)
        → Gives P (Is A env (partial (exp_terms k) (suc j))) (exp_term rs us (suc k) a j P)
    exp_term_gives k a zero k_p su sv long lu l m ha = no_step l
    exp_term_gives k a (suc i) k_p su sv long lu l m ha =
        gives_next (mul_gives M env k_p (sv.entry (suc k - suc i) (omega arith)) (su.entry (suc i) (omega arith))) (λ p Q k_q g_q hp.
        gives_next (literal_gives A env k_q (pos (suc i))) (λ n R k_r g_r hn.
        gives_next (mul_gives M env k_r (has_later k_q g_r hp) hn) (λ t T k_t g_t ht.
        is_same (sym (sum_more A (exp_terms k) i))
        (add_gives M env k_t (has_later k_r g_t (has_later k_q g_r (has_later k_p g_q ha))) (has_same (order_of k i) ht)))))
      where
        order_of : (k i : ℕ) → exp_v (suc k - suc i) ⊗ u (suc i) ⊗ int (pos (suc i)) ≡ exp_terms k i
        order_of k i =
            product_assoc M (exp_v (suc k - suc i)) (u (suc i)) (int (pos (suc i)))
            ∙ same_op ◌⊗◌ (ap exp_v (suc_both k i)) (product_comm M (u (suc i)) (int (pos (suc i))))

    exp_at_gives :
        {P : Pool} {us rs : List ℕ} {z : ℕ} (k : ℕ)
        → Keeps P
        → Shows (valued A env) u P us
        → Shows (valued A env) exp_v P rs
        → Has A env P z (int (pos 0))
        → length rs ≡ k
        → k < length us
        → 1 ≤ k
        → Gives P (Is A env (exp_v k)) (exp_at us z rs k P)
    unfolding exp_step
    exp_at_gives zero k_p su sv hz long lu some = no_step some
    exp_at_gives {P} {us} {rs} {z} (suc k) k_p su sv hz long lu some =
        gives_next
        (fold_gives (valued A env) (partial (exp_terms k)) 1 (suc k) z P k_p (has_same (sym (sum_none A (exp_terms k))) hz) (λ Q a j k_q g_q l m ha.
        exp_term_gives k a j k_q (shows_later k_p g_q su) (shows_later k_p g_q sv) long lu l m ha)) (λ s Q k_q g_q hs.
        gives_next (literal_gives A env k_q (pos (suc k))) (λ n R k_r g_r hn.
        is_same (sym (recurrence_solves A (exp_step A u) (exp_looks_below A u) (suc k)))
        (div_gives M env k_r (has_later k_q g_r (has_same (ap (partial (exp_terms k)) (one_and (suc k))) hs)) hn)))

    pub exponential_gives : {n : ℕ} {P : Pool} {s : Expansion} → Keeps P → Expands A env n u P s → Gives P (Expands A env n (recurrence A (exp_step A u))) (exponential s P)
    unfolding exp_step
    exponential_gives k (constant hu zu) =
        constant_gives exp_v (λ j.
        recurrence_solves A (exp_step A u) (exp_looks_below A u) (suc j)
        ∙ ap (λ x. x ⊘ int (pos (suc j))) (sum_zeros M (exp_terms j) (suc j) (λ i l. ap (λ x. exp_v (j - i) ⊗ (int (pos (suc i)) ⊗ x)) (zu i) ∙ ap (λ x. exp_v (j - i) ⊗ x) (product_zero M (int (pos (suc i)))) ∙ product_zero M (exp_v (j - i))))
        ∙ M.zero_over (int (pos (suc j))))
        (is_same (sym (recurrence_solves A (exp_step A u) (exp_looks_below A u) 0)) (exp_gives M env k hu))
    exponential_gives {P = P} k (list {cs = us} some l su) =
        list_gives {m = 1 + (length us - 1)} exp_v (omega arith) (omega arith)
        (gives_next (literal_gives A env k (pos 0)) (λ z Q k_q g_q hz.
        gives_next (exp_gives M env k_q (has_later k g_q (su.entry 0 some))) (λ r R k_r g_r hr.
        fill_gives (exp_at us z) exp_v (length us - 1) (r ∷ []) R k_r
        (shows_cons (has_same (sym (recurrence_solves A (exp_step A u) (exp_looks_below A u) 0)) hr) shows_none) (λ T rs k_t g_t hrs a b.
        exp_at_gives (length rs) k_t (shows_later k_r g_t (shows_later k_q g_r (shows_later k g_q su))) hrs (has_later k_r g_t (has_later k_q g_r hz)) refl (omega arith) (omega arith)))))

  -- ---- log

  module _ (u : Series A) where
    abbrev log_v : Series A
    log_v = recurrence A (log_step A u)

    abbrev log_terms : ℕ → ℕ → carrier
    log_terms k i = u (k - i) ⊗ (int (pos (suc i)) ⊗ log_v (suc i))

    -- coeffs[k - j] * res[j] * T::from(j), added
    log_term_gives :
        {P : Pool} {us rs : List ℕ} (k a j : ℕ)
        → Keeps P
        → Shows (valued A env) u P us
        → Shows (valued A env) log_v P rs
        → length rs ≡ suc k
        → suc k < length us
        → 1 ≤ j
        → j < 1 + k
        → Has A env P a (partial (log_terms k) j)
        → Gives P (Is A env (partial (log_terms k) (suc j))) (log_term rs us (suc k) a j P)
    log_term_gives k a zero k_p su sv long lu l m ha = no_step l
    log_term_gives k a (suc i) k_p su sv long lu l m ha =
        gives_next (mul_gives M env k_p (su.entry (suc k - suc i) (omega arith)) (sv.entry (suc i) (omega arith))) (λ p Q k_q g_q hp.
        gives_next (literal_gives A env k_q (pos (suc i))) (λ n R k_r g_r hn.
        gives_next (mul_gives M env k_r (has_later k_q g_r hp) hn) (λ t T k_t g_t ht.
        is_same (sym (sum_more A (log_terms k) i))
        (add_gives M env k_t (has_later k_r g_t (has_later k_q g_r (has_later k_p g_q ha))) (has_same (order_of k i) ht)))))
      where
        order_of : (k i : ℕ) → u (suc k - suc i) ⊗ log_v (suc i) ⊗ int (pos (suc i)) ≡ log_terms k i
        order_of k i =
            product_assoc M (u (suc k - suc i)) (log_v (suc i)) (int (pos (suc i)))
            ∙ same_op ◌⊗◌ (ap u (suc_both k i)) (product_comm M (log_v (suc i)) (int (pos (suc i))))

    log_at_gives :
        {P : Pool} {us rs : List ℕ} {z : ℕ} (k : ℕ)
        → Keeps P
        → Shows (valued A env) u P us
        → Shows (valued A env) log_v P rs
        → Has A env P z (int (pos 0))
        → length rs ≡ k
        → k < length us
        → 1 ≤ k
        → Gives P (Is A env (log_v k)) (log_at us z rs k P)
    unfolding log_step
    log_at_gives zero k_p su sv hz long lu some = no_step some
    log_at_gives {P} {us} {rs} {z} (suc k) k_p su sv hz long lu some =
        gives_next
        (fold_gives (valued A env) (partial (log_terms k)) 1 (suc k - 1) z P k_p (has_same (sym (sum_none A (log_terms k))) hz) (λ Q a j k_q g_q l m ha.
        log_term_gives k a j k_q (shows_later k_p g_q su) (shows_later k_p g_q sv) long lu l (omega arith) ha)) (λ s Q k_q g_q hs.
        let u_q = shows_later k_p g_q su in
        gives_next (literal_gives A env k_q (pos (suc k))) (λ n R k_r g_r hn.
        let u_r = shows_later k_q g_r u_q in
        gives_next (mul_gives M env k_r (u_r.entry (suc k) lu) hn) (λ p T k_t g_t hp.
        gives_next (sub_gives M env k_t (has_same (product_comm M (u (suc k)) (int (pos (suc k)))) hp) (has_later k_r g_t (has_later k_q g_r (has_same (ap (partial (log_terms k)) (ends k)) hs)))) (λ d U k_u g_u hd.
        let u_u = shows_later k_t g_u (shows_later k_r g_t u_r) in
        gives_next (div_gives M env k_u hd (u_u.entry 0 (omega arith))) (λ q W k_w g_w hq.
        gives_next (literal_gives A env k_w (pos (suc k))) (λ m X k_x g_x hm.
        is_same (sym (recurrence_solves A (log_step A u) (log_looks_below A u) (suc k))) (div_gives M env k_x (has_later k_w g_x hq) hm)))))))
      where
        ends : (k : ℕ) → 1 + (suc k - 1) ≡ suc k
        ends k = omega arith

    pub logarithm_gives : {n : ℕ} {P : Pool} {s : Expansion} → Keeps P → Expands A env n u P s → Gives P (Expands A env n (recurrence A (log_step A u))) (logarithm s P)
    unfolding log_step
    logarithm_gives k (constant hu zu) =
        constant_gives log_v (λ j.
        recurrence_solves A (log_step A u) (log_looks_below A u) (suc j)
        ∙ ap (λ x. x ⊘ u 0 ⊘ int (pos (suc j)))
        (same_op (minus A) (ap (λ x. int (pos (suc j)) ⊗ x) (zu j) ∙ product_zero M (int (pos (suc j)))) (sum_zeros M (log_terms j) j (λ i l. no_term j i l (zu (j - suc i))))
        ∙ minus_zero M (int (pos 0)))
        ∙ ap (λ x. x ⊘ int (pos (suc j))) (M.zero_over (u 0))
        ∙ M.zero_over (int (pos (suc j))))
        (is_same (sym (recurrence_solves A (log_step A u) (log_looks_below A u) 0)) (log_gives M env k hu))
      where
        above : (j i : ℕ) → i < j → j - i ≡ suc (j - suc i)
        above j i l = omega arith

        no_term : (j i : ℕ) → i < j → u (suc (j - suc i)) ≡ int (pos 0) → log_terms j i ≡ int (pos 0)
        no_term j i l z = ap (λ x. x ⊗ (int (pos (suc i)) ⊗ log_v (suc i))) (ap u (above j i l) ∙ z) ∙ zero_product M (int (pos (suc i)) ⊗ log_v (suc i))
    logarithm_gives {P = P} k (list {cs = us} some l su) =
        list_gives {m = 1 + (length us - 1)} log_v (omega arith) (omega arith)
        (gives_next (literal_gives A env k (pos 0)) (λ z Q k_q g_q hz.
        gives_next (log_gives M env k_q (has_later k g_q (su.entry 0 some))) (λ r R k_r g_r hr.
        fill_gives (log_at us z) log_v (length us - 1) (r ∷ []) R k_r
        (shows_cons (has_same (sym (recurrence_solves A (log_step A u) (log_looks_below A u) 0)) hr) shows_none) (λ T rs k_t g_t hrs a b.
        log_at_gives (length rs) k_t (shows_later k_r g_t (shows_later k_q g_r (shows_later k g_q su))) hrs (has_later k_r g_t (has_later k_q g_r hz)) refl (omega arith) (omega arith)))))
