-- Quotients of expansions have the coefficients that the book's recurrence gives, in every ring. Where the divisor is a constant, the Rust divides each coefficient by it, so there x / y has to be (1 / y) × x.
-- Assumes nothing.
use mathlib.Core.Path.{◌≡◌, refl, sym, ap, ◌∙◌}
use mathlib.Core.List.{List, [], ◌∷◌}
use Prim.Native.Nat.{ℕ, zero, suc, ◌+◌, ◌-◌, ◌≤◌, ◌<◌, min}
use native.Mathlib.Omega.{arith}
use lib.IntN.{pos, negsuc}
use lib.ListN.{length}
use Rattle.pool.specs.Pool.{Pool}
use Rattle.constructor_laws.specs.Keeps.{Keeps}
use Rattle.taylor.specs.Work.{at}
use Rattle.taylor.specs.Expansion.{Expansion, quotient_at, quotient}
use Rattle.taylor.specs.declared.expansion.Expansion.TheVariants.{Polynomial}
use Rattle.constructor_laws.proofs.Giving.{Gives, gives_weaker, gives_next}
use Rattle.taylor_laws.proofs.Lists.{Shows, shows_later, shows_none, shows_cons, each_gives, fold_gives, fill_gives}
use Rattle.meaning.specs.Model.{Algebra, Model, Distributive}
use Rattle.meaning.specs.Value.{Values}
use Rattle.meaning.proofs.Laws.{sum_assoc, product_comm, product_zero}
use Rattle.meaning.proofs.Running.{Has, has_later, Is, has_same, is_same, literal_gives, valued}
use Rattle.taylor_meaning.specs.Series.{minus, sum, Series, recurrence, over_step, Fractions}
use Rattle.taylor_meaning.proofs.Sums.{sum_more, sum_none, recurrence_solves, over_looks_below}
use Rattle.taylor_meaning.proofs.SeriesRing.{sum_zeros}
use Rattle.taylor_meaning.proofs.Working.{mul_gives, div_gives, sub_gives}
use Rattle.taylor_meaning.proofs.Operations.{Expands, constant, list, expands_same, constant_gives, list_gives, minus_zero}

module _ {A : Algebra} (M : Model A) (D : Distributive A) (env : Values A) (u w : Series A) where
  open A use {carrier, int, plus as ◌⊕◌, times as ◌⊗◌, over as ◌⊘◌}

  infixl 20 ◌⊕◌
  infixl 30 ◌⊗◌ ◌⊘◌
  abbrev over_v : Series A
  over_v = recurrence A (over_step A u w)

  abbrev scale : carrier
  scale = int (pos 1) ⊘ w 0

  abbrev terms : ℕ → ℕ → carrier
  terms k j = over_v j ⊗ w (k - j)

  solves : (k : ℕ) → over_v k ≡ scale ⊗ minus A (u k) (sum A (terms k) k)
  unfolding over_step
  solves k = recurrence_solves A (over_step A u w) (over_looks_below A u w) k

  -- coefficient 0
  first_is : over_v 0 ≡ scale ⊗ u 0
  first_is = solves 0 ∙ ap (λ x. scale ⊗ minus A (u 0) x) (sum_none A (terms 0)) ∙ ap (λ x. scale ⊗ x) (minus_zero M (u 0))

  -- one term more is taken away
  less_more : (x y z : carrier) → minus A (minus A x y) z ≡ minus A x (y ⊕ z)
  less_more x y z = sum_assoc M x (int (negsuc 0) ⊗ y) (int (negsuc 0) ⊗ z) ∙ ap (λ s. x ⊕ s) (sym (D.distributes (int (negsuc 0)) y z))

  -- scale * (0..k).fold(start, |sum, i| sum - result[i] * ws[k - i])
  quotient_at_gives :
      {P : Pool} {ws rs : List ℕ} {c : ℕ} (start : ℕ → ℕ) (k : ℕ)
      → Keeps P
      → Has A env P (start k) (u k)
      → Shows (valued A env) w P ws
      → Shows (valued A env) over_v P rs
      → Has A env P c scale
      → length rs ≡ k
      → k < length ws
      → Gives P (Is A env (over_v k)) (quotient_at start ws c rs k P)
  quotient_at_gives {P} {ws} {rs} {c} start k k_p hu sw sv hc long lw =
      gives_next
      (fold_gives (valued A env) (λ j. minus A (u k) (sum A (terms k) j)) 0 k (start k) P k_p (has_same (sym (ap (minus A (u k)) (sum_none A (terms k)) ∙ minus_zero M (u k))) hu) (λ Q a j k_q g_q l m ha.
      gives_next (mul_gives M env k_q (has_later k_p g_q (sv.entry j (omega arith))) (has_later k_p g_q (sw.entry (k - j) (omega arith)))) (λ t R k_r g_r ht.
      is_same (less_more (u k) (sum A (terms k) j) (terms k j) ∙ ap (minus A (u k)) (sym (sum_more A (terms k) j))) (sub_gives M env k_r (has_later k_q g_r ha) ht)))) (λ s Q k_q g_q hs.
      is_same (ap (λ j. scale ⊗ minus A (u k) (sum A (terms k) j)) (none k) ∙ sym (solves k)) (mul_gives M env k_q (has_later k_p g_q hc) hs))
    where
      none : (n : ℕ) → 0 + n ≡ n
      none n = omega arith

  -- a constant divisor
  by_constant : Fractions A → ((k : ℕ) → w (suc k) ≡ int (pos 0)) → (k : ℕ) → u k ⊘ w 0 ≡ over_v k
  by_constant fractions zw k =
      fractions.as_product (u k) (w 0)
      ∙ ap (λ x. scale ⊗ x) (sym (ap (minus A (u k)) (sum_zeros M (terms k) k (λ j l. no_term j l (zw (k - suc j)))) ∙ minus_zero M (u k)))
      ∙ sym (solves k)
    where
      above : (j : ℕ) → j < k → k - j ≡ suc (k - suc j)
      above j l = omega arith

      no_term : (j : ℕ) → j < k → w (suc (k - suc j)) ≡ int (pos 0) → terms k j ≡ int (pos 0)
      no_term j l z = ap (λ x. over_v j ⊗ x) (ap w (above j l) ∙ z) ∙ product_zero M (over_v j)

  -- 0 divided is 0
  zero_divided : ((k : ℕ) → u (suc k) ≡ int (pos 0)) → Fractions A → ((k : ℕ) → w (suc k) ≡ int (pos 0)) → (k : ℕ) → over_v (suc k) ≡ int (pos 0)
  zero_divided zu fractions zw k = sym (by_constant fractions zw (suc k)) ∙ ap (λ x. x ⊘ w 0) (zu k) ∙ M.zero_over (w 0)

  -- by a list
  pub quotient_by_list_gives : {n : ℕ} {P : Pool} {s : Expansion} {ws : List ℕ} → Keeps P → Expands A env n u P s → Expands A env n w P (Polynomial ws) → Gives P (Expands A env n over_v) (quotient s (Polynomial ws) P)
  quotient_by_list_gives {ws = ws} k (constant {c} hu zu) (list some l sw) =
      list_gives {m = 1 + (length ws - 1)} over_v (omega arith) (omega arith)
      (gives_next (literal_gives A env k (pos 0)) (λ z Q k_q g_q hz.
      gives_next (literal_gives A env k_q (pos 1)) (λ o R k_r g_r ho.
      let w_r = shows_later k_q g_r (shows_later k g_q sw) in
      gives_next (div_gives M env k_r ho (w_r.entry 0 some)) (λ d T k_t g_t hd.
      let u_t = has_later k_r g_t (has_later k_q g_r (has_later k g_q hu)) in
      gives_next (mul_gives M env k_t u_t hd) (λ r U k_u g_u hr.
      fill_gives (quotient_at (λ k. z) ws d) over_v (length ws - 1) (r ∷ []) U k_u
      (shows_cons (has_same (product_comm M (u 0) scale ∙ sym first_is) hr) shows_none) (λ X rs k_x g_x hrs a b.
      let z_x = has_later k_u g_x (has_later k_t g_u (has_later k_r g_t (has_later k_q g_r hz))) in
      let w_x = shows_later k_u g_x (shows_later k_t g_u (shows_later k_r g_t w_r)) in
      quotient_at_gives (λ k. z) (length rs) k_x (has_same (sym (later_zero (length rs) (omega arith))) z_x) w_x hrs (has_later k_u g_x (has_later k_t g_u hd)) refl (omega arith)))))))
    where
      later_zero : (k : ℕ) → 1 ≤ k → u k ≡ int (pos 0)
      later_zero zero h = absurd (never h)
        where
          never : 1 ≤ 0 → ⊥
          never h = omega arith
      later_zero (suc k) h = zu k
  quotient_by_list_gives {ws = ws} k (list {cs = us} some l su) (list some' l' sw) =
      list_gives {m = 1 + (min (length us) (length ws) - 1)} over_v (omega arith) (omega arith)
      (gives_next (literal_gives A env k (pos 0)) (λ z Q k_q g_q hz.
      gives_next (literal_gives A env k_q (pos 1)) (λ o R k_r g_r ho.
      let w_r = shows_later k_q g_r (shows_later k g_q sw) in
      gives_next (div_gives M env k_r ho (w_r.entry 0 some')) (λ d T k_t g_t hd.
      let u_t = shows_later k_r g_t (shows_later k_q g_r (shows_later k g_q su)) in
      gives_next (mul_gives M env k_t hd (u_t.entry 0 some)) (λ r U k_u g_u hr.
      fill_gives (quotient_at (λ k. at us k) ws d) over_v (min (length us) (length ws) - 1) (r ∷ []) U k_u
      (shows_cons (has_same (sym first_is) hr) shows_none) (λ X rs k_x g_x hrs a b.
      let u_x = shows_later k_u g_x (shows_later k_t g_u u_t) in
      let w_x = shows_later k_u g_x (shows_later k_t g_u (shows_later k_r g_t w_r)) in
      quotient_at_gives (λ k. at us k) (length rs) k_x (u_x.entry (length rs) (omega arith)) w_x hrs (has_later k_u g_x (has_later k_t g_u hd)) refl (omega arith)))))))

  -- by any expansion
  pub quotient_gives : {n : ℕ} {P : Pool} {s t : Expansion} → Fractions A → Keeps P → Expands A env n u P s → Expands A env n w P t → Gives P (Expands A env n over_v) (quotient s t P)
  quotient_gives fractions k (constant hu zu) (constant hw zw) =
      constant_gives over_v (zero_divided zu fractions zw) (is_same (by_constant fractions zw 0) (div_gives M env k hu hw))
  quotient_gives {P = P} fractions k (list {cs = us} some l su) (constant hw zw) =
      gives_weaker (λ Q e g h. expands_same (by_constant fractions zw) h)
      (list_gives (λ j. u j ⊘ w 0) some l (each_gives (λ x. x ⊘ w 0) u us P k su (λ Q a x k_q g_q ha. div_gives M env k_q ha (has_later k g_q hw))))
  quotient_gives fractions k (constant hu zu) (list some l sw) = quotient_by_list_gives k (constant hu zu) (list some l sw)
  quotient_gives fractions k (list some l su) (list some' l' sw) = quotient_by_list_gives k (list some l su) (list some' l' sw)
