-- Substituting one expansion into another is Horner's method on their series; a coefficient, a derivative and a maximum are what their names say.
-- Assumes nothing.
use mathlib.Core.Path.{◌≡◌, refl, sym, ap, ◌∙◌}
use mathlib.Core.List.{List, [], ◌∷◌, ◌++◌, reverse, reverse_aux, reverse_aux-eq}
use Prim.Native.Nat.{ℕ, zero, suc, ◌+◌, ◌≤◌, ◌<◌}
use native.Mathlib.Omega.{arith}
use lib.IntN.{pos}
use lib.ListN.{length}
use Rattle.pool.specs.Pool.{Pool, node_at}
use Rattle.constructor_laws.specs.Grown.{Grown}
use Rattle.constructor_laws.specs.Keeps.{Keeps}
use Rattle.constructor_laws.proofs.Growth.{grown_by_both}
use Rattle.taylor.specs.Work.{bind, from, mul, at}
use Rattle.taylor.specs.Expansion.{Expansion, horner, subst, coeff, derivative, maximum}
use Rattle.taylor.specs.declared.expansion.Expansion.TheVariants.{Constant, Polynomial}
use Rattle.constructor_laws.proofs.Giving.{Gives, ended, gives_weaker, gives_here, gives_next}
use Rattle.taylor_laws.proofs.Lists.{fold_gives}
use Rattle.meaning.specs.Model.{Algebra, Model}
use Rattle.meaning.specs.Value.{Values, value}
use Rattle.meaning.proofs.Values.{Each, value_kept}
use Rattle.meaning.proofs.Laws.{one_product, product_zero}
use Rattle.meaning.proofs.Running.{Has, has_later, Is, is_same, has_same, literal_gives, valued}
use Rattle.taylor_meaning.specs.Series.{Series, constant_series, plus_series, times_series, composed, factorial_in}
use Rattle.taylor_meaning.proofs.Working.{mul_gives, max_gives}
use Rattle.taylor_meaning.proofs.Operations.{Expands, constant, list, expands_later, constant_gives, add_to_gives, times_gives}

module _ {A : Algebra} (M : Model A) (env : Values A) where
  open A use {carrier, int, times as ◌⊗◌}

  infixl 30 ◌⊗◌
  abbrev val : Pool → ℕ → carrier
  val P i = value A env (node_at P) i

  -- ---- subst

  -- res = res * subst + c, for each c in order
  abbrev turned : (ℕ → carrier) → Series A → Series A → List ℕ → Series A
  turned f w r [] = r
  turned f w r (c ∷ cs) = turned f w (plus_series A (times_series A r w) (constant_series A (f c))) cs

  turned_append : (f : ℕ → carrier) (w r : Series A) (a b : List ℕ) → turned f w r (a ++ b) ≡ turned f w (turned f w r a) b
  turned_append f w r [] b = refl
  turned_append f w r (c ∷ a) b = turned_append f w (plus_series A (times_series A r w) (constant_series A (f c))) a b

  -- from the last coefficient to the first
  turned_reverse : (f : ℕ → carrier) (w : Series A) (cs : List ℕ) → turned f w (constant_series A (int (pos 0))) (reverse cs) ≡ composed A f w cs
  turned_reverse f w [] = refl
  turned_reverse f w (c ∷ cs) =
      ap (turned f w (constant_series A (int (pos 0)))) (reverse_aux-eq cs (c ∷ []))
      ∙ turned_append f w (constant_series A (int (pos 0))) (reverse cs) (c ∷ [])
      ∙ ap (λ r. plus_series A (times_series A r w) (constant_series A (f c))) (turned_reverse f w cs)

  each_reverse : (H : ℕ → Type 0) (cs r : List ℕ) → Each H cs → Each H r → Each H (reverse_aux cs r)
  each_reverse H [] r h t = t
  each_reverse H (c ∷ cs) r h t = each_reverse H cs (c ∷ r) h.1 (h.0, t)

  each_entry : (H : ℕ → Type 0) (cs : List ℕ) → ((k : ℕ) → k < length cs → H (at cs k)) → Each H cs
  each_entry H [] h = tt
  each_entry H (c ∷ cs) h = (h 0 (omega arith), each_entry H cs (λ k l. h (suc k) (omega arith)))

  horner_gives :
      {n : ℕ} (P₀ : Pool) (w : Series A) (inner : Expansion) (ls : List ℕ) (r : Series A) (res : Expansion) (P : Pool)
      → Keeps P₀ → Grown P₀ P → Keeps P
      → Each (λ c. c < P₀.count) ls
      → Expands A env n w P inner
      → Expands A env n r P res
      → Gives P (Expands A env n (turned (val P₀) w r ls)) (horner inner ls res P)
  unfolding horner
  horner_gives P₀ w inner [] r res P k₀ g k h hw hr = gives_here k hr
  horner_gives P₀ w inner (c ∷ ls) r res P k₀ g k h hw hr =
      gives_next (times_gives M env k hr hw) (λ p Q k_q g_q hp.
      let le = g.no_fewer in
      let more = g_q.no_fewer in
      let l = h.0 in
      gives_next (add_to_gives M env k_q hp (constant (record { below = omega arith; is = value_kept A env k₀ (grown_by_both g g_q) c l }) (λ j. refl))) (λ s R k_r g_r hs.
      horner_gives P₀ w inner ls (plus_series A (times_series A r w) (constant_series A (val P₀ c))) s R k₀ (grown_by_both g (grown_by_both g_q g_r)) k_r h.1
      (expands_later k_q g_r (expands_later k g_q hw)) hs))

  -- a list
  pub subst_list_gives : {n : ℕ} {w : Series A} {P : Pool} {inner : Expansion} (cs : List ℕ) → Keeps P → ((k : ℕ) → k < length cs → at cs k < P.count) → Expands A env n w P inner → Gives P (Expands A env n (composed A (val P) w cs)) (subst (Polynomial cs) inner P)
  subst_list_gives {n} {w} {P} {inner} cs k h hw =
      gives_next (literal_gives A env k (pos 0)) (λ z Q k_q g_q hz.
      gives_weaker (λ R e g s. rw (sym (turned_reverse (val P) w cs)) s)
      (horner_gives P w inner (reverse cs) (constant_series A (int (pos 0))) (Constant z) Q k g_q k_q (each_reverse (λ c. c < P.count) cs [] (each_entry (λ c. c < P.count) cs h) tt) (expands_later k g_q hw) (constant hz (λ j. refl))))

  -- ---- coeff, derivative, max

  pub coeff_gives : {n : ℕ} {f : Series A} {P : Pool} {e : Expansion} (k : ℕ) → k < n → Keeps P → Expands A env n f P e → Gives P (Is A env (f k)) (coeff e k P)
  coeff_gives zero l k_p (constant h z) = gives_here k_p h
  coeff_gives (suc k) l k_p (constant h z) = is_same (sym (z k)) (literal_gives A env k_p (pos 0))
  coeff_gives zero l k_p (list some long s) = gives_here k_p (s.entry 0 (omega arith))
  coeff_gives (suc k) l k_p (list some long s) = gives_here k_p (s.entry (suc k) (omega arith))

  -- (1..=order).fold(one, |acc, i| acc * T::from(i)), before step j
  abbrev partial : ℕ → carrier
  partial zero = int (pos 1)
  partial (suc j) = factorial_in A j

  pub derivative_gives : {n : ℕ} {f : Series A} {P : Pool} {e : Expansion} (k : ℕ) → k < n → Keeps P → Expands A env n f P e → Gives P (Is A env (factorial_in A k ⊗ f k)) (derivative e k P)
  derivative_gives {f = f} zero l k_p (constant h z) = gives_here k_p (has_same (sym (one_product M (f 0))) h)
  derivative_gives {f = f} (suc k) l k_p (constant h z) = is_same (sym (ap (λ x. factorial_in A (suc k) ⊗ x) (z k) ∙ product_zero M (factorial_in A (suc k)))) (literal_gives A env k_p (pos 0))
  derivative_gives {f = f} {P} k l k_p (list {cs = cs} some long s) =
      gives_next (literal_gives A env k_p (pos 1)) (λ o Q k_q g_q ho.
      gives_next (fold_gives (valued A env) partial 1 k o Q k_q ho (λ R a j k_r g_r lo hi ha. step R a j k_r lo ha)) (λ x R k_r g_r hx.
      mul_gives M env k_r (has_same (ap partial (one_and k)) hx) (has_later k_q g_r (has_later k_p g_q (s.entry k (omega arith))))))
    where
      one_and : (k : ℕ) → 1 + k ≡ suc k
      one_and k = omega arith

      never : {B : Type 0} → 1 ≤ 0 → B
      never h = absurd (no_less h)
        where
          no_less : 1 ≤ 0 → ⊥
          no_less h = omega arith

      step : (R : Pool) (a j : ℕ) → Keeps R → 1 ≤ j → Has A env R a (partial j) → Gives R (Is A env (partial (suc j))) (bind (from j R) (λ c. mul a c))
      step R a zero k_r lo ha = never lo
      step R a (suc j) k_r lo ha = gives_next (literal_gives A env k_r (pos (suc j))) (λ c T k_t g_t hc. mul_gives M env k_t (has_later k_r g_t ha) hc)

  -- of two constants; any other maximum is refused
  pub maximum_gives : {n : ℕ} {u w : Series A} {P : Pool} {s t : Expansion} → Keeps P → Expands A env n u P s → Expands A env n w P t → Gives P (Expands A env n (constant_series A (A.max (u 0) (w 0)))) (maximum s t P)
  maximum_gives {u = u} {w} k (constant hu zu) (constant hw zw) = constant_gives (constant_series A (A.max (u 0) (w 0))) (λ j. refl) (max_gives M env k hu hw)
  maximum_gives k (constant hu zu) (list some l s) = ended
  maximum_gives k (list some l s) (constant hw zw) = ended
  maximum_gives k (list some l s) (list some' l' s') = ended
