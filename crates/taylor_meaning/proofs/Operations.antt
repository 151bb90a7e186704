-- Sums, differences and products of expansions have the coefficients that the book's recurrences give, of constants and of lists.
-- Assumes nothing.
use mathlib.Core.Path.{◌≡◌, refl, sym, ap, ◌∙◌}
use mathlib.Core.List.{List, []}
use Prim.Native.Nat.{ℕ, zero, suc, ◌+◌, ◌-◌, ◌≤◌, ◌<◌, min}
use native.Mathlib.Omega.{arith}
use lib.IntN.{pos, negsuc}
use lib.ListN.{length, length-replicate}
use Rattle.pool.specs.Pool.{Pool}
use Rattle.constructor_laws.specs.Grown.{Grown}
use Rattle.constructor_laws.specs.Keeps.{Keeps}
use Rattle.taylor.specs.Work.{Result, bind, yield, add, sub}
use Rattle.taylor.specs.Expansion.{Expansion, var, add_to, negate, sub_from, product_at, times}
use Rattle.taylor.specs.declared.expansion.Expansion.TheVariants.{Constant, Polynomial}
use Rattle.constructor_laws.proofs.Giving.{Aims, Gives, gives_weaker, gives_here, gives_next}
use Rattle.taylor_laws.proofs.Lists.{Shows, shows_later, shows_none, shows_cons, shows_repeated, ShowsLong, each_gives, each_two_gives, first_gives, fold_gives, fill_gives}
use Rattle.meaning.specs.Model.{Algebra, Model}
use Rattle.meaning.specs.Value.{Values}
use Rattle.meaning.proofs.Values.{same_op}
use Rattle.meaning.proofs.Laws.{sum_comm, sum_zero, zero_sum, product_comm, product_zero}
use Rattle.meaning.proofs.Running.{Has, has_later, Is, has_same, is_same, literal_gives, valued}
use Rattle.taylor_meaning.specs.Series.{minus, sum, Series, shifted, plus_series, times_series}
use Rattle.taylor_meaning.proofs.Sums.{sum_more, sum_none}
use Rattle.taylor_meaning.proofs.SeriesRing.{times_constant, constant_times}
use Rattle.taylor_meaning.proofs.Working.{add_gives, mul_gives, neg_gives, sub_gives}

module _ (A : Algebra) (env : Values A) where
  -- an expansion has the coefficients of a series: a constant all of them, a list its n first ones or more
  pub data Expands (n : ℕ) (f : Series A) (P : Pool) : Expansion → Type 0 where
    constant : {c : ℕ} → Has A env P c (f 0) → ((k : ℕ) → f (suc k) ≡ A.int (pos 0)) → Expands n f P (Constant c)
    list : {cs : List ℕ} → 0 < length cs → n ≤ length cs → Shows (valued A env) f P cs → Expands n f P (Polynomial cs)

module _ {A : Algebra} {env : Values A} where
  pub expands_later : {n : ℕ} {f : Series A} {P Q : Pool} {e : Expansion} → Keeps P → Grown P Q → Expands A env n f P e → Expands A env n f Q e
  expands_later k g (constant h z) = constant (has_later k g h) z
  expands_later k g (list some l s) = list some l (shows_later k g s)

  pub expands_same : {n : ℕ} {f g : Series A} {P : Pool} {e : Expansion} → ((k : ℕ) → f k ≡ g k) → Expands A env n f P e → Expands A env n g P e
  expands_same same (constant h z) = constant (has_same (same 0) h) (λ k. sym (same (suc k)) ∙ z k)
  expands_same same (list some l s) = list some l (record { entry = λ k l. has_same (same k) (s.entry k l) })

  -- a constant, or a list, that work gave
  pub constant_gives : {n : ℕ} {P : Pool} {r : Result ℕ} (f : Series A) → ((k : ℕ) → f (suc k) ≡ A.int (pos 0)) → Gives P (Is A env (f 0)) r → Gives P (Expands A env n f) (bind r (λ c. yield (Constant c)))
  constant_gives f z h = gives_next h (λ c Q k g s. gives_here k (constant s z))

  pub list_gives : {n m : ℕ} {P : Pool} {r : Result (List ℕ)} (f : Series A) → 0 < m → n ≤ m → Gives P (ShowsLong (valued A env) f m) r → Gives P (Expands A env n f) (bind r (λ cs. yield (Polynomial cs)))
  list_gives f some l h = gives_next h (λ cs Q k g s. let e = s.1 in gives_here k (list (omega arith) (omega arith) s.0))

-- the aims are series, and the expansions of a series meet it
abbrev pub expanding : (A : Algebra) → Values A → ℕ → Aims Expansion
expanding A env n = record { Aim = Series A; Meets = Expands A env n; later = expands_later }

pub minus_zero : {A : Algebra} (M : Model A) (x : A.carrier) → minus A x (A.int (pos 0)) ≡ x
minus_zero {A} M x = ap (λ y. A.plus x y) (product_zero M (A.int (negsuc 0))) ∙ sum_zero M x

module _ {A : Algebra} (M : Model A) (env : Values A) where
  open A use {carrier, int, plus as ◌⊕◌, times as ◌⊗◌}

  infixl 20 ◌⊕◌
  infixl 30 ◌⊗◌
  zero_plus_zero : {x y : carrier} → x ≡ int (pos 0) → y ≡ int (pos 0) → x ⊕ y ≡ int (pos 0)
  zero_plus_zero ex ey = same_op ◌⊕◌ ex ey ∙ sum_zero M (int (pos 0))

  -- ---- var: x + t

  pub var_gives : {x : carrier} {P : Pool} (p order : ℕ) → Keeps P → Has A env P p x → Gives P (Expands A env (suc order) (shifted A x)) (var p order P)
  var_gives {x} p zero k h =
      list_gives (shifted A x) (omega arith) (omega arith)
      (gives_next (literal_gives A env k (pos 0)) (λ z Q k_q g_q hz. gives_here k_q (shows_cons (has_later k g_q h) shows_none, refl)))
  var_gives {x} p (suc n) k h =
      list_gives (shifted A x) (omega arith) (omega arith)
      (gives_next (literal_gives A env k (pos 0)) (λ z Q k_q g_q hz.
      gives_next (literal_gives A env k_q (pos 1)) (λ o R k_r g_r ho.
      gives_here k_r
      (shows_cons (has_later k_q g_r (has_later k g_q h)) (shows_cons ho (shows_repeated n z (has_later k_q g_r hz))), ap (λ (m : ℕ). suc (suc m)) (length-replicate {A = ℕ} n z)))))

  -- ---- add_assign
  pub add_to_gives : {n : ℕ} {u w : Series A} {P : Pool} {s t : Expansion} → Keeps P → Expands A env n u P s → Expands A env n w P t → Gives P (Expands A env n (plus_series A u w)) (add_to s t P)
  add_to_gives {u = u} {w} k (constant hu zu) (constant hw zw) = constant_gives (plus_series A u w) (λ j. zero_plus_zero (zu j) (zw j)) (add_gives M env k hu hw)
  add_to_gives {u = u} {w} k (list {cs = us} some l su) (constant {c} hw zw) =
      list_gives (plus_series A u w) some l
      (first_gives (λ a. add a c) u (plus_series A u w) us k su (λ j. sym (ap (λ x. u (suc j) ⊕ x) (zw j) ∙ sum_zero M (u (suc j)))) (λ a ha. add_gives M env k ha hw))
  add_to_gives {u = u} {w} k (constant {c} hu zu) (list {cs = ws} some l sw) =
      list_gives (plus_series A u w) some l
      (first_gives (λ a. add a c) w (plus_series A u w) ws k sw (λ j. sym (ap (λ x. x ⊕ w (suc j)) (zu j) ∙ zero_sum M (w (suc j)))) (λ a ha. is_same (sum_comm M (w 0) (u 0)) (add_gives M env k ha hu)))
  add_to_gives {u = u} {w} {P} k (list {cs = us} some l su) (list {cs = ws} some' l' sw) =
      list_gives (plus_series A u w) (omega arith) (omega arith)
      (each_two_gives ◌⊕◌ u w us ws P k su sw (λ Q a b x y k_q g_q ha hb. is_same (sum_comm M y x) (add_gives M env k_q hb ha)))

  -- ---- neg: v_k = -u_k
  pub negate_gives : {n : ℕ} {u : Series A} {P : Pool} {s : Expansion} → Keeps P → Expands A env n u P s → Gives P (Expands A env n (λ k. int (negsuc 0) ⊗ u k)) (negate s P)
  negate_gives {u = u} k (constant hu zu) =
      constant_gives (λ k. int (negsuc 0) ⊗ u k) (λ j. ap (λ x. int (negsuc 0) ⊗ x) (zu j) ∙ product_zero M (int (negsuc 0))) (neg_gives M env k hu)
  negate_gives {u = u} {P} k (list {cs = us} some l su) =
      list_gives (λ k. int (negsuc 0) ⊗ u k) some l (each_gives (λ x. int (negsuc 0) ⊗ x) u us P k su (λ Q a x k_q g_q ha. neg_gives M env k_q ha))

  -- ---- sub_assign: v_k = u_k - w_k
  pub sub_from_gives : {n : ℕ} {u w : Series A} {P : Pool} {s t : Expansion} → Keeps P → Expands A env n u P s → Expands A env n w P t → Gives P (Expands A env n (λ k. minus A (u k) (w k))) (sub_from s t P)
  sub_from_gives {u = u} {w} k (constant hu zu) (constant hw zw) =
      constant_gives (λ k. minus A (u k) (w k)) (λ j. same_op (minus A) (zu j) (zw j) ∙ minus_zero M (int (pos 0))) (sub_gives M env k hu hw)
  sub_from_gives {u = u} {w} k (list {cs = us} some l su) (constant {c} hw zw) =
      list_gives (λ k. minus A (u k) (w k)) some l
      (first_gives (λ a. sub a c) u (λ k. minus A (u k) (w k)) us k su (λ j. sym (ap (minus A (u (suc j))) (zw j) ∙ minus_zero M (u (suc j)))) (λ a ha. sub_gives M env k ha hw))
  sub_from_gives {u = u} {w} {P} k (constant {c} hu zu) (list {cs = ws} some l sw) =
      list_gives (λ k. minus A (u k) (w k)) some l
      (gives_next (each_gives (λ x. int (negsuc 0) ⊗ x) w ws P k sw (λ Q a x k_q g_q ha. neg_gives M env k_q ha)) (λ ns Q k_q g_q hns.
      let long = hns.1 in
      gives_weaker (λ R cs g h. (h.0, h.1 ∙ long))
      (first_gives (λ a. add a c) (λ k. int (negsuc 0) ⊗ w k) (λ k. minus A (u k) (w k)) ns k_q hns.0
      (λ j. sym (ap (λ x. x ⊕ int (negsuc 0) ⊗ w (suc j)) (zu j) ∙ zero_sum M (int (negsuc 0) ⊗ w (suc j))))
      (λ a ha. is_same (sum_comm M (int (negsuc 0) ⊗ w 0) (u 0)) (add_gives M env k_q ha (has_later k g_q hu))))))
  sub_from_gives {u = u} {w} {P} k (list {cs = us} some l su) (list {cs = ws} some' l' sw) =
      list_gives (λ k. minus A (u k) (w k)) (omega arith) (omega arith) (each_two_gives (minus A) u w us ws P k su sw (λ Q a b x y k_q g_q ha hb. sub_gives M env k_q ha hb))

  -- ---- mul

  -- (0..=k).fold(zero, |sum, j| sum + us[j] * ws[k - j])
  product_at_gives :
      {u w : Series A} {P : Pool} {us ws : List ℕ} {z : ℕ} (res : List ℕ) (k : ℕ)
      → Keeps P
      → Shows (valued A env) u P us
      → Shows (valued A env) w P ws
      → Has A env P z (int (pos 0))
      → k < length us
      → k < length ws
      → Gives P (Is A env (times_series A u w k)) (product_at us ws z res k P)
  unfolding times_series
  product_at_gives {u} {w} {P} {us} {ws} {z} res k k_p su sw hz lu lw =
      is_same (ap (sum A (λ j. u j ⊗ w (k - j))) (none (suc k)))
      (fold_gives (valued A env) (sum A (λ j. u j ⊗ w (k - j))) 0 (suc k) z P k_p (has_same (sym (sum_none A (λ j. u j ⊗ w (k - j)))) hz) (λ Q a j k_q g_q l m ha.
      gives_next (mul_gives M env k_q (has_later k_p g_q (su.entry j (omega arith))) (has_later k_p g_q (sw.entry (k - j) (omega arith)))) (λ t R k_r g_r ht.
      is_same (sym (sum_more A (λ j. u j ⊗ w (k - j)) j)) (add_gives M env k_r (has_later k_q g_r ha) ht))))
    where
      none : (n : ℕ) → 0 + n ≡ n
      none n = omega arith

  pub times_gives : {n : ℕ} {u w : Series A} {P : Pool} {s t : Expansion} → Keeps P → Expands A env n u P s → Expands A env n w P t → Gives P (Expands A env n (times_series A u w)) (times s t P)
  unfolding times
  times_gives {u = u} {w} k (constant hu zu) (constant hw zw) =
      constant_gives (times_series A u w) (λ j. constant_times M u w zu (suc j) ∙ ap (λ x. u 0 ⊗ x) (zw j) ∙ product_zero M (u 0)) (is_same (sym (constant_times M u w zu 0)) (mul_gives M env k hu hw))
  times_gives {u = u} {w} {P} k (constant {c} hu zu) (list {cs = ws} some l sw) =
      gives_weaker (λ Q e g h. expands_same (λ j. product_comm M (w j) (u 0) ∙ sym (constant_times M u w zu j)) h)
      (list_gives (λ j. w j ⊗ u 0) some l (each_gives (λ x. x ⊗ u 0) w ws P k sw (λ Q a x k_q g_q ha. mul_gives M env k_q ha (has_later k g_q hu))))
  times_gives {u = u} {w} {P} k (list {cs = us} some l su) (constant {c} hw zw) =
      gives_weaker (λ Q e g h. expands_same (λ j. sym (times_constant M u w zw j)) h)
      (list_gives (λ j. u j ⊗ w 0) some l (each_gives (λ x. x ⊗ w 0) u us P k su (λ Q a x k_q g_q ha. mul_gives M env k_q ha (has_later k g_q hw))))
  times_gives {u = u} {w} {P} k (list {cs = us} some l su) (list {cs = ws} some' l' sw) =
      list_gives {m = 0 + min (length us) (length ws)} (times_series A u w) (omega arith) (omega arith)
      (gives_next (literal_gives A env k (pos 0)) (λ z Q k_q g_q hz.
      fill_gives (product_at us ws z) (times_series A u w) (min (length us) (length ws)) [] Q k_q shows_none (λ R rs k_r g_r hrs a b.
      product_at_gives rs (length rs) k_r (shows_later k_q g_r (shows_later k g_q su)) (shows_later k_q g_r (shows_later k g_q sw)) (has_later k_q g_r hz) (omega arith) (omega arith))))
