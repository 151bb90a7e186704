-- Powers of expansions, by repeated squares: what is left to multiply is a power of the squares so far, so the result has the coefficients of the power.
-- Assumes nothing.
use mathlib.Core.Path.{◌≡◌, refl, sym, ap, ◌∙◌}
use mathlib.Core.Bool.{Bool, true, false, cond}
use Prim.Native.Nat.{ℕ, zero, suc, ◌+◌, ◌*◌, ◌/◌, ◌%◌, ◌^◌, ◌<◌}
use native.Mathlib.Nat.{pow-suc}
use native.Mathlib.Omega.{arith}
use lib.Dec.{eqb}
use lib.IntN.{pos}
use borrow.Author.Tests.{eqb-true, eqb-false}
use Rattle.pool.specs.Pool.{Pool}
use Rattle.constructor_laws.specs.Keeps.{Keeps}
use Rattle.taylor.specs.Work.{yield}
use Rattle.taylor.specs.Expansion.{Expansion, times, pow_from, power}
use Rattle.constructor_laws.proofs.Giving.{Gives, gives_weaker, gives_here, gives_next}
use Rattle.meaning.specs.Model.{Algebra, Model, Distributive}
use Rattle.meaning.specs.Model as model
use Rattle.meaning.specs.Value.{Values}
use Rattle.meaning.proofs.Laws.{power_sum, power_none, power_one, product_assoc, product_one, one_product}
use Rattle.meaning.proofs.Running.{literal_gives}
use Rattle.taylor_meaning.specs.Series.{Series, constant_series, times_series, series, polynomials}
use Rattle.taylor_meaning.proofs.Operations.{Expands, constant, expands_later, expands_same, times_gives}
use Rattle.taylor_meaning.proofs.Polynomials.{polynomials_model, powers_same, power_double}

module _ {A : Algebra} (M : Model A) (D : Distributive A) (env : Values A) where
  abbrev pow : Series A → ℕ → Series A
  pow x n = model.power (polynomials A) x n

  abbrev PM : Model (polynomials A)
  PM = polynomials_model M D

  same_series : {n : ℕ} {f g : Series A} {P : Pool} {e : Expansion} → f ≡ g → Expands A env n f P e → Expands A env n g P e
  same_series e h = expands_same (λ k. ap (λ s. s k) e) h

  -- an odd exponent takes the base in
  odd_gives :
      {n : ℕ} {r b : Series A} {P : Pool} {res base : Expansion} (e : ℕ) → Keeps P → Expands A env n r P res → Expands A env n b P base → Gives P (Expands A env n (times_series A r (pow b (e % 2)))) (cond (eqb (e % 2) 1) (times res base) (yield res) P)
  odd_gives {n} {r} {b} {P} {res} {base} e k hr hb = go (eqb (e % 2) 1) refl
    where
      even : (e : ℕ) → (e % 2 ≡ 1 → ⊥) → e % 2 ≡ 0
      even e h = omega arith

      go : (t : Bool) → eqb (e % 2) 1 ≡ t → Gives P (Expands A env n (times_series A r (pow b (e % 2)))) (cond t (times res base) (yield res) P)
      go true t =
          gives_weaker (λ Q x g h. same_series (ap (times_series A r) (sym (ap (pow b) (eqb-true (e % 2) 1 t) ∙ power_one PM b))) h) (times_gives M env k hr hb)
      go false t =
          gives_here k (same_series (sym (ap (times_series A r) (ap (pow b) (even e (eqb-false (e % 2) 1 t)) ∙ power_none PM b) ∙ product_one PM r)) hr)

  -- with e below 2^fuel
  pow_from_gives :
      {n : ℕ} {r b : Series A} {res base : Expansion} (fuel e : ℕ) (P : Pool) → e < 2 ^ fuel → Keeps P → Expands A env n r P res → Expands A env n b P base → Gives P (Expands A env n (times_series A r (pow b e))) (pow_from fuel e res base P)
  unfolding pow_from
  pow_from_gives {r = r} {b} zero e P small k hr hb = gives_here k (same_series (sym (ap (times_series A r) (ap (pow b) (none e small) ∙ power_none PM b) ∙ product_one PM r)) hr)
    where
      none : (e : ℕ) → e < 2 ^ 0 → e ≡ 0
      none e h = omega arith
  pow_from_gives {n} {r} {b} {res} {base} (suc fuel) e P small k hr hb =
      gives_next (odd_gives e k hr hb) (λ res2 Q k_q g_q h2. go res2 Q k_q (expands_later k g_q hb) h2 (λ Q' res2' base2 k' h2' hb2. pow_from_gives {r = times_series A r (pow b (e % 2))} {b = times_series A b b} fuel (e / 2) Q' (half e (2 ^ fuel) bound) k' h2' hb2) (eqb (e / 2) 0) refl)
    where
      bound : e < 2 ^ fuel * 2
      bound = rw (sym (pow-suc 2 fuel)) small

      half : (e x : ℕ) → e < x * 2 → e / 2 < x
      half e x h = omega arith

      whole : (e : ℕ) → e / 2 ≡ 0 → e % 2 ≡ e
      whole e h = omega arith

      halves : (e : ℕ) → e % 2 + (e / 2 + e / 2) ≡ e
      halves e = omega arith

      go :
          (res2 : Expansion) (Q : Pool) → Keeps Q → Expands A env n b Q base → Expands A env n (times_series A r (pow b (e % 2))) Q res2
          → ((Q' : Pool) (res2' base2 : Expansion) → Keeps Q' → Expands A env n (times_series A r (pow b (e % 2))) Q' res2' → Expands A env n (times_series A b b) Q' base2 → Gives Q' (Expands A env n (times_series A (times_series A r (pow b (e % 2))) (pow (times_series A b b) (e / 2)))) (pow_from fuel (e / 2) res2' base2 Q'))
          → (t : Bool) → eqb (e / 2) 0 ≡ t
          → Gives Q (Expands A env n (times_series A r (pow b e))) (cond t (yield res2) (λ R. Rattle.taylor.specs.Work.bind (times base base R) (λ base2. pow_from fuel (e / 2) res2 base2)) Q)
      go res2 Q k_q hbQ h2 more true t = gives_here k_q (same_series (ap (λ j. times_series A r (pow b j)) (whole e (eqb-true (e / 2) 0 t))) h2)
      go res2 Q k_q hbQ h2 more false t =
          gives_weaker (λ R x g h.
          same_series
          (product_assoc PM r (pow b (e % 2)) (pow (times_series A b b) (e / 2))
          ∙ ap (times_series A r) (ap (times_series A (pow b (e % 2))) (power_double M D b (e / 2)) ∙ sym (power_sum PM b (e % 2) (e / 2 + e / 2)) ∙ ap (pow b) (halves e)))
          h)
          (gives_next (times_gives M env k_q hbQ hbQ) (λ base2 R k_r g_r hb2. more R res2 base2 k_r (expands_later k_q g_r h2) hb2))

  pub power_gives : {n : ℕ} {b : Series A} {P : Pool} {base : Expansion} (e : ℕ) → e < 2 ^ 32 → Keeps P → Expands A env n b P base → Gives P (Expands A env n (model.power (series A) b e)) (power base e P)
  power_gives {b = b} e small k hb =
      gives_next (literal_gives A env k (pos 1)) (λ o Q k_q g_q ho.
      gives_weaker (λ R x g h. same_series (one_product PM (pow b e) ∙ powers_same M D b e) h)
      (pow_from_gives {r = constant_series A (A.int (pos 1))} 32 e Q small k_q (constant ho (λ j. refl)) (expands_later k g_q hb)))
