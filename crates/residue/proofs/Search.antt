-- What the definitions' search finds: a number below the bound that passes, or the refusal where none passes.
-- Every fact on quotients goes by these two cases. Assumes nothing.
use Rattle.std.specs.Prelude.{Ok, Err}
use mathlib.Core.Path.{◌≡◌, refl, ap, ◌∙◌}
use mathlib.Core.Bool.{Bool, true, false, cond}
use mathlib.Core.Logic.{⊎_elim}
use Prim.Native.Nat.{ℕ, zero, suc, ◌<◌}
use native.Mathlib.Nat.{le_step, lt-suc_self, eq-or-lt_of_le, le_of_suc-le-suc, not-suc-le-zero}
use Rattle.refusals.specs.Refusals.{no_inverse}
use Rattle.residue.specs.Residue.{first_below, or_else}
use Rattle.residue.specs.Residue.{Divided}

pub data Sought (n : ℕ) (passes : ℕ → Bool) : Divided → Type 0 where
  found : (q : ℕ) → q < n → passes q ≡ true → Sought n passes (Ok q)
  missing : ((q : ℕ) → q < n → passes q ≡ false) → Sought n passes (Err no_inverse)

one_more : {n : ℕ} {passes : ℕ → Bool} {r : Divided} → Sought n passes r → (t : Bool) → passes n ≡ t → Sought (suc n) passes (or_else r (cond t (Ok n) (Err no_inverse)))
one_more (found q h e) t et = found q (le_step h) e
one_more {n} (missing f) true et = found n (lt-suc_self n) et
one_more {n} {passes} (missing f) false et =
    missing (λ q h. ⊎_elim (λ same. ap passes same ∙ et) (λ less. f q less) (eq-or-lt_of_le (le_of_suc-le-suc h)))

pub sought : (n : ℕ) (passes : ℕ → Bool) → Sought n passes (first_below n passes)
unfolding first_below
sought zero passes = missing (λ q h. absurd (not-suc-le-zero h))
sought (suc n) passes = one_more (sought n passes) (passes n) refl
