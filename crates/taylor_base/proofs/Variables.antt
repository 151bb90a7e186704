-- The expansion of a variable, from order 1 on: the point, a one, and zeros.
-- Assumes nothing.
use Rattle.std.proofs.Common.{◌≡◌, ◌≢◌, refl, ap, ◌∙◌, ◌∷◌, ℕ, zero, suc, ◌-◌, replicate, arith}
use Rattle.pool.specs.Pool.{Pool, done}
use Rattle.taylor.specs.Work.{Result, bind, yield, zero_lit, one_lit}
use Rattle.taylor.specs.Expansion.{var}
use Rattle.taylor.specs.declared.expansion.Expansion.TheVariants.{Polynomial}

pub var_of_order : (x order z o : ℕ) (P Q R : Pool) → order ≢ 0 → done z Q ≡ zero_lit P → done o R ≡ one_lit Q → done (Polynomial (x ∷ o ∷ replicate (order - 1) z)) R ≡ var x order P
var_of_order x zero z o P Q R h e d = absurd (h refl)
var_of_order x (suc n) z o P Q R h e d =
    let less : suc n - 1 ≡ n = omega arith in
    rw less
    (ap (λ (y : Result ℕ). bind (bind y (λ o. yield (x ∷ o ∷ replicate n z))) (λ cs. yield (Polynomial cs))) d
    ∙ ap (λ (y : Result ℕ). bind (bind y (λ z Q. bind (one_lit Q) (λ o. yield (x ∷ o ∷ replicate n z)))) (λ cs. yield (Polynomial cs))) e)
