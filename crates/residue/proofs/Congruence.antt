-- Laws of remainders that the library lacks: a factor or a base may be taken modulo m first, and a summand cancels.
-- They are what products, powers and quotients of residues rest on. Assumes nothing.
use mathlib.Core.Path.{◌≡◌, sym, ap, ◌∙◌}
use Prim.Native.Nat.{ℕ, zero, suc, ◌+◌, ◌*◌, ◌/◌, ◌%◌, ◌^◌, ◌≤◌, ◌<◌}
use native.Mathlib.Nat.{mod-add-div', add-mul-mod_self_left, mod-add-mod, mul_comm, pow-zero, pow-suc, mul-le-mul, le_trans}
use native.Mathlib.Omega.{arith}
use mir.Syntax.{w64}
use mir.Val.{Fits}
use Rattle.residue.specs.Residue.{Modulus}

pub factor_first : (m a b : ℕ) → a % m * b % m ≡ a * b % m
factor_first m a b =
    sym (add-mul-mod_self_left (a % m * b) m (a / m * b))
    ∙ ap (λ n. n % m) (omega (arith, ap (λ n. n * b) (mod-add-div' a m)))

pub factor_second : (m a b : ℕ) → a * (b % m) % m ≡ a * b % m
factor_second m a b = rw (mul_comm a (b % m), mul_comm a b) (factor_first m b a)

-- what c lacks to a multiple of m, c times (m - 1), takes c away
summand_gone : (k c a : ℕ) → ((a + c) % suc k + c * k) % suc k ≡ a % suc k
summand_gone k c a =
    mod-add-mod (a + c) (suc k) (c * k)
    ∙ ap (λ n. n % suc k) (omega arith)
    ∙ add-mul-mod_self_left a (suc k) c

pub summand_cancels : (m c a b : ℕ) → 0 < m → (a + c) % m ≡ (b + c) % m → a % m ≡ b % m
summand_cancels zero c a b h e = omega arith
summand_cancels (suc k) c a b h e =
    sym (summand_gone k c a) ∙ ap (λ n. (n + c * k) % suc k) e ∙ summand_gone k c b

pub base_first : (m a n : ℕ) → (a % m) ^ n % m ≡ a ^ n % m
base_first m a zero = rw (pow-zero (a % m), pow-zero a)
base_first m a (suc n) =
    rw (pow-suc (a % m) n, pow-suc a n)
    (factor_second m ((a % m) ^ n) a
    ∙ sym (factor_first m ((a % m) ^ n) a)
    ∙ ap (λ x. x * a % m) (base_first m a n)
    ∙ factor_first m (a ^ n) a)

pub product_fits : {m : ℕ} → Modulus m → (a b : ℕ) → a ≤ m → b ≤ m → Fits w64 (a * b)
product_fits h a b ha hb = record { fits = omega (arith, mul-le-mul (le_trans ha h.most) (le_trans hb h.most)) }
