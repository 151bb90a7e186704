-- Powers by squaring, the exponent's bits from the lowest: the product so far times the base to the exponent left stays the whole power, modulo m.
-- A turn takes the lowest bit into the product and squares the base. Assumes nothing.
use mathlib.Core.Path.{◌≡◌, sym, ap, ◌∙◌}
use Prim.Native.Nat.{ℕ, zero, suc, ◌+◌, ◌*◌, ◌/◌, ◌%◌, ◌^◌, ◌≤◌, ◌<◌}
use native.Mathlib.Nat.{mod-lt, mod-eq_of_lt, mul_assoc, mul-one, one-mul, pow-zero, pow-suc, add-suc, suc-add}
use native.Mathlib.Omega.{arith}
use lib.Pow.{pow-add}
use Rattle.residue.proofs.Congruence.{factor_first, factor_second, base_first}

power_of_square : (b n : ℕ) → (b * b) ^ n ≡ b ^ (n + n)
power_of_square b zero = rw (pow-zero (b * b), pow-zero b)
power_of_square b (suc n) =
    rw (add-suc (suc n) n, suc-add n n, pow-suc (b * b) n, pow-suc b (suc (n + n)), pow-suc b (n + n), power_of_square b n)
    (omega arith)

-- the exponent's lowest bit goes into the factor, the other bits stand over the square
square_split : (b n : ℕ) → b ^ (n % 2) * (b * b) ^ (n / 2) ≡ b ^ n
square_split b n =
    ap (λ x. b ^ (n % 2) * x) (power_of_square b (n / 2))
    ∙ sym (pow-add b (n % 2) (n / 2 + n / 2))
    ∙ ap (λ x. b ^ x) (omega arith)

square_turn : (m acc b n : ℕ) → acc * b ^ (n % 2) % m * (b * b % m) ^ (n / 2) % m ≡ acc * b ^ n % m
square_turn m acc b n =
    factor_first m (acc * b ^ (n % 2)) ((b * b % m) ^ (n / 2))
    ∙ sym (factor_second m (acc * b ^ (n % 2)) ((b * b % m) ^ (n / 2)))
    ∙ ap (λ x. acc * b ^ (n % 2) * x % m) (base_first m (b * b) (n / 2))
    ∙ factor_second m (acc * b ^ (n % 2)) ((b * b) ^ (n / 2))
    ∙ ap (λ x. x % m) (mul_assoc acc (b ^ (n % 2)) ((b * b) ^ (n / 2)) ∙ ap (λ x. acc * x) (square_split b n))

pub record Squares (m a e acc b n : ℕ) : Type 0 where
  pub product_below : acc < m
  pub base_below : b < m
  pub whole : acc * b ^ n % m ≡ a ^ e % m

pub squares_begin : (m a e : ℕ) → 2 ≤ m → a < m → Squares m a e 1 a e
squares_begin m a e h below =
    record { product_below = h; base_below = below; whole = ap (λ n. n % m) (one-mul (a ^ e)) }

-- a turn at the exponent's lowest bit k
turn : (m a e acc b n k : ℕ) → n % 2 ≡ k → Squares m a e acc b n → Squares m a e (acc * b ^ k % m) (b * b % m) (n / 2)
turn m a e acc b n k bit now =
    record {
      product_below = mod-lt (acc * b ^ k) (omega arith);
      base_below = mod-lt (b * b) (omega arith);
      whole = rw (← bit) (square_turn m acc b n ∙ now.whole);
    }

pub squares_odd : (m a e acc b n : ℕ) → n % 2 ≡ 1 → Squares m a e acc b n → Squares m a e (acc * b % m) (b * b % m) (n / 2)
squares_odd m a e acc b n odd now = rw (pow-suc b 0, pow-zero b, one-mul b) at (turn m a e acc b n 1 odd now)

pub squares_even : (m a e acc b n : ℕ) → (n % 2 ≡ 1 → ⊥) → Squares m a e acc b n → Squares m a e acc (b * b % m) (n / 2)
squares_even m a e acc b n even now =
    rw (pow-zero b, mul-one acc, mod-eq_of_lt now.product_below) at (turn m a e acc b n 0 (omega arith) now)

pub squares_end : (m a e acc b n : ℕ) → n ≡ 0 → Squares m a e acc b n → acc ≡ a ^ e % m
squares_end m a e acc b n none last =
    sym (mod-eq_of_lt last.product_below)
    ∙ rw (none, pow-zero b, mul-one acc) at last.whole
