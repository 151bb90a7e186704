-- What the definition of a decimal text promises of each number of 64 bits: its digits have the number's value, they are digits, and the first one is '0' for 0 alone.
-- Assumes nothing.
use mathlib.Core.Path.{◌≡◌, refl}
use mathlib.Core.List.{List, [], ◌∷◌, ◌++◌}
use Prim.Native.Nat.{ℕ, zero, suc, ◌+◌, ◌-◌, ◌*◌, ◌/◌, ◌%◌, ◌^◌, ◌<◌, ◌≤◌}
use native.Mathlib.Omega.{arith}
use native.Mathlib.Decide.{dec_lt}
use lib.ListN.{get_or, length, length-append, get_or-append}
use mir.Syntax.{w64}
use mir.Val.{bits}
use Rattle.text.specs.Text.{digit, digits_within, most_digits, decimal}
use Rattle.text.proofs.Digits.{one_digit, more_digits, fewer}

-- the number that digits stand for, from the first one on, v being that of the digits before them
unfoldable pub value_from : ℕ → List ℕ → ℕ
value_from v [] = v
value_from v (d ∷ ds) = value_from (v * 10 + (d - digit 0)) ds

value_joined : (v : ℕ) (xs ys : List ℕ) → value_from v (xs ++ ys) ≡ value_from (value_from v xs) ys
unfolding value_from
value_joined v [] ys = refl
value_joined v (x ∷ xs) ys = value_joined (v * 10 + (x - digit 0)) xs ys

value_within : (k n : ℕ) → n < 10 ^ k → value_from 0 (digits_within k n) ≡ n
unfolding value_from digits_within
value_within zero n h = omega arith
value_within (suc k) n h = go (dec_lt n 10) (value_within k (n / 10) (fewer k n h))
  where
    go : Dec (n < 10) → value_from 0 (digits_within k (n / 10)) ≡ n / 10 → value_from 0 (digits_within (suc k) n) ≡ n
    go (yes s) e = rw (one_digit k n s) (omega arith)
    go (no s) e =
        rw (more_digits k n (omega arith), value_joined 0 (digits_within k (n / 10)) (digit (n % 10) ∷ []), e) (omega arith)

pub decimal_value : (n : ℕ) → n < 2 ^ bits w64 → value_from 0 (decimal n) ≡ n
unfolding decimal
decimal_value n h = value_within most_digits n (omega arith)

some_digit : (k n : ℕ) → 0 < length (digits_within (suc k) n)
some_digit k n = go (dec_lt n 10)
  where
    go : Dec (n < 10) → 0 < length (digits_within (suc k) n)
    go (yes s) = rw (one_digit k n s) (omega arith)
    go (no s) = rw (more_digits k n (omega arith), length-append (digits_within k (n / 10)) (digit (n % 10) ∷ [])) (omega arith)

first_within : (k n : ℕ) → n < 10 ^ suc k → 0 < n → digit 0 < get_or (digits_within (suc k) n) 0 0
first_within zero n h some = rw (one_digit zero n (omega arith)) (omega arith)
first_within (suc k) n h some = go (dec_lt n 10) (λ s. first_within k (n / 10) (fewer (suc k) n h) s)
  where
    go : Dec (n < 10) → (0 < n / 10 → digit 0 < get_or (digits_within (suc k) (n / 10)) 0 0) → digit 0 < get_or (digits_within (suc (suc k)) n) 0 0
    go (yes s) first = rw (one_digit (suc k) n s) (omega arith)
    go (no s) first =
        rw (more_digits (suc k) n (omega arith), get_or-append (digits_within (suc k) (n / 10)) (digit (n % 10) ∷ []) 0 0 (some_digit k (n / 10)))
        (first (omega arith))

pub decimal_starts_above_zero : (n : ℕ) → n < 2 ^ bits w64 → 0 < n → digit 0 < get_or (decimal n) 0 0
unfolding decimal
decimal_starts_above_zero n h some = first_within (most_digits - 1) n (omega arith) some

-- each byte is from '0' to '9'
abbrev pub AllDigits : List ℕ → Type 0
AllDigits [] = Unit
AllDigits (d ∷ ds) = ((digit 0 ≤ d) × (d ≤ digit 9)) × AllDigits ds

digits_joined : (xs : List ℕ) (d : ℕ) → AllDigits xs → d < 10 → AllDigits (xs ++ (digit d ∷ []))
digits_joined [] d a h = (omega arith, tt)
digits_joined (x ∷ xs) d a h = (a.0, digits_joined xs d a.1 h)

digits_within_lem : (k n : ℕ) → AllDigits (digits_within k n)
unfolding digits_within
digits_within_lem zero n = tt
digits_within_lem (suc k) n = go (dec_lt n 10) (digits_within_lem k (n / 10))
  where
    go : Dec (n < 10) → AllDigits (digits_within k (n / 10)) → AllDigits (digits_within (suc k) n)
    go (yes s) a = rw (one_digit k n s) (omega arith, tt)
    go (no s) a = rw (more_digits k n (omega arith)) (digits_joined (digits_within k (n / 10)) (n % 10) a (omega arith))

pub decimal_is_digits : (n : ℕ) → AllDigits (decimal n)
unfolding decimal
decimal_is_digits n = digits_within_lem most_digits n
