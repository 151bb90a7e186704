-- Decimals of one digit and of two.
-- Assumes nothing.
use mathlib.Core.Path.{◌≡◌, sym, ap, ◌∙◌}
use mathlib.Core.List.{List, [], ◌∷◌, ◌++◌}
use Prim.Native.Nat.{ℕ, ◌-◌, ◌/◌, ◌%◌, ◌<◌, ◌≤◌}
use native.Mathlib.Omega.{arith}
use Rattle.text.specs.Text.{digit, most_digits, decimal}
use Rattle.text.proofs.Digits.{one_digit, more_digits}

pub of_one_digit : (n : ℕ) → n < 10 → digit n ∷ [] ≡ decimal n
unfolding decimal
of_one_digit n h = sym (one_digit (most_digits - 1) n h)

pub of_two_digits : (n : ℕ) → 10 ≤ n → n < 100 → digit (n / 10) ∷ digit (n % 10) ∷ [] ≡ decimal n
unfolding decimal
of_two_digits n some few =
    sym
    (more_digits (most_digits - 1) n some
    ∙ ap (λ (tens : List ℕ). tens ++ (digit (n % 10) ∷ [])) (one_digit (most_digits - 2) (n / 10) (omega arith)))
