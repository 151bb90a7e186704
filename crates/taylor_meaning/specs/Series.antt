-- Power series over an algebra, as Griewank and Walther's recurrences give them (Evaluating Derivatives, second edition, tables 13.1 and 13.2). A series is its coefficients: coefficient k of t^k.
-- Assumes nothing.
use Rattle.std.specs.Prelude.{◌≡◌, List, [], ◌∷◌, ℕ, zero, suc, ◌-◌, pos, negsuc}
use Rattle.meaning.specs.Model.{Algebra}

module _ (A : Algebra) where
  open A use {carrier, int, plus as ◌⊕◌, times as ◌⊗◌, over as ◌⊘◌, exp, log}

  infixl 20 ◌⊕◌
  infixl 30 ◌⊗◌ ◌⊘◌
  -- a quotient is the product with 1 over the divisor. Only a constant divisor needs it: there the Rust divides each coefficient, where the book multiplies by 1/w_0.
  pub record Fractions : Type 0 where
    pub as_product : (x y : carrier) → x ⊘ y ≡ (int (pos 1) ⊘ y) ⊗ x

  -- x - y
  abbrev pub minus : carrier → carrier → carrier
  minus x y = x ⊕ int (negsuc 0) ⊗ y

  -- f 0 + .. + f (n - 1)
  unfoldable pub sum : (ℕ → carrier) → ℕ → carrier
  sum f zero = int (pos 0)
  sum f (suc n) = sum f n ⊕ f n

  abbrev pub Series : Type 0
  Series = ℕ → carrier

  -- c
  abbrev pub constant_series : carrier → Series
  constant_series c zero = c
  constant_series c (suc k) = int (pos 0)

  -- x + t
  abbrev pub shifted : carrier → Series
  shifted x zero = x
  shifted x (suc zero) = int (pos 1)
  shifted x (suc (suc k)) = int (pos 0)

  -- v_k = u_k + w_k
  abbrev pub plus_series : Series → Series → Series
  plus_series u w k = u k ⊕ w k

  -- v_k = Σ_(j=0..k) u_j × w_(k-j)
  unfoldable pub times_series : Series → Series → Series
  times_series u w k = sum (λ j. u j ⊗ w (k - j)) (suc k)

  -- a series whose coefficient k is had from those below k
  unfoldable pub below : (Series → Series) → ℕ → Series
  below step zero k = int (pos 0)
  below step (suc n) k = step (below step n) k

  unfoldable pub recurrence : (Series → Series) → Series
  recurrence step k = below step (suc k) k

  -- (1/w_0) × (u_k - the sum)
  abbrev pub over_from : carrier → carrier → carrier → carrier
  over_from w₀ uₖ less = (int (pos 1) ⊘ w₀) ⊗ minus uₖ less

  -- v_k = (1/w_0) × (u_k - Σ_(j=0..k-1) v_j × w_(k-j))
  unfoldable pub over_step : Series → Series → Series → Series
  over_step u w v k = over_from (w 0) (u k) (sum (λ j. v j ⊗ w (k - j)) k)

  -- v_k = (Σ_(j=1..k) v_(k-j) × (j × u_j)) / k, with j = i + 1
  unfoldable pub exp_step : Series → Series → Series
  exp_step u v zero = exp (u 0)
  exp_step u v (suc k) = sum (λ i. v (k - i) ⊗ (int (pos (suc i)) ⊗ u (suc i))) (suc k) ⊘ int (pos (suc k))

  -- v_k = ((k × u_k - Σ_(j=1..k-1) u_(k-j) × (j × v_j)) / u_0) / k, with j = i + 1
  unfoldable pub log_step : Series → Series → Series
  log_step u v zero = log (u 0)
  log_step u v (suc k) =
      minus (int (pos (suc k)) ⊗ u (suc k)) (sum (λ i. u (k - i) ⊗ (int (pos (suc i)) ⊗ v (suc i))) k) ⊘ u 0 ⊘ int (pos (suc k))

  -- c_0 + c_1 × w + c_2 × w^2 + .. for the values c_0, c_1, .. that f gives, by Horner's method
  abbrev pub composed : (ℕ → carrier) → Series → List ℕ → Series
  composed f w [] = constant_series (int (pos 0))
  composed f w (c ∷ cs) = plus_series (times_series (composed f w cs) w) (constant_series (f c))

  -- k!
  abbrev pub factorial_in : ℕ → carrier
  factorial_in zero = int (pos 1)
  factorial_in (suc k) = factorial_in k ⊗ int (pos (suc k))

  -- the series with these operations
  abbrev pub series : Algebra
  series =
      record {
        carrier = Series;
        int = λ z. constant_series (int z);
        plus = plus_series;
        times = times_series;
        over = λ u w. recurrence (over_step u w);
        -- of two constants; a maximum of series is refused
        max = λ u w. constant_series (A.max (u 0) (w 0));
        exp = λ u. recurrence (exp_step u);
        log = λ u. recurrence (log_step u);
      }

  -- the ring of series alone: sums and products, with nothing to say of quotients, exponentials and logarithms
  abbrev pub polynomials : Algebra
  polynomials =
      record {
        carrier = Series;
        int = λ z. constant_series (int z);
        plus = plus_series;
        times = times_series;
        over = λ u w. u;
        max = λ u w. u;
        exp = λ u. constant_series (int (pos 1));
        log = λ u. constant_series (int (pos 0));
      }
