-- What it is for an expansion to follow the book: the answer e of a product, a quotient, an exponential or a logarithm that was asked for in the pool P and left the pool Q, of constants and of lists.
-- Assumes nothing.
use Rattle.std.specs.Prelude.{◌≡◌, List, [], ℕ, min, length}
use Rattle.pool.specs.Pool.{Pool, done}
use Rattle.taylor.specs.Expansion.{Expansion}
use Rattle.taylor.specs.declared.expansion.Expansion.TheVariants.{Constant, Polynomial}
use Rattle.book.specs.Formula.{#, whole, ◌⊗◌, ◌⊘◌, Exp, Log, work}
use Rattle.book.specs.Book.{list, constant, product_book, scaled_book, quotient_book, exp_book, log_book}
use Rattle.book.specs.Order.{product_ordered, scaled_ordered, divided_ordered, quotient_ordered, constant_quotient_ordered, exp_ordered, log_ordered}
use Rattle.book.specs.Recurrence.{Recurrence, WithZero, WithScale}

module _ (P Q : Pool) where
  -- v = u × w
  pub data ProductFollows : (u w v : Expansion) → Type 0 where
    -- v_k = Σ_(j=0..k) u_j × w_(k-j), up to the shorter length
    lists : {us ws vs : List ℕ} → WithZero (product_book (list us) (list ws)) (product_ordered (list us) (list ws)) (min (length us) (length ws)) vs P Q → ProductFollows (Polynomial us) (Polynomial ws) (Polynomial vs)
    -- v_k = c × w_k, v_k = c × u_k
    constant_left : {c : ℕ} {ws vs : List ℕ} → Recurrence [] [] (scaled_book (# c) (list ws)) (scaled_ordered (# c) (list ws)) (length ws) vs P Q → ProductFollows (Constant c) (Polynomial ws) (Polynomial vs)
    constant_right : {us vs : List ℕ} {c : ℕ} → Recurrence [] [] (scaled_book (# c) (list us)) (scaled_ordered (# c) (list us)) (length us) vs P Q → ProductFollows (Polynomial us) (Constant c) (Polynomial vs)
    -- v_0 = u_0 × w_0
    constants : {b c v : ℕ} → work (# b ⊗ # c) P ≡ done v Q → ProductFollows (Constant b) (Constant c) (Constant v)

  -- v = u / w
  pub data QuotientFollows : (u w v : Expansion) → Type 0 where
    -- v_k = (1/w_0) × (u_k - Σ_(j=0..k-1) v_j × w_(k-j)), up to the shorter length; of a constant u_0 = c and u_k = 0
    lists : {us ws vs : List ℕ} → WithScale (list ws) (quotient_book (list us) (list ws) (list vs)) (λ z. quotient_ordered (list us) (list ws) (list vs)) (min (length us) (length ws)) vs P Q → QuotientFollows (Polynomial us) (Polynomial ws) (Polynomial vs)
    constant_left : {c : ℕ} {ws vs : List ℕ} → WithScale (list ws) (quotient_book (constant c) (list ws) (list vs)) (constant_quotient_ordered c (list ws) (list vs)) (length ws) vs P Q → QuotientFollows (Constant c) (Polynomial ws) (Polynomial vs)
    -- v_k = (1/c) × u_k
    constant_right : {us vs : List ℕ} {c : ℕ} → Recurrence [] [] (scaled_book (whole 1 ⊘ # c) (list us)) (divided_ordered (# c) (list us)) (length us) vs P Q → QuotientFollows (Polynomial us) (Constant c) (Polynomial vs)
    -- v_0 = u_0 / w_0
    constants : {b c v : ℕ} → work (# b ⊘ # c) P ≡ done v Q → QuotientFollows (Constant b) (Constant c) (Constant v)

  -- v = exp u
  pub data ExpFollows : (u v : Expansion) → Type 0 where
    -- v_0 = exp u_0, k × v_k = Σ_(j=1..k) v_(k-j) × (j × u_j)
    of_list : {us vs : List ℕ} → WithZero (exp_book (list us) (list vs)) (exp_ordered (list us) (list vs)) (length us) vs P Q → ExpFollows (Polynomial us) (Polynomial vs)
    of_constant : {c v : ℕ} → work (Exp (# c)) P ≡ done v Q → ExpFollows (Constant c) (Constant v)

  -- v = ln u
  pub data LogFollows : (u v : Expansion) → Type 0 where
    -- v_0 = ln u_0, k × v_k = (1/u_0) × (k × u_k - Σ_(j=1..k-1) u_(k-j) × (j × v_j))
    of_list : {us vs : List ℕ} → WithZero (log_book (list us) (list vs)) (log_ordered (list us) (list vs)) (length us) vs P Q → LogFollows (Polynomial us) (Polynomial vs)
    of_constant : {c v : ℕ} → work (Log (# c)) P ≡ done v Q → LogFollows (Constant c) (Constant v)
