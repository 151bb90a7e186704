-- Series over a ring are a ring: the product's sum taken from either end, and from that its laws by induction on the coefficient.
-- Assumes nothing.
use mathlib.Core.Path.{◌≡◌, sym, ap, ◌∙◌, fun_ext}
use Prim.Native.Nat.{ℕ, zero, suc, ◌-◌, ◌<◌}
use native.Mathlib.Omega.{arith}
use lib.IntN.{pos}
use Rattle.meaning.specs.Model.{Algebra, Model, Distributive}
use Rattle.meaning.proofs.Values.{same_op}
use Rattle.meaning.proofs.Laws.{sums, sum_comm, sum_assoc, sum_zero, zero_sum, product_comm, product_assoc, product_zero, zero_product}
use Rattle.taylor_meaning.specs.Series.{sum, Series, times_series}
use Rattle.taylor_meaning.proofs.Sums.{sum_more, sum_none, sum_same}

module _ {A : Algebra} (M : Model A) where
  open A use {carrier, int, plus as ◌⊕◌, times as ◌⊗◌}

  infixl 20 ◌⊕◌
  infixl 30 ◌⊗◌
  -- ---- sums

  pub sum_zeros : (f : ℕ → carrier) (n : ℕ) → ((j : ℕ) → j < n → f j ≡ int (pos 0)) → sum A f n ≡ int (pos 0)
  sum_zeros f zero h = sum_none A f
  sum_zeros f (suc n) h = sum_more A f n ∙ same_op ◌⊕◌ (sum_zeros f n (λ j l. h j (omega arith))) (h n (omega arith)) ∙ sum_zero M (int (pos 0))

  pub sum_front : (f : ℕ → carrier) (n : ℕ) → sum A f (suc n) ≡ f 0 ⊕ sum A (λ j. f (suc j)) n
  sum_front f zero = sum_more A f 0 ∙ ap (λ x. x ⊕ f 0) (sum_none A f) ∙ zero_sum M (f 0) ∙ sym (ap (λ x. f 0 ⊕ x) (sum_none A (λ j. f (suc j))) ∙ sum_zero M (f 0))
  sum_front f (suc n) =
      sum_more A f (suc n)
      ∙ ap (λ x. x ⊕ f (suc n)) (sum_front f n)
      ∙ sum_assoc M (f 0) (sum A (λ j. f (suc j)) n) (f (suc n))
      ∙ ap (λ x. f 0 ⊕ x) (sym (sum_more A (λ j. f (suc j)) n))

  pub sum_plus : (f g : ℕ → carrier) (n : ℕ) → sum A (λ j. f j ⊕ g j) n ≡ sum A f n ⊕ sum A g n
  sum_plus f g zero = sum_none A (λ j. f j ⊕ g j) ∙ sym (same_op ◌⊕◌ (sum_none A f) (sum_none A g) ∙ sum_zero M (int (pos 0)))
  sum_plus f g (suc n) =
      sum_more A (λ j. f j ⊕ g j) n
      ∙ ap (λ x. x ⊕ (f n ⊕ g n)) (sum_plus f g n)
      ∙ mix (sum A f n) (sum A g n) (f n) (g n)
      ∙ sym (same_op ◌⊕◌ (sum_more A f n) (sum_more A g n))
    where
      mix : (a b c d : carrier) → (a ⊕ b) ⊕ (c ⊕ d) ≡ (a ⊕ c) ⊕ (b ⊕ d)
      mix a b c d = simp sums

  -- ---- the product

  abbrev rest : Series A → Series A
  rest f k = f (suc k)

  pub times_first : (u w : Series A) → times_series A u w 0 ≡ u 0 ⊗ w 0
  unfolding times_series
  times_first u w = sum_more A (λ j. u j ⊗ w (0 - j)) 0 ∙ ap (λ x. x ⊕ u 0 ⊗ w 0) (sum_none A (λ j. u j ⊗ w (0 - j))) ∙ zero_sum M (u 0 ⊗ w 0)

  -- the first term by itself
  pub times_front : (u w : Series A) (k : ℕ) → times_series A u w (suc k) ≡ u 0 ⊗ w (suc k) ⊕ times_series A (rest u) w k
  unfolding times_series
  times_front u w k =
      sum_front (λ j. u j ⊗ w (suc k - j)) (suc k)
      ∙ same_op ◌⊕◌ (ap (λ i. u 0 ⊗ w i) (all k)) (sum_same A (λ j. u (suc j) ⊗ w (suc k - suc j)) (λ j. u (suc j) ⊗ w (k - j)) (suc k) (λ j l. ap (λ i. u (suc j) ⊗ w i) (less k j)))
    where
      all : (k : ℕ) → suc k - 0 ≡ suc k
      all k = omega arith

      less : (k j : ℕ) → suc k - suc j ≡ k - j
      less k j = omega arith

  -- the last term by itself
  pub times_back : (u w : Series A) (k : ℕ) → times_series A u w (suc k) ≡ times_series A u (rest w) k ⊕ u (suc k) ⊗ w 0
  unfolding times_series
  times_back u w k =
      sum_more A (λ j. u j ⊗ w (suc k - j)) (suc k)
      ∙ same_op ◌⊕◌ (sum_same A (λ j. u j ⊗ w (suc k - j)) (λ j. u j ⊗ w (suc (k - j))) (suc k) (λ j l. ap (λ i. u j ⊗ w i) (more k j l))) (ap (λ i. u (suc k) ⊗ w i) (none k))
    where
      more : (k j : ℕ) → j < suc k → suc k - j ≡ suc (k - j)
      more k j l = omega arith

      none : (k : ℕ) → suc k - suc k ≡ 0
      none k = omega arith

  pub times_comm : (u w : Series A) (k : ℕ) → times_series A u w k ≡ times_series A w u k
  times_comm u w zero = times_first u w ∙ product_comm M (u 0) (w 0) ∙ sym (times_first w u)
  times_comm u w (suc k) =
      times_back u w k
      ∙ same_op ◌⊕◌ (times_comm u (rest w) k) (product_comm M (u (suc k)) (w 0))
      ∙ sum_comm M (times_series A (rest w) u k) (w 0 ⊗ u (suc k))
      ∙ sym (times_front w u k)

  pub zero_times : (u w : Series A) → ((k : ℕ) → u k ≡ int (pos 0)) → (k : ℕ) → times_series A u w k ≡ int (pos 0)
  unfolding times_series
  zero_times u w c k = sum_zeros (λ j. u j ⊗ w (k - j)) (suc k) (λ j l. ap (λ x. x ⊗ w (k - j)) (c j) ∙ zero_product M (w (k - j)))

  -- a constant factor
  pub constant_times : (u w : Series A) → ((k : ℕ) → u (suc k) ≡ int (pos 0)) → (k : ℕ) → times_series A u w k ≡ u 0 ⊗ w k
  constant_times u w c zero = times_first u w
  constant_times u w c (suc k) = times_front u w k ∙ ap (λ x. u 0 ⊗ w (suc k) ⊕ x) (zero_times (rest u) w c k) ∙ sum_zero M (u 0 ⊗ w (suc k))

  pub times_constant : (u w : Series A) → ((k : ℕ) → w (suc k) ≡ int (pos 0)) → (k : ℕ) → times_series A u w k ≡ u k ⊗ w 0
  times_constant u w c k = times_comm u w k ∙ constant_times w u c k ∙ product_comm M (w 0) (u k)

  module _ (D : Distributive A) where
    distributes : (x y z : carrier) → x ⊗ (y ⊕ z) ≡ x ⊗ y ⊕ x ⊗ z
    distributes = D.distributes

    pub distributes_right : (x y z : carrier) → (x ⊕ y) ⊗ z ≡ x ⊗ z ⊕ y ⊗ z
    distributes_right x y z = product_comm M (x ⊕ y) z ∙ distributes z x y ∙ same_op ◌⊕◌ (product_comm M z x) (product_comm M z y)

    pub sum_scale : (c : carrier) (f : ℕ → carrier) (n : ℕ) → sum A (λ j. c ⊗ f j) n ≡ c ⊗ sum A f n
    sum_scale c f zero = sum_none A (λ j. c ⊗ f j) ∙ sym (ap (λ x. c ⊗ x) (sum_none A f) ∙ product_zero M c)
    sum_scale c f (suc n) =
        sum_more A (λ j. c ⊗ f j) n ∙ ap (λ x. x ⊕ c ⊗ f n) (sum_scale c f n) ∙ sym (distributes c (sum A f n) (f n)) ∙ ap (λ x. c ⊗ x) (sym (sum_more A f n))

    pub times_plus_left : (f g h : Series A) (k : ℕ) → times_series A (λ j. f j ⊕ g j) h k ≡ times_series A f h k ⊕ times_series A g h k
    unfolding times_series
    times_plus_left f g h k =
        sum_same A (λ j. (f j ⊕ g j) ⊗ h (k - j)) (λ j. f j ⊗ h (k - j) ⊕ g j ⊗ h (k - j)) (suc k) (λ j l. distributes_right (f j) (g j) (h (k - j)))
        ∙ sum_plus (λ j. f j ⊗ h (k - j)) (λ j. g j ⊗ h (k - j)) (suc k)

    times_scale : (c : carrier) (f h : Series A) (k : ℕ) → times_series A (λ j. c ⊗ f j) h k ≡ c ⊗ times_series A f h k
    unfolding times_series
    times_scale c f h k =
        sum_same A (λ j. (c ⊗ f j) ⊗ h (k - j)) (λ j. c ⊗ (f j ⊗ h (k - j))) (suc k) (λ j l. product_assoc M c (f j) (h (k - j)))
        ∙ sum_scale c (λ j. f j ⊗ h (k - j)) (suc k)

    pub times_assoc : (f g h : Series A) (k : ℕ) → times_series A (times_series A f g) h k ≡ times_series A f (times_series A g h) k
    times_assoc f g h zero =
        times_first (times_series A f g) h
        ∙ ap (λ x. x ⊗ h 0) (times_first f g)
        ∙ product_assoc M (f 0) (g 0) (h 0)
        ∙ sym (times_first f (times_series A g h) ∙ ap (λ x. f 0 ⊗ x) (times_first g h))
    times_assoc f g h (suc k) =
        times_front (times_series A f g) h k
        ∙ same_op ◌⊕◌
        (ap (λ x. x ⊗ h (suc k)) (times_first f g) ∙ product_assoc M (f 0) (g 0) (h (suc k)))
        (ap (λ s. times_series A s h k) (fun_ext (λ j. times_front f g j))
        ∙ times_plus_left (λ j. f 0 ⊗ g (suc j)) (times_series A (rest f) g) h k
        ∙ same_op ◌⊕◌ (times_scale (f 0) (rest g) h k) (times_assoc (rest f) g h k))
        ∙ gather (f 0) (g 0 ⊗ h (suc k)) (times_series A (rest g) h k) (times_series A (rest f) (times_series A g h) k)
        ∙ ap (λ x. f 0 ⊗ x ⊕ times_series A (rest f) (times_series A g h) k) (sym (times_front g h k))
        ∙ sym (times_front f (times_series A g h) k)
      where
        gather : (x y z r : carrier) → x ⊗ y ⊕ (x ⊗ z ⊕ r) ≡ x ⊗ (y ⊕ z) ⊕ r
        gather x y z r = sym (sum_assoc M (x ⊗ y) (x ⊗ z) r) ∙ ap (λ s. s ⊕ r) (sym (distributes x y z))
