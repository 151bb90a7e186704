-- The whole numbers are a model, and a ring: the theorems speak of something.
-- Assumes nothing.
use mathlib.Core.Path.{◌≡◌, refl, sym, ap, ◌∙◌}
use Prim.Native.Nat.{zero}
use lib.IntN.{ℤ, pos, neg_ℤ, ℤ_ind, ◌+ℤ◌, ◌*ℤ◌, +ℤ_comm, +ℤ_assoc, +ℤ_idr, +ℤ_idl, +ℤ_one, -ℤ_one, +ℤ_invl, +ℤ-neg_ℤ_cancel, *ℤ_comm, *ℤ-one, *ℤ-zero, zero-*ℤ, suc_ℤ-*ℤ, pred_ℤ-*ℤ, neg_ℤ-+ℤ, one}
use Rattle.meaning.specs.Model.{Model, Distributive}
use Rattle.meaning.specs.Value.{value_node, value}
use Rattle.pool.specs.Fold.{under, fold_nodes_within, fold_nodes}
use Rattle.meaning.specs.Integers.{integers}
use Rattle.meaning.specs.Examples.{small_table}

+-swap : (a b c d : ℤ) → (a +ℤ b) +ℤ (c +ℤ d) ≡ (a +ℤ c) +ℤ (b +ℤ d)
+-swap a b c d =
    +ℤ_assoc a b (c +ℤ d) ∙ ap (λ x. a +ℤ x) (sym (+ℤ_assoc b c d) ∙ ap (λ x. x +ℤ d) (+ℤ_comm b c) ∙ +ℤ_assoc c b d) ∙ sym (+ℤ_assoc a c (b +ℤ d))

-- one more and one less, in the first factor
more_times : (m k : ℤ) → (m +ℤ pos 1) *ℤ k ≡ m *ℤ k +ℤ k
more_times m k = ap (λ x. x *ℤ k) (+ℤ_one m) ∙ suc_ℤ-*ℤ m k

less_times : (m k : ℤ) → (m +ℤ neg_ℤ (pos 1)) *ℤ k ≡ m *ℤ k +ℤ neg_ℤ k
less_times m k = ap (λ x. x *ℤ k) (-ℤ_one m) ∙ pred_ℤ-*ℤ m k

times_plus : (x y z : ℤ) → x *ℤ (y +ℤ z) ≡ x *ℤ y +ℤ x *ℤ z
times_plus x y z =
    ℤ_ind (λ x. x *ℤ (y +ℤ z) ≡ x *ℤ y +ℤ x *ℤ z) base (λ n h. step (pos n) h) (λ n h. back (neg_ℤ (pos n)) h) x
  where
    base : pos zero *ℤ (y +ℤ z) ≡ pos zero *ℤ y +ℤ pos zero *ℤ z
    base = zero-*ℤ (y +ℤ z) ∙ sym (ap (λ w. w +ℤ pos zero *ℤ z) (zero-*ℤ y) ∙ ap (λ w. pos 0 +ℤ w) (zero-*ℤ z))

    step : (m : ℤ) → m *ℤ (y +ℤ z) ≡ m *ℤ y +ℤ m *ℤ z → (m +ℤ pos 1) *ℤ (y +ℤ z) ≡ (m +ℤ pos 1) *ℤ y +ℤ (m +ℤ pos 1) *ℤ z
    step m h =
        more_times m (y +ℤ z)
        ∙ ap (λ w. w +ℤ (y +ℤ z)) h
        ∙ +-swap (m *ℤ y) (m *ℤ z) y z
        ∙ sym (ap (λ w. w +ℤ (m +ℤ pos 1) *ℤ z) (more_times m y) ∙ ap (λ w. (m *ℤ y +ℤ y) +ℤ w) (more_times m z))

    back : (m : ℤ) → m *ℤ (y +ℤ z) ≡ m *ℤ y +ℤ m *ℤ z → (m +ℤ neg_ℤ (pos 1)) *ℤ (y +ℤ z) ≡ (m +ℤ neg_ℤ (pos 1)) *ℤ y +ℤ (m +ℤ neg_ℤ (pos 1)) *ℤ z
    back m h =
        less_times m (y +ℤ z)
        ∙ ap (λ w. w +ℤ neg_ℤ (y +ℤ z)) h
        ∙ ap (λ w. (m *ℤ y +ℤ m *ℤ z) +ℤ w) (neg_ℤ-+ℤ y z)
        ∙ +-swap (m *ℤ y) (m *ℤ z) (neg_ℤ y) (neg_ℤ z)
        ∙ sym (ap (λ w. w +ℤ (m +ℤ neg_ℤ (pos 1)) *ℤ z) (less_times m y) ∙ ap (λ w. (m *ℤ y +ℤ neg_ℤ y) +ℤ w) (less_times m z))

plus_times : (x y z : ℤ) → (x +ℤ y) *ℤ z ≡ x *ℤ z +ℤ y *ℤ z
plus_times x y z = *ℤ_comm (x +ℤ y) z ∙ times_plus z x y ∙ ap (λ w. w +ℤ z *ℤ y) (*ℤ_comm z x) ∙ ap (λ w. x *ℤ z +ℤ w) (*ℤ_comm z y)

neg_times : (y z : ℤ) → neg_ℤ y *ℤ z ≡ neg_ℤ (y *ℤ z)
neg_times y z =
    sym (+ℤ-neg_ℤ_cancel (neg_ℤ y *ℤ z) (y *ℤ z))
    ∙ ap (λ w. w +ℤ neg_ℤ (y *ℤ z)) (sym (plus_times (neg_ℤ y) y z) ∙ ap (λ w. w *ℤ z) (+ℤ_invl y) ∙ zero-*ℤ z)
    ∙ +ℤ_idl (neg_ℤ (y *ℤ z))

times_times : (x y z : ℤ) → (x *ℤ y) *ℤ z ≡ x *ℤ (y *ℤ z)
times_times x y z = ℤ_ind (λ x. (x *ℤ y) *ℤ z ≡ x *ℤ (y *ℤ z)) base (λ n h. step (pos n) h) (λ n h. back (neg_ℤ (pos n)) h) x
  where
    base : (pos zero *ℤ y) *ℤ z ≡ pos zero *ℤ (y *ℤ z)
    base = ap (λ w. w *ℤ z) (zero-*ℤ y) ∙ zero-*ℤ z ∙ sym (zero-*ℤ (y *ℤ z))

    step : (m : ℤ) → (m *ℤ y) *ℤ z ≡ m *ℤ (y *ℤ z) → ((m +ℤ pos 1) *ℤ y) *ℤ z ≡ (m +ℤ pos 1) *ℤ (y *ℤ z)
    step m h = ap (λ w. w *ℤ z) (more_times m y) ∙ plus_times (m *ℤ y) y z ∙ ap (λ w. w +ℤ y *ℤ z) h ∙ sym (more_times m (y *ℤ z))

    back : (m : ℤ) → (m *ℤ y) *ℤ z ≡ m *ℤ (y *ℤ z) → ((m +ℤ neg_ℤ (pos 1)) *ℤ y) *ℤ z ≡ (m +ℤ neg_ℤ (pos 1)) *ℤ (y *ℤ z)
    back m h =
        ap (λ w. w *ℤ z) (less_times m y)
        ∙ plus_times (m *ℤ y) (neg_ℤ y) z
        ∙ ap (λ w. w +ℤ neg_ℤ y *ℤ z) h
        ∙ ap (λ w. m *ℤ (y *ℤ z) +ℤ w) (neg_times y z)
        ∙ sym (less_times m (y *ℤ z))

times_one : (x : ℤ) → x *ℤ pos 1 ≡ x
unfolding one
times_one x = *ℤ-one x

pub integers_model : Model integers
integers_model =
    record {
      plus_comm = +ℤ_comm;
      plus_assoc = +ℤ_assoc;
      plus_zero = +ℤ_idr;
      times_comm = *ℤ_comm;
      times_assoc = times_times;
      times_one = times_one;
      times_zero = *ℤ-zero;
      int_plus = λ a b. refl;
      int_times = λ a b. refl;
      zero_over = λ x. refl;
      over_one = λ x. refl;
      exp_zero = refl;
      exp_plus = λ x y. refl;
      log_one = refl;
    }

pub integers_ring : Distributive integers
integers_ring = record { distributes = times_plus }

-- (2 + 5) × 3, computed
computed : value integers (λ v. pos 5) small_table 4 ≡ pos 21
unfolding fold_nodes fold_nodes_within under value_node small_table
computed = refl
