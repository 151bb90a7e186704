-- The dual numbers over a ring that is a model are a model and a ring again. Over the whole numbers exp (a + b ε) = 1 + b ε and log (a + b ε) = b ε: no law forces exponentials or logarithms to be constant.
-- Assumes nothing.
use mathlib.Core.Path.{◌≡◌, refl, sym, ap, ◌∙◌}
use lib.IntN.{pos, negsuc}
use Rattle.meaning.specs.Model.{Algebra, Model, Distributive, power}
use Rattle.meaning.specs.Integers.{integers}
use Rattle.meaning.specs.Duals.{duals}
use Rattle.meaning.proofs.Laws.{sums, products, sum_comm, sum_zero, zero_sum, product_comm, product_zero, zero_product, one_product, exp_sum, power_of_one}
use Rattle.meaning.proofs.Values.{same_op}

both : {B : Type 0} {a b c d : B} → a ≡ b → c ≡ d → ◌≡◌ {A = B × B} (a, c) (b, d)
both p q i = (p i, q i)

module _ {A : Algebra} (M : Model A) (D : Distributive A) where
  open A use {carrier, int, plus as ◌⊕◌, times as ◌⊗◌, over as ◌⊘◌, exp}

  infixl 20 ◌⊕◌
  infixl 30 ◌⊗◌ ◌⊘◌
  left : (x y z : carrier) → x ⊗ (y ⊕ z) ≡ x ⊗ y ⊕ x ⊗ z
  left = D.distributes

  right : (x y z : carrier) → (x ⊕ y) ⊗ z ≡ x ⊗ z ⊕ y ⊗ z
  right x y z = product_comm M (x ⊕ y) z ∙ left z x y ∙ same_op ◌⊕◌ (product_comm M z x) (product_comm M z y)

  zeros : {x y : carrier} → x ≡ int (pos 0) → y ≡ int (pos 0) → x ⊕ y ≡ int (pos 0)
  zeros p q = same_op ◌⊕◌ p q ∙ sum_zero M (int (pos 0))

  assoc : (a b c da db dc : carrier) → a ⊗ b ⊗ dc ⊕ c ⊗ (a ⊗ db ⊕ b ⊗ da) ≡ a ⊗ (b ⊗ dc ⊕ c ⊗ db) ⊕ b ⊗ c ⊗ da
  assoc a b c da db dc = simp (left, products, sums)

  distributes : (a b c da db dc : carrier) → a ⊗ (db ⊕ dc) ⊕ (b ⊕ c) ⊗ da ≡ (a ⊗ db ⊕ b ⊗ da) ⊕ (a ⊗ dc ⊕ c ⊗ da)
  distributes a b c da db dc = simp (left, right, sums)

  exps : (a b da db : carrier) → (da ⊕ db) ⊗ exp (a ⊕ b) ≡ exp a ⊗ (db ⊗ exp b) ⊕ exp b ⊗ (da ⊗ exp a)
  exps a b da db = ap (λ x. (da ⊕ db) ⊗ x) (exp_sum M a b) ∙ right da db (exp a ⊗ exp b) ∙ simp (products, sums)

  pub duals_model : Model (duals A)
  duals_model =
      record {
        plus_comm = λ x y. both (M.plus_comm x.0 y.0) (M.plus_comm x.1 y.1);
        plus_assoc = λ x y z. both (M.plus_assoc x.0 y.0 z.0) (M.plus_assoc x.1 y.1 z.1);
        plus_zero = λ x. both (M.plus_zero x.0) (M.plus_zero x.1);
        times_comm = λ x y. both (M.times_comm x.0 y.0) (sum_comm M (x.0 ⊗ y.1) (y.0 ⊗ x.1));
        times_assoc = λ x y z. both (M.times_assoc x.0 y.0 z.0) (assoc x.0 y.0 z.0 x.1 y.1 z.1);
        times_one = λ x. both (M.times_one x.0) (same_op ◌⊕◌ (product_zero M x.0) (one_product M x.1) ∙ zero_sum M x.1);
        times_zero = λ x. both (M.times_zero x.0) (zeros (product_zero M x.0) (zero_product M x.1));
        int_plus = λ a b. both (M.int_plus a b) (sym (sum_zero M (int (pos 0))));
        int_times = λ a b. both (M.int_times a b) (sym (zeros (product_zero M (int a)) (product_zero M (int b))));
        zero_over = λ x.
            both (M.zero_over x.0)
            (ap (λ y. y ⊘ power A x.0 2) (zeros (product_zero M x.0) (ap (λ y. int (negsuc 0) ⊗ y) (zero_product M x.1) ∙ product_zero M (int (negsuc 0)))) ∙ M.zero_over (power A x.0 2));
        over_one = λ x.
            both (M.over_one x.0)
            (same_op ◌⊘◌
            (same_op ◌⊕◌ (one_product M x.1) (ap (λ y. int (negsuc 0) ⊗ y) (product_zero M x.0) ∙ product_zero M (int (negsuc 0))) ∙ sum_zero M x.1)
            (power_of_one M 2)
            ∙ M.over_one x.1);
        exp_zero = both M.exp_zero (zero_product M (exp (int (pos 0))));
        exp_plus = λ x y. both (M.exp_plus x.0 y.0) (exps x.0 y.0 x.1 y.1);
        log_one = both M.log_one (M.zero_over (int (pos 1)));
      }

  pub duals_ring : Distributive (duals A)
  duals_ring = record { distributes = λ x y z. both (left x.0 y.0 z.0) (distributes x.0 y.0 z.0 x.1 y.1 z.1) }

computed : (duals integers).exp (pos 0, pos 3) ≡ (pos 1, pos 3)
computed = refl
