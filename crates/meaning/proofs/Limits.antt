-- What no model can be, and why the laws ask for no more: two laws that one might expect hold in none but a model where nothing is left of what they speak of.
-- Assumes nothing.
use mathlib.Core.Path.{◌≡◌, sym, ap, ◌∙◌}
use lib.IntN.{pos, negsuc}
use Rattle.meaning.specs.Model.{Algebra, Model, Distributive}
use Rattle.meaning.proofs.Laws.{sum_assoc, zero_sum, product_comm, one_product, zero_product}

module _ {A : Algebra} (M : Model A) where
  open A use {carrier, int, plus as ◌⊕◌, times as ◌⊗◌, over as ◌⊘◌, log}

  infixl 20 ◌⊕◌
  infixl 30 ◌⊗◌ ◌⊘◌
  -- if every divisor had its quotients, 0 too, every number would be 0
  pub all_quotients_leave_zero : ((x y : carrier) → x ⊗ (y ⊘ x) ≡ y) → (y : carrier) → y ≡ int (pos 0)
  all_quotients_leave_zero cancels y = sym (cancels (int (pos 0)) y) ∙ zero_product M (y ⊘ int (pos 0))

  module _ (D : Distributive A) where
    -- -1 times x is the negative of x
    pub negative : (x : carrier) → int (negsuc 0) ⊗ x ⊕ x ≡ int (pos 0)
    negative x =
        ap (λ y. int (negsuc 0) ⊗ x ⊕ y) (sym (one_product M x))
        ∙ ap (λ y. y ⊕ int (pos 1) ⊗ x) (product_comm M (int (negsuc 0)) x)
        ∙ ap (λ y. x ⊗ int (negsuc 0) ⊕ y) (product_comm M (int (pos 1)) x)
        ∙ sym (D.distributes x (int (negsuc 0)) (int (pos 1)))
        ∙ ap (λ y. x ⊗ y) (sym (M.int_plus (negsuc 0) (pos 1)))
        ∙ M.times_zero x

    -- what leaves a sum unchanged is 0
    pub cancel : (x y : carrier) → x ≡ x ⊕ y → y ≡ int (pos 0)
    cancel x y e =
        sym (zero_sum M y)
        ∙ ap (λ w. w ⊕ y) (sym (negative x))
        ∙ sum_assoc M (int (negsuc 0) ⊗ x) x y
        ∙ ap (λ w. int (negsuc 0) ⊗ x ⊕ w) (sym e)
        ∙ negative x

    -- if the logarithm of every product were the sum, of 0 times x too, every logarithm would be 0
    pub all_logs_leave_zero : ((x y : carrier) → log (x ⊗ y) ≡ log x ⊕ log y) → (y : carrier) → log y ≡ int (pos 0)
    all_logs_leave_zero law y =
        cancel (log (int (pos 0))) (log y) (ap log (sym (zero_product M y)) ∙ law (int (pos 0)) y)
