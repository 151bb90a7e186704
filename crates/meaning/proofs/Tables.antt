-- No rule changes a value: whatever nodes are given, the term that a table gives for them has the value of the operation on theirs. The proof of a table has the lines of the table, each return being one identity of the model.
-- Assumes nothing.
use mathlib.Core.Path.{◌≡◌, refl, sym, ap, ◌∙◌}
use mathlib.Core.Bool.{true}
use Prim.Native.Nat.{ℕ, zero, suc}
use native.Mathlib.Omega.{arith}
use lib.Dec.{eqb}
use lib.IntN.{ℤ, pos, negsuc}
use borrow.Author.Tests.{eqb-true}
use Rattle.literal.specs.Literal.{is_zero, is_one}
use Rattle.pool.specs.declared.node.Node.{Node}
use Rattle.constructors.specs.Terms
use Rattle.constructors.specs.Terms.{Term, exp, log}
use Rattle.constructors.specs.Patterns.{lit_in, add_in, mul_in, exp_in, pow_in}
use Rattle.constructors.specs.Tables.{add_arms, add_table, mul_lits, mul_exps, mul_left, mul_pows, mul_last, mul_table, div_table, neg_table, exp_arms, exp_table, log_arms, log_table, pow_table, max_table}
use Rattle.constructor_laws.proofs.Arms.{Gives, return, ◌>>=◌, ◌&◌, swap, ◌or◌, inside, ◌then◌}
use Rattle.meaning.specs.Model.{Algebra, Model, power}
use Rattle.meaning.specs.Value.{Values, value_node}
use Rattle.meaning.proofs.Laws.{sums, products, sum_comm, sum_zero, zero_sum, product_comm, product_one, one_product, product_zero, zero_product, int_sum, int_product, exp_sum, power_two, power_next, power_sum, power_none, power_one, power_of_one, power_of_zero}
use Rattle.meaning.proofs.Terms.{zero_is, one_is, term_value, Right, when, weaker, lit_found, add_found, mul_found, exp_found, pow_found}

two_or_more : (e : ℕ) → suc (suc e) ≡ 0 → ⊥
two_or_more e t = omega arith

more_than_one : (e : ℕ) → suc (suc e) ≡ 1 → ⊥
more_than_one e t = omega arith

module _ {A : Algebra} (M : Model A) (env : Values A) (at : ℕ → Node) (v : ℕ → A.carrier) (law : (i : ℕ) → v i ≡ value_node A env v (at i)) where
  open A use {carrier, int, plus as ◌⊕◌, times as ◌⊗◌, over as ◌⊘◌}

  infixl 20 ◌⊕◌
  infixl 30 ◌⊗◌ ◌⊘◌
  lit? : (i : ℕ) → Gives (λ z. v i ≡ int z) (lit_in (at i))
  lit? i = weaker (λ z e. law i ∙ e) (lit_found A env v (at i))

  zero? : (a : ℤ) (i : ℕ) → v i ≡ int a → is_zero a ≡ true → v i ≡ int (pos 0)
  zero? a i e t = e ∙ ap int (zero_is a t)

  one? : (a : ℤ) (i : ℕ) → v i ≡ int a → is_one a ≡ true → v i ≡ int (pos 1)
  one? a i e t = e ∙ ap int (one_is a t)

  add? : (i : ℕ) → Gives (λ p. v i ≡ v p.0 ⊕ v p.1) (add_in (at i))
  add? i = weaker (λ p e. law i ∙ e) (add_found A env v (at i))

  mul? : (i : ℕ) → Gives (λ p. v i ≡ v p.0 ⊗ v p.1) (mul_in (at i))
  mul? i = weaker (λ p e. law i ∙ e) (mul_found A env v (at i))

  exp? : (i : ℕ) → Gives (λ a. v i ≡ A.exp (v a)) (exp_in (at i))
  exp? i = weaker (λ p e. law i ∙ e) (exp_found A env v (at i))

  pow? : (i : ℕ) → Gives (λ p. v i ≡ power A (v p.0) p.1) (pow_in (at i))
  pow? i = weaker (λ p e. law i ∙ e) (pow_found A env v (at i))

  abbrev Is : carrier → Term → Type 0
  Is = Right A v

  module _ (lhs rhs : ℕ) where
    -- ---- add
    add_arms_lem : Gives (Is (v lhs ⊕ v rhs)) (add_arms at lhs rhs)
    unfolding add_arms
    add_arms_lem =
        (lit? lhs >>= (λ a l. when (is_zero a) (λ z. return (record { same = λ _. simp (term_value, zero? a lhs l z, zero_sum M) }))))
        or (lit? rhs >>= (λ b r. when (is_zero b) (λ z. return (record { same = λ _. simp (term_value, zero? b rhs r z, sum_zero M) }))))
        or (lit? lhs & lit? rhs >>= (λ (a, b) (l, r). return (record { same = λ _. simp (term_value, l, r, int_sum M) })))
        or (lit? lhs & add? rhs >>= (λ (k, (b, a)) (l, r). (lit? a >>= (λ z e. return (record { same = λ _. simp (term_value, l, r, e, int_sum M, sums) }))) or return (record { same = λ _. sum_comm M (v rhs) (v lhs) })))
        or (add? lhs & lit? rhs >>= (λ ((a, b), k) (l, r). (lit? a >>= (λ z e. return (record { same = λ _. simp (term_value, l, r, e, int_sum M, sums) }))) or return (record { same = λ _. refl })))
        or (add? lhs & add? rhs >>= (λ ((a, b), (c, d)) (l, r). do
          inside (
              (lit? b & lit? d >>= (λ (x, y) (e, f). return (record { same = λ _. simp (term_value, l, r, e, f, int_sum M, sums) })))
              or (lit? b >>= (λ x e. return (record { same = λ _. simp (term_value, l, sums) })))
              or (lit? d >>= (λ y e. return (record { same = λ _. simp (term_value, r, sums) }))))))

    pub add_right : Is (v lhs ⊕ v rhs) (add_table at lhs rhs)
    add_right = add_arms_lem then (record { same = λ _. refl })

    -- ---- mul

    -- a literal and a product, whichever of them is on the left
    literal_and_product : Gives (λ p. v lhs ⊗ v rhs ≡ int p.0 ⊗ (v p.1.0 ⊗ v p.1.1)) (Terms.◌or◌ (Terms.◌&◌ (lit_in (at lhs)) (mul_in (at rhs))) (Terms.swap (Terms.◌&◌ (mul_in (at lhs)) (lit_in (at rhs)))))
    literal_and_product =
        weaker (λ p (l, r). simp (l, r)) (lit? lhs & mul? rhs)
        or weaker (λ p (r, l). simp (l, r) (product_comm M (v p.1.0 ⊗ v p.1.1) (int p.0))) (swap (λ p. v lhs ≡ v p.0 ⊗ v p.1) (λ z. v rhs ≡ int z) (mul? lhs & lit? rhs))

    mul_lits_lem : Gives (Is (v lhs ⊗ v rhs)) (mul_lits at lhs rhs)
    unfolding mul_lits
    mul_lits_lem =
        (lit? lhs >>= (λ a l. when (is_zero a) (λ z. return (record { same = λ _. simp (term_value, zero? a lhs l z, zero_product M) }))))
        or (lit? rhs >>= (λ b r. when (is_zero b) (λ z. return (record { same = λ _. simp (term_value, zero? b rhs r z, product_zero M) }))))
        or (lit? lhs >>= (λ a l. when (is_one a) (λ z. return (record { same = λ _. simp (term_value, one? a lhs l z, one_product M) }))))
        or (lit? rhs >>= (λ b r. when (is_one b) (λ z. return (record { same = λ _. simp (term_value, one? b rhs r z, product_one M) }))))
        or (exp? lhs & exp? rhs >>= (λ (a, b) (l, r). return (record { same = λ _. simp (term_value, l, r, exp_sum M) })))
        or (lit? lhs & lit? rhs >>= (λ (a, b) (l, r). return (record { same = λ _. simp (term_value, l, r, int_product M) })))
        or (literal_and_product >>= (λ (a, (b1, b2)) h. inside (lit? b1 >>= (λ z e. return (record { same = λ _. simp (term_value, h, e, int_product M, products) })))))

    -- a product and an exponential, whichever of them is on the left
    product_and_exp : Gives (λ p. v lhs ⊗ v rhs ≡ (v p.0.0 ⊗ v p.0.1) ⊗ A.exp (v p.1)) (Terms.◌or◌ (Terms.◌&◌ (mul_in (at lhs)) (exp_in (at rhs))) (Terms.swap (Terms.◌&◌ (exp_in (at lhs)) (mul_in (at rhs)))))
    product_and_exp =
        weaker (λ p (l, r). simp (l, r)) (mul? lhs & exp? rhs)
        or weaker (λ p (r, l). simp (l, r) (product_comm M (A.exp (v p.1)) (v p.0.0 ⊗ v p.0.1))) (swap (λ a. v lhs ≡ A.exp (v a)) (λ p. v rhs ≡ v p.0 ⊗ v p.1) (exp? lhs & mul? rhs))

    mul_exps_lem : Gives (Is (v lhs ⊗ v rhs)) (mul_exps at lhs rhs)
    unfolding mul_exps
    mul_exps_lem =
        (product_and_exp >>= (λ ((a1, a2), b) h. do
          inside (
              (exp? a2 >>= (λ x e. return (record { same = λ _. simp (term_value, h, e, exp_sum M, products) })))
              or (exp? a1 >>= (λ x e. return (record { same = λ _. simp (term_value, h, e, exp_sum M, products) }))))))
        or (mul? lhs & mul? rhs >>= (λ ((a1, a2), (b1, b2)) (l, r). do
          inside (
              (exp? a1 & exp? b1 >>= (λ (x, y) (e, f). return (record { same = λ _. simp (term_value, l, r, e, f, exp_sum M, products) })))
              or (exp? a1 & exp? b2 >>= (λ (x, y) (e, f). return (record { same = λ _. simp (term_value, l, r, e, f, exp_sum M, products) })))
              or (exp? a2 & exp? b1 >>= (λ (x, y) (e, f). return (record { same = λ _. simp (term_value, l, r, e, f, exp_sum M, products) })))
              or (exp? a2 & exp? b2 >>= (λ (x, y) (e, f). return (record { same = λ _. simp (term_value, l, r, e, f, exp_sum M, products) }))))))

    mul_left_lem : Gives (Is (v lhs ⊗ v rhs)) (mul_left at lhs rhs)
    unfolding mul_left
    mul_left_lem =
        (mul? lhs & mul? rhs >>= (λ ((a1, a2), (b1, b2)) (l, r). inside (lit? a1 & lit? b1 >>= (λ (x, y) (e, f). return (record { same = λ _. simp (term_value, l, r, e, f, int_product M, products) })))))
        or (mul? lhs >>= (λ (a1, a2) l. inside (lit? a1 >>= (λ _ _. return (record { same = λ _. simp (term_value, l, products) })))))
        or (mul? rhs >>= (λ (b1, b2) r. inside (lit? b1 >>= (λ _ _. return (record { same = λ _. simp (term_value, r, products) })))))

    mul_pows_lem : Gives (Is (v lhs ⊗ v rhs)) (mul_pows at lhs rhs)
    unfolding mul_pows
    mul_pows_lem =
        (mul? lhs >>= (λ (a1, a2) l. when (eqb a2 rhs) (λ t. return (record { same = λ _. simp (term_value, l, ap v (eqb-true a2 rhs t), power_two M, products) }))))
        or (mul? lhs & pow? rhs >>= (λ ((a1, a2), (b, n)) (l, r). when (eqb a2 b) (λ t. return (record { same = λ _. simp (term_value, l, r, ap v (eqb-true a2 b t), power_next M, products) }))))
        or (mul? lhs & pow? rhs >>= (λ ((a1, a2), (b, exp2)) (l, r). inside (pow? a2 >>= (λ (a21, exp1) e. when (eqb a21 b) (λ t. return (record { same = λ _. simp (term_value, l, r, e, ap v (eqb-true a21 b t), power_sum M, products) }))))))

    mul_last_lem : Gives (Is (v lhs ⊗ v rhs)) (mul_last at lhs rhs)
    unfolding mul_last
    mul_last_lem = lit? rhs >>= (λ _ _. return (record { same = λ _. product_comm M (v rhs) (v lhs) }))

    pub mul_right : Is (v lhs ⊗ v rhs) (mul_table at lhs rhs)
    mul_right = mul_lits_lem then mul_exps_lem then mul_left_lem then mul_pows_lem then mul_last_lem then (record { same = λ _. refl })

    -- ---- div, max

    pub div_right : Is (v lhs ⊘ v rhs) (div_table at lhs rhs)
    unfolding div_table
    div_right =
        ◌then◌ {H = Is (v lhs ⊘ v rhs)}
        ((lit? lhs >>= (λ a l. when (is_zero a) (λ z. return (record { same = λ _. simp (term_value, zero? a lhs l z, M.zero_over) }))))
        or (lit? rhs >>= (λ b r. when (is_one b) (λ z. return (record { same = λ _. simp (term_value, one? b rhs r z, M.over_one) })))))
        (record { same = λ _. refl })

    pub max_right : Is (A.max (v lhs) (v rhs)) (max_table at lhs rhs)
    max_right = record { same = λ _. refl }

  module _ (arg : ℕ) where
    pub neg_right : Is (int (negsuc 0) ⊗ v arg) (neg_table at arg)
    neg_right = record { same = λ _. refl }

    -- ---- exp
    exp_arms_lem : Gives (Is (A.exp (v arg))) (exp_arms at arg)
    unfolding exp_arms
    exp_arms_lem =
        (lit? arg >>= (λ a h. when (is_zero a) (λ z. return (record { same = λ _. simp (term_value, zero? a arg h z, M.exp_zero) }))))
        or (lit? arg >>= (λ a h. return (record { same = λ _. simp (term_value, h) })))
        or (add? arg >>= (λ (a, b) h. inside (lit? b >>= (λ z e. return (record { same = λ _. simp (term_value, h, e, exp_sum M, products) })))))

    pub exp_right : Is (A.exp (v arg)) (exp_table at arg)
    exp_right = exp_arms_lem then (record { same = λ _. refl })

    -- ---- log: the literal in a product is 1, or the rule is refused
    log_arms_lem : Gives (Is (A.log (v arg))) (log_arms at arg)
    unfolding log_arms
    log_arms_lem =
        (lit? arg >>= (λ a h. when (is_one a) (λ z. return (record { same = λ _. simp (term_value, one? a arg h z, M.log_one) }))))
        or (lit? arg >>= (λ a h. return (record { same = λ _. simp (term_value, h) })))
        or (mul? arg >>= (λ (a, b) h. inside (lit? a >>= (λ z e. return (record { same = λ runs. simp (term_value, h, e, one_is z runs.1, M.log_one, sum_zero M, one_product M) })))))

    pub log_right : Is (A.log (v arg)) (log_table at arg)
    log_right = log_arms_lem then (record { same = λ _. refl })

    -- ---- pow
    pub pow_right : (e : ℕ) → Is (power A (v arg) e) (pow_table at arg e)
    unfolding pow_table
    pow_right zero = record { same = λ _. sym (power_none M (v arg)) }
    pow_right (suc zero) = record { same = λ _. sym (power_one M (v arg)) }
    pow_right (suc (suc e)) =
        ◌then◌ {H = Is (power A (v arg) (suc (suc e)))}
        (when (eqb (suc (suc e)) 0) (λ t. absurd (two_or_more e (eqb-true (suc (suc e)) 0 t)))
        or when (eqb (suc (suc e)) 1) (λ t. absurd (more_than_one e (eqb-true (suc (suc e)) 1 t)))
        or (lit? arg >>= (λ a h. when (is_zero a) (λ z. return (record { same = λ _. sym (ap (λ x. power A x (suc (suc e))) (zero? a arg h z) ∙ power_of_zero M (suc e)) }))))
        or (lit? arg >>= (λ a h. when (is_one a) (λ z. return (record { same = λ _. sym (ap (λ x. power A x (suc (suc e))) (one? a arg h z) ∙ power_of_one M (suc (suc e))) })))))
        (record { same = λ _. refl })
