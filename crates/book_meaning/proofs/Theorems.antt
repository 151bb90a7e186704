-- In every ring with fractions: coefficients that follow one of the book's recurrences have the values of the book's formulas, all node values being those of the pool that is left.
-- Assumes nothing.
use mathlib.Core.Path.{◌≡◌, refl}
use mathlib.Core.List.{List, [], ◌∷◌}
use Prim.Native.Nat.{ℕ, zero, suc, ◌+◌, ◌-◌, ◌≤◌, ◌<◌, min}
use native.Mathlib.Omega.{arith}
use lib.ListN.{length, get_or}
use Rattle.pool.specs.Pool.{Pool, node_at}
use Rattle.constructor_laws.specs.Keeps.{Keeps}
use Rattle.taylor.specs.Work.{at}
use Rattle.book.specs.Formula.{Formula, #, whole, ◌⊕◌, ◌⊖◌, ◌⊗◌, ◌⊘◌, chain}
use Rattle.book.specs.Book.{list, constant, product_book, scaled_book, quotient_book, exp_book, log_book}
use Rattle.book.specs.Order.{product_ordered, scaled_ordered, divided_ordered, quotient_ordered, constant_quotient_ordered, exp_ordered, log_ordered}
use Rattle.book.specs.Recurrence.{Recurrence, WithZero, WithScale}
use Rattle.meaning.specs.Model.{Algebra, Model, Distributive}
use Rattle.meaning.specs.Value.{Values, value}
use Rattle.taylor_meaning.specs.Series.{Fractions}
use Rattle.book_meaning.specs.Value.{formula_value}
use Rattle.book_meaning.proofs.Working.{Names, Stands}
use Rattle.book_meaning.proofs.Recurrences.{Earlier, given, shared, coefficient, coefficient_has_the_books_value}

-- ---- the nodes that a chain names
chain_names :
    (K : ℕ → Type 0) (join : Formula → Formula → Formula) → ((f g : Formula) → Names K f → Names K g → Names K (join f g))
    → (start : Formula) (first n : ℕ) (t : ℕ → Formula) → Names K start → ((j : ℕ) → first ≤ j → j < first + n → Names K (t j)) → Names K (chain join start first n t)
unfolding chain
chain_names K join both start first zero t s h = s
chain_names K join both start first (suc n) t s h =
    both (chain join start first n t) (t (first + n)) (chain_names K join both start first n t s (λ j a b. h j a (omega arith))) (h (first + n) (omega arith) (omega arith))

-- a chain of sums, or of differences
sum_names : (K : ℕ → Type 0) (start : Formula) (first n : ℕ) (t : ℕ → Formula) → Names K start → ((j : ℕ) → first ≤ j → j < first + n → Names K (t j)) → Names K (chain ◌⊕◌ start first n t)
sum_names K = chain_names K ◌⊕◌ (λ f g a b. (a, b))

less_names : (K : ℕ → Type 0) (start : Formula) (first n : ℕ) (t : ℕ → Formula) → Names K start → ((j : ℕ) → first ≤ j → j < first + n → Names K (t j)) → Names K (chain ◌⊖◌ start first n t)
less_names K = chain_names K ◌⊖◌ (λ f g a b. (a, b))

-- ---- what is shared names nodes of P
module _ (P : Pool) where
  abbrev SharesStand : List Formula → Type 0
  SharesStand shares = (i : ℕ) → i < length shares → Stands P (get_or shares i (whole 0))

  nothing_shared : SharesStand []
  nothing_shared i l = tt

  zero_shared : SharesStand (whole 0 ∷ [])
  zero_shared zero l = tt
  zero_shared (suc i) l = tt

  scale_shared : (w : ℕ) → w < P.count → SharesStand (whole 0 ∷ (whole 1 ⊘ # w) ∷ [])
  scale_shared w h zero l = tt
  scale_shared w h (suc zero) l = (tt, h)
  scale_shared w h (suc (suc i)) l = tt

-- ---- the theorems
module _ {A : Algebra} (M : Model A) (D : Distributive A) (fractions : Fractions A) (env : Values A) (P Q : Pool) (keeps : Keeps P) where
  -- the entries of a list are nodes of P
  abbrev pub Nodes : List ℕ → Type 0
  Nodes us = (k : ℕ) → k < length us → at us k < P.count

  -- the value of coefficient k is that of the formula
  abbrev pub HaveValues : (ℕ → Formula) → ℕ → List ℕ → Type 0
  HaveValues book n cs = (k : ℕ) → k < n → value A env (node_at Q) (at cs k) ≡ formula_value A (value A env (node_at Q)) (book k)

  -- ---- products
  pub product_has_the_books_values :
      (us ws vs : List ℕ) → Nodes us → Nodes ws → WithZero (product_book (list us) (list ws)) (product_ordered (list us) (list ws)) (min (length us) (length ws)) vs P Q
      → HaveValues (product_book (list us) (list ws)) (min (length us) (length ws)) vs
  product_has_the_books_values us ws vs hu hw (z, h) = coefficient_has_the_books_value M env keeps refl (zero_shared P) names h D fractions
    where
      names : (k : ℕ) → k < min (length us) (length ws) → Names (Earlier P (z ∷ []) vs k) (product_ordered (list us) (list ws) z k)
      names k l =
          sum_names (Earlier P (z ∷ []) vs k) (# z) 0 (suc k) (λ j. list us j ⊗ list ws (k - j)) (shared 0 (omega arith)) (λ j a b. (given (hu j (omega arith)), given (hw (k - j) (omega arith))))

  pub scaled_has_the_books_values :
      (c : ℕ) (us vs : List ℕ) → c < P.count → Nodes us → Recurrence [] [] (scaled_book (# c) (list us)) (scaled_ordered (# c) (list us)) (length us) vs P Q → HaveValues (scaled_book (# c) (list us)) (length us) vs
  scaled_has_the_books_values c us vs hc hu h = coefficient_has_the_books_value M env keeps refl (nothing_shared P) (λ k l. (given (hu k l), given hc)) h D fractions

  -- ---- quotients
  quotient_names :
      (u : ℕ → ℕ) (ws vs : List ℕ) (z scale k : ℕ) → Nodes ws → Earlier P (z ∷ scale ∷ []) vs k (u k) → k < length ws
      → Names (Earlier P (z ∷ scale ∷ []) vs k) (quotient_ordered (λ j. # (u j)) (list ws) (list vs) scale k)
  quotient_names u ws vs z scale k hw hu l = (
    shared 1 (omega arith),
    less_names (Earlier P (z ∷ scale ∷ []) vs k) (# (u k)) 0 k (λ j. list vs j ⊗ list ws (k - j)) hu (λ j a b. (coefficient j (omega arith), given (hw (k - j) (omega arith)))),
  )

  pub quotient_has_the_books_values :
      (us ws vs : List ℕ) → 1 ≤ length ws → Nodes us → Nodes ws
      → WithScale (list ws) (quotient_book (list us) (list ws) (list vs)) (λ z. quotient_ordered (list us) (list ws) (list vs)) (min (length us) (length ws)) vs P Q
      → HaveValues (quotient_book (list us) (list ws) (list vs)) (min (length us) (length ws)) vs
  quotient_has_the_books_values us ws vs some hu hw (z, scale, h) =
      coefficient_has_the_books_value M env keeps refl (scale_shared P (at ws 0) (hw 0 (omega arith))) (λ k l. quotient_names (at us) ws vs z scale k hw (given (hu k (omega arith))) (omega arith)) h D fractions

  pub constant_quotient_has_the_books_values :
      (c : ℕ) (ws vs : List ℕ) → 1 ≤ length ws → c < P.count → Nodes ws
      → WithScale (list ws) (quotient_book (constant c) (list ws) (list vs)) (constant_quotient_ordered c (list ws) (list vs)) (length ws) vs P Q
      → HaveValues (quotient_book (constant c) (list ws) (list vs)) (length ws) vs
  constant_quotient_has_the_books_values c ws vs some hc hw (z, scale, h) = coefficient_has_the_books_value M env keeps refl (scale_shared P (at ws 0) (hw 0 (omega arith))) names h D fractions
    where
      names : (k : ℕ) → k < length ws → Names (Earlier P (z ∷ scale ∷ []) vs k) (constant_quotient_ordered c (list ws) (list vs) z scale k)
      names zero l = (given hc, shared 1 (omega arith))
      names (suc k) l = quotient_names (λ j. z) ws vs z scale (suc k) hw (shared 0 (omega arith)) l

  pub divided_has_the_books_values :
      (us vs : List ℕ) (c : ℕ) → Nodes us → c < P.count → Recurrence [] [] (scaled_book (whole 1 ⊘ # c) (list us)) (divided_ordered (# c) (list us)) (length us) vs P Q → HaveValues (scaled_book (whole 1 ⊘ # c) (list us)) (length us) vs
  divided_has_the_books_values us vs c hu hc h = coefficient_has_the_books_value M env keeps refl (nothing_shared P) (λ k l. (given (hu k l), given hc)) h D fractions

  -- ---- exponentials and logarithms
  pub exp_has_the_books_values :
      (us vs : List ℕ) → Nodes us → WithZero (exp_book (list us) (list vs)) (exp_ordered (list us) (list vs)) (length us) vs P Q → HaveValues (exp_book (list us) (list vs)) (length us) vs
  exp_has_the_books_values us vs hu (z, h) = coefficient_has_the_books_value M env keeps refl (zero_shared P) names h D fractions
    where
      names : (k : ℕ) → k < length us → Names (Earlier P (z ∷ []) vs k) (exp_ordered (list us) (list vs) z k)
      names zero l = given (hu 0 l)
      names (suc k) l = (
        sum_names (Earlier P (z ∷ []) vs (suc k)) (# z) 1 (suc k) (λ j. list vs (suc k - j) ⊗ list us j ⊗ whole j) (shared 0 (omega arith)) (λ j a b. ((coefficient (suc k - j) (omega arith), given (hu j (omega arith))), tt)),
        tt,
      )

  pub log_has_the_books_values :
      (us vs : List ℕ) → Nodes us → WithZero (log_book (list us) (list vs)) (log_ordered (list us) (list vs)) (length us) vs P Q → HaveValues (log_book (list us) (list vs)) (length us) vs
  log_has_the_books_values us vs hu (z, h) = coefficient_has_the_books_value M env keeps refl (zero_shared P) names h D fractions
    where
      names : (k : ℕ) → k < length us → Names (Earlier P (z ∷ []) vs k) (log_ordered (list us) (list vs) z k)
      names zero l = given (hu 0 l)
      names (suc k) l =
          let first : 0 < length us = omega arith in
          let sums = sum_names (Earlier P (z ∷ []) vs (suc k)) (# z) 1 k (λ j. list us (suc k - j) ⊗ list vs j ⊗ whole j) (shared 0 (omega arith)) (λ j a b. ((given (hu (suc k - j) (omega arith)), coefficient j (omega arith)), tt)) in
          ((((given (hu (suc k) l), tt), sums), given (hu 0 first)), tt)
