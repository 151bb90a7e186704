-- A loop that joins one term after the other is the work of the chain of these terms; and the four loops of the definitions are the recurrences in the Rust's order.
-- Assumes nothing.
use mathlib.Core.Path.{◌≡◌, refl, sym, ap, ◌∙◌}
use mathlib.Core.List.{List}
use Prim.Native.Nat.{ℕ, zero, suc, ◌+◌, ◌-◌, ◌≤◌, ◌<◌}
use native.Mathlib.Omega.{arith}
use Rattle.pool.specs.Pool.{Pool, done, refused}
use Rattle.taylor.specs.Work.{Result, Work, bind, yield, from, add, sub, mul, div, at, fold}
use Rattle.taylor.specs.Expansion.{product_term, product_at, quotient_term, quotient_at, exp_term, exp_at, log_term, log_at}
use Rattle.taylor_base.proofs.Steps.{bind_same, bind_assoc}
use Rattle.book.specs.Formula.{Formula, #, whole, ◌⊕◌, ◌⊖◌, ◌⊗◌, work, chain}
use Rattle.book.specs.Book.{list}
use Rattle.book.specs.Order.{product_ordered, quotient_ordered, exp_ordered, log_ordered}

bind_yield : {A : Type 0} (x : Result A) → bind x yield ≡ x
bind_yield (done v P) = refl
bind_yield (refused k) = refl

-- the last turn of a loop
fold_last : (step : ℕ → ℕ → Work ℕ) (first n acc : ℕ) (P : Pool) → fold step first (suc n) acc P ≡ bind (fold step first n acc P) (λ a. step a (first + n))
unfolding fold
fold_last step first zero acc P =
    let same : first ≡ first + 0 = omega arith in
    bind_yield (step acc first P) ∙ ap (λ (j : ℕ). step acc j P) same
fold_last step first (suc n) acc P =
    let same : suc first + n ≡ first + suc n = omega arith in
    bind_same (step acc first P) (fold step (suc first) (suc n)) (λ a Q. bind (fold step (suc first) n a Q) (λ b. step b (suc first + n))) (λ a Q. fold_last step (suc first) n a Q)
    ∙ sym (bind_assoc (step acc first P) (fold step (suc first) n) (λ b. step b (suc first + n)))
    ∙ ap (λ (j : ℕ). bind (fold step first (suc n) acc P) (λ b. step b j)) same

module _ (join : Formula → Formula → Formula) (step : ℕ → ℕ → Work ℕ) (t : ℕ → Formula)
    (is : (f : Formula) (j : ℕ) (P : Pool) → work (join f (t j)) P ≡ bind (work f P) (λ a. step a j)) where
  chain_is_loop : (start : Formula) (first n : ℕ) (P : Pool) → work (chain join start first n t) P ≡ bind (work start P) (fold step first n)
  unfolding chain fold
  chain_is_loop start first zero P = sym (bind_yield (work start P))
  chain_is_loop start first (suc n) P =
      is (chain join start first n t) (first + n) P
      ∙ ap (λ x. bind x (λ a. step a (first + n))) (chain_is_loop start first n P)
      ∙ bind_assoc (work start P) (fold step first n) (λ a. step a (first + n))
      ∙ sym (bind_same (work start P) (fold step first (suc n)) (λ a Q. bind (fold step first n a Q) (λ b. step b (first + n))) (λ a Q. fold_last step first n a Q))

-- terms that are alike up to there
pub same_chain :
    (join : Formula → Formula → Formula) (start : Formula) (first n : ℕ) (t t' : ℕ → Formula) → ((j : ℕ) → first ≤ j → j < first + n → t j ≡ t' j) → chain join start first n t ≡ chain join start first n t'
unfolding chain
same_chain join start first zero t t' h = refl
same_chain join start first (suc n) t t' h =
    ap (λ f. join f (t (first + n))) (same_chain join start first n t t' (λ j a b. h j a (omega arith)))
    ∙ ap (join (chain join start first n t')) (h (first + n) (omega arith) (omega arith))

-- ---- the four recurrences

pub product_is : (us ws : List ℕ) (z : ℕ) (res : List ℕ) (k : ℕ) (P : Pool) → product_at us ws z res k P ≡ work (product_ordered (list us) (list ws) z k) P
unfolding work
product_is us ws z res k P = sym (chain_is_loop ◌⊕◌ (product_term us ws k) (λ j. list us j ⊗ list ws (k - j)) (λ f j Q. refl) (# z) 0 (suc k) P)

pub quotient_is : (start : ℕ → ℕ) (ws : List ℕ) (scale : ℕ) (res : List ℕ) (k : ℕ) (P : Pool) → quotient_at start ws scale res k P ≡ work (quotient_ordered (λ j. # (start j)) (list ws) (list res) scale k) P
unfolding work
quotient_is start ws scale res k P =
    ap (λ x. bind x (mul scale)) (sym (chain_is_loop ◌⊖◌ (quotient_term res ws k) (λ j. list res j ⊗ list ws (k - j)) (λ f j Q. refl) (# (start k)) 0 k P))

-- a term with the factor j, added
term_is : (f : Formula) (a b j : ℕ) (P : Pool) → work (f ⊕ (# a ⊗ # b ⊗ whole j)) P ≡ bind (work f P) (λ s Q. bind (mul a b Q) (λ p R. bind (from j R) (λ n S. bind (mul p n S) (add s))))
unfolding work
term_is f a b j P =
    bind_same (work f P) (λ s Q. bind (bind (mul a b Q) (λ p R. bind (from j R) (mul p))) (add s)) (λ s Q. bind (mul a b Q) (λ p R. bind (from j R) (λ n S. bind (mul p n S) (add s)))) (λ s Q.
    bind_assoc (mul a b Q) (λ p R. bind (from j R) (mul p)) (add s)
    ∙ bind_same (mul a b Q) (λ p R. bind (bind (from j R) (mul p)) (add s)) (λ p R. bind (from j R) (λ n S. bind (mul p n S) (add s))) (λ p R.
    bind_assoc (from j R) (mul p) (add s)))

pub exp_is : (us : List ℕ) (z : ℕ) (res : List ℕ) (k : ℕ) (P : Pool) → exp_at us z res (suc k) P ≡ work (exp_ordered (list us) (list res) z (suc k)) P
unfolding work
exp_is us z res k P =
    ap (λ x. bind x (λ s Q. bind (from (suc k) Q) (div s)))
    (sym (chain_is_loop ◌⊕◌ (exp_term res us (suc k)) (λ j. list res (suc k - j) ⊗ list us j ⊗ whole j) (λ f j Q. term_is f (at res (suc k - j)) (at us j) j Q) (# z) 1 (suc k) P))

-- (u_k × k - s) / u_0 / k after the sum s
log_steps : (x : Result ℕ) (k uₖ u₀ : ℕ)
    → bind x (λ s Q. bind (from k Q) (λ n R. bind (mul uₖ n R) (λ p S. bind (sub p s S) (λ d T. bind (div d u₀ T) (λ q U. bind (from k U) (div q))))))
    ≡ bind (bind (bind x (λ s Q. bind (bind (from k Q) (mul uₖ)) (λ p. sub p s))) (λ d. div d u₀)) (λ q U. bind (from k U) (div q))
log_steps (refused i) k uₖ u₀ = refl
log_steps (done s Q) k uₖ u₀ = go (from k Q)
  where
    last : ℕ → Work ℕ
    last q U = bind (from k U) (div q)

    two : (x : Result ℕ) → bind x (λ p S. bind (sub p s S) (λ d T. bind (div d u₀ T) last)) ≡ bind (bind (bind x (λ p. sub p s)) (λ d. div d u₀)) last
    two (refused i) = refl
    two (done p S) = sym (bind_assoc (sub p s S) (λ d. div d u₀) last)

    go : (y : Result ℕ) → bind y (λ n R. bind (mul uₖ n R) (λ p S. bind (sub p s S) (λ d T. bind (div d u₀ T) last))) ≡ bind (bind (bind (bind y (mul uₖ)) (λ p. sub p s)) (λ d. div d u₀)) last
    go (refused i) = refl
    go (done n R) = two (mul uₖ n R)

pub log_is : (us : List ℕ) (z : ℕ) (res : List ℕ) (k : ℕ) (P : Pool) → log_at us z res (suc k) P ≡ work (log_ordered (list us) (list res) z (suc k)) P
unfolding work
log_is us z res k P =
    let less_one : suc k - 1 ≡ k = omega arith in
    log_steps (fold (log_term res us (suc k)) 1 (suc k - 1) z P) (suc k) (at us (suc k)) (at us 0)
    ∙ ap (λ x. bind (bind (bind x (λ s Q. bind (bind (from (suc k) Q) (mul (at us (suc k)))) (λ p. sub p s))) (λ d. div d (at us 0))) (λ q U. bind (from (suc k) U) (div q)))
    (ap (λ (n : ℕ). fold (log_term res us (suc k)) 1 n z P) less_one
    ∙ sym (chain_is_loop ◌⊕◌ (log_term res us (suc k)) (λ j. list us (suc k - j) ⊗ list res j ⊗ whole j) (λ f j Q. term_is f (at us (suc k - j)) (at res j) j Q) (# z) 1 k P))
