-- Wherever a product, a quotient, an exponential or a logarithm of expansions is accepted, every coefficient of the answer is the book's recurrence at the nodes of the pool, its terms in the Rust's order.
-- Assumes nothing.
use mathlib.Core.Path.{◌≡◌, refl, sym, ap, ◌∙◌}
use mathlib.Core.List.{List, [], ◌∷◌}
use Prim.Native.Nat.{ℕ, zero, suc, ◌-◌, ◌≤◌, min}
use native.Mathlib.Omega.{arith}
use lib.ListN.{length}
use Rattle.pool.specs.Pool.{Pool, done, refused}
use Rattle.taylor.specs.Work.{Result, Work, bind, yield, zero_lit, one_lit, mul, div, at, each, fill}
use Rattle.taylor.specs.Expansion.{Expansion, product_at, times, quotient_at, quotient, exp_at, exponential, log_at, logarithm}
use Rattle.taylor.specs.declared.expansion.Expansion.TheVariants.{Constant, Polynomial}
use Rattle.book.specs.Formula.{Formula, #, whole, ◌⊕◌, ◌⊖◌, ◌⊗◌, ◌⊘◌, ◌⊟◌, work, works, row, chain}
use Rattle.book.specs.Book.{Coefficients, list, constant, product_book, scaled_book, quotient_book, exp_book, log_book}
use Rattle.book.specs.Order.{product_ordered, scaled_ordered, divided_ordered, quotient_ordered, constant_quotient_ordered, exp_ordered, log_ordered, ◌≈◌, once}
use Rattle.book.specs.Recurrence.{Recurrence, WithZero, WithScale}
use Rattle.book.proofs.Work.{Came, came_weaker, came_next, holds_then, work_appends, one_more, works_then, coefficients_in_turn}
use Rattle.book.proofs.Chains.{same_chain, product_is, quotient_is, exp_is, log_is}
use Rattle.book.proofs.Filling.{LooksBack, fill_in_turn, Row, from_none, from_first, each_in_turn}
use Rattle.book.proofs.Rearranging.{product_same, scaled_same, divided_same, quotient_same, constant_quotient_same, exp_same, log_same}

-- ---- formulas speak of earlier coefficients alone

pub quotient_looks_back : (u w : Coefficients) (scale : ℕ) → LooksBack (λ vs. quotient_ordered u w (list vs) scale)
quotient_looks_back u w scale k vs vs' h =
    ap (λ f. # scale ⊗ f) (same_chain ◌⊖◌ (u k) 0 k (λ j. list vs j ⊗ w (k - j)) (λ j. list vs' j ⊗ w (k - j)) (λ j a b. ap (λ i. # i ⊗ w (k - j)) (h j (omega arith))))

pub constant_quotient_looks_back : (c : ℕ) (w : Coefficients) (z scale : ℕ) → LooksBack (λ vs. constant_quotient_ordered c w (list vs) z scale)
constant_quotient_looks_back c w z scale zero vs vs' h = refl
constant_quotient_looks_back c w z scale (suc k) vs vs' h = quotient_looks_back (λ j. # z) w scale (suc k) vs vs' h

pub exp_looks_back : (u : Coefficients) (z : ℕ) → LooksBack (λ vs. exp_ordered u (list vs) z)
exp_looks_back u z zero vs vs' h = refl
exp_looks_back u z (suc k) vs vs' h =
    ap (λ f. f ⊘ whole (suc k))
    (same_chain ◌⊕◌ (# z) 1 (suc k) (λ j. list vs (suc k - j) ⊗ u j ⊗ whole j) (λ j. list vs' (suc k - j) ⊗ u j ⊗ whole j) (λ j a b. ap (λ i. # i ⊗ u j ⊗ whole j) (h (suc k - j) (omega arith))))

pub log_looks_back : (u : Coefficients) (z : ℕ) → LooksBack (λ vs. log_ordered u (list vs) z)
log_looks_back u z zero vs vs' h = refl
log_looks_back u z (suc k) vs vs' h =
    ap (λ f. (u (suc k) ⊗ whole (suc k) ⊟ f) ⊘ u 0 ⊘ whole (suc k))
    (same_chain ◌⊕◌ (# z) 1 k (λ j. u (suc k - j) ⊗ list vs j ⊗ whole j) (λ j. u (suc k - j) ⊗ list vs' j ⊗ whole j) (λ j a b. ap (λ i. u (suc k - j) ⊗ # i ⊗ whole j) (h j (omega arith))))

-- ---- a list as an answer

list_in : Result Expansion → Result (List ℕ)
list_in (done (Polynomial cs) Q) = done cs Q
list_in (done (Constant c) Q) = refused 0
list_in (refused k) = refused k

list_given : (x : Result (List ℕ)) {cs : List ℕ} {Q : Pool} → bind x (λ cs. yield (Polynomial cs)) ≡ done (Polynomial cs) Q → x ≡ done cs Q
unfolding list_in
list_given x e = sym (go x) ∙ ap list_in e
  where
    go : (x : Result (List ℕ)) → list_in (bind x (λ cs. yield (Polynomial cs))) ≡ x
    go (done cs Q) = refl
    go (refused k) = refl

-- ---- what is shared, then all coefficients
recurrence :
    (shared : List Formula) {nodes : List ℕ} (book ordered : ℕ → Formula) {n : ℕ} {cs : List ℕ} (P : Pool) {A Q : Pool}
    → works shared P ≡ done nodes A → length cs ≡ n → works (row ordered 0 n) A ≡ done cs Q → ((k : ℕ) → ◌≈◌ shared nodes (book k) (ordered k))
    → Recurrence shared nodes book ordered n cs P Q
recurrence shared book ordered {n} {cs} P {Q = Q} e l d same =
    record {
      long = l;
      coefficient = coefficients_in_turn shared ordered n P e d;
      same = λ k h. same k;
      works_in_turn = holds_then (works_then shared (row ordered 0 n) P) e cs Q d;
    }

-- ---- coefficient 0 by its own formula, then the others from those before them
module _ (n : ℕ) (some : 1 ≤ n) (P : Pool) where
  rest_follows :
      (step : List ℕ → ℕ → Work ℕ) (book formula : List ℕ → ℕ → Formula) (shared : List Formula) {nodes : List ℕ} (A : Pool)
      → works shared P ≡ done nodes A
      → ((res : List ℕ) (k : ℕ) (Q : Pool) → step res (suc k) Q ≡ work (formula res (suc k)) Q)
      → LooksBack formula
      → ((vs : List ℕ) (k : ℕ) → ◌≈◌ shared nodes (book vs k) (formula vs k))
      → Came A (λ cs Q. Recurrence shared nodes (book cs) (formula cs) n cs P Q) (bind (work (formula [] 0) A) (λ r. fill step (n - 1) (r ∷ [])))
  rest_follows step book formula shared {nodes} A e is back same =
      came_next (work_appends (formula [] 0) A) (λ r B e' g x.
      came_weaker (λ cs Q h. answer cs Q (from_first formula A back e' h)) (fill_in_turn step formula 1 from_one back (n - 1) (r ∷ []) B (omega arith)))
    where
      from_one : (res : List ℕ) (k : ℕ) → 1 ≤ k → (Q : Pool) → step res k Q ≡ work (formula res k) Q
      from_one res zero h Q = absurd (never h)
        where
          never : 1 ≤ 0 → ⊥
          never h = omega arith
      from_one res (suc k) h Q = is res k Q

      answer : (cs : List ℕ) (Q : Pool) → Row formula (suc (n - 1)) cs A Q → Recurrence shared nodes (book cs) (formula cs) n cs P Q
      answer cs Q h =
          let all : suc (n - 1) ≡ n = omega arith in
          recurrence shared (book cs) (formula cs) P e (h.long ∙ all) (rw all at h.works_in_turn) (same cs)

  -- after a literal 0
  with_zero :
      (step : ℕ → List ℕ → ℕ → Work ℕ) (book : List ℕ → ℕ → Formula) (formula : ℕ → List ℕ → ℕ → Formula)
      → ((z : ℕ) (res : List ℕ) (k : ℕ) (Q : Pool) → step z res (suc k) Q ≡ work (formula z res (suc k)) Q)
      → ((z : ℕ) → LooksBack (formula z))
      → ((z : ℕ) → ◌≈◌ (whole 0 ∷ []) (z ∷ []) (whole 0) (# z) → (vs : List ℕ) (k : ℕ) → ◌≈◌ (whole 0 ∷ []) (z ∷ []) (book vs k) (formula z vs k))
      → Came P (λ cs Q. WithZero (book cs) (λ z. formula z cs) n cs P Q) (bind (zero_lit P) (λ z Q. bind (work (formula z [] 0) Q) (λ r. fill (step z) (n - 1) (r ∷ []))))
  unfolding work works
  with_zero step book formula is back same =
      came_next (work_appends (whole 0) P) (λ z A e g x.
      came_weaker (λ cs Q h. (z, h))
      (rest_follows (step z) book (formula z) (whole 0 ∷ []) A (one_more (whole 0) [] P e refl) (is z) (back z) (same z (once 0 (omega arith)))))

  -- after a literal 0 and 1/w_0
  with_scale :
      (ws : List ℕ) (step : ℕ → ℕ → List ℕ → ℕ → Work ℕ) (book : List ℕ → ℕ → Formula) (formula : ℕ → ℕ → List ℕ → ℕ → Formula)
      → ((z scale : ℕ) (res : List ℕ) (k : ℕ) (Q : Pool) → step z scale res (suc k) Q ≡ work (formula z scale res (suc k)) Q)
      → ((z scale : ℕ) → LooksBack (formula z scale))
      → ((z scale : ℕ) (vs : List ℕ) (k : ℕ) → ◌≈◌ (whole 0 ∷ (whole 1 ⊘ list ws 0) ∷ []) (z ∷ scale ∷ []) (book vs k) (formula z scale vs k))
      → Came P (λ cs Q. WithScale (list ws) (book cs) (λ z scale. formula z scale cs) n cs P Q)
      (bind (zero_lit P) (λ z Q. bind (one_lit Q) (λ o R. bind (div o (at ws 0) R) (λ scale S. bind (work (formula z scale [] 0) S) (λ r. fill (step z scale) (n - 1) (r ∷ []))))))
  unfolding work works
  with_scale ws step book formula is back same =
      came_next (work_appends (whole 0) P) (λ z A e g x.
      came_next (work_appends (whole 1) A) (λ o B e' g' x'.
      came_next (work_appends (# o ⊘ list ws 0) B) (λ scale C e'' g'' x''.
      came_weaker (λ cs Q h. (z, scale, h))
      (rest_follows (step z scale) book (formula z scale) (whole 0 ∷ (whole 1 ⊘ list ws 0) ∷ []) C (shared_are z A o B scale C e e' e'') (is z scale) (back z scale) (same z scale)))))
    where
      shared_are :
          (z : ℕ) (A : Pool) (o : ℕ) (B : Pool) (scale : ℕ) (C : Pool) → zero_lit P ≡ done z A → one_lit A ≡ done o B → div o (at ws 0) B ≡ done scale C
          → works (whole 0 ∷ (whole 1 ⊘ list ws 0) ∷ []) P ≡ done (z ∷ scale ∷ []) C
      shared_are z A o B scale C e e' e'' =
          one_more (whole 0) ((whole 1 ⊘ list ws 0) ∷ []) P e (one_more (whole 1 ⊘ list ws 0) [] A (ap (λ r. bind r (λ o. div o (at ws 0))) e' ∙ e'') refl)

-- each coefficient from its like
each_follows :
    (f : ℕ → Work ℕ) (book formula : ℕ → Formula) (us : List ℕ) (P : Pool) → ((u : ℕ) (Q : Pool) → f u Q ≡ work (formula u) Q) → ((u : ℕ) → ◌≈◌ [] [] (book u) (formula u))
    → Came P (λ cs Q. Recurrence [] [] (λ k. book (at us k)) (λ k. formula (at us k)) (length us) cs P Q) (each f us P)
unfolding works
each_follows f book formula us P is same =
    came_weaker (λ cs Q h. recurrence [] (λ k. book (at us k)) (λ k. formula (at us k)) P refl h.long h.works_in_turn (λ k. same (at us k))) (each_in_turn f formula is us P)

-- ---- the theorems
module _ (P : Pool) {cs : List ℕ} {Q : Pool} where
  -- list × list: v_k = Σ_(j=0..k) u_j × w_(k-j)
  pub product_follows_the_book :
      (us ws : List ℕ) → times (Polynomial us) (Polynomial ws) P ≡ done (Polynomial cs) Q
      → WithZero (product_book (list us) (list ws)) (product_ordered (list us) (list ws)) (min (length us) (length ws)) cs P Q
  unfolding times work works
  product_follows_the_book us ws eq = holds_then answer (list_given _ eq)
    where
      n : ℕ
      n = min (length us) (length ws)

      formula : ℕ → List ℕ → ℕ → Formula
      formula z vs = product_ordered (list us) (list ws) z

      call : (z : ℕ) (A : Pool) (cs : List ℕ) (Q : Pool) → zero_lit P ≡ done z A → Row (formula z) n cs A Q → WithZero (product_book (list us) (list ws)) (product_ordered (list us) (list ws)) n cs P Q
      call z A cs Q e h = (
        z,
        recurrence (whole 0 ∷ []) (product_book (list us) (list ws)) (formula z cs) P (one_more (whole 0) [] P e refl) h.long h.works_in_turn
            (product_same (whole 0 ∷ []) (z ∷ []) (once 0 (omega arith)) (list us) (list ws)),
      )

      answer : Came P (λ cs Q. WithZero (product_book (list us) (list ws)) (product_ordered (list us) (list ws)) n cs P Q) (bind (zero_lit P) (λ z. fill (product_at us ws z) n []))
      answer =
          came_next (work_appends (whole 0) P) (λ z A e g x.
          came_weaker (λ cs Q h. call z A cs Q e (from_none (formula z) h))
          (fill_in_turn (product_at us ws z) (formula z) 0 (λ res k l. product_is us ws z res k) (λ k vs vs' h. refl) n [] A (omega arith)))

  -- constant × list and list × constant: v_k = c × u_k
  pub constant_product_follows_the_book :
      (c : ℕ) (ws : List ℕ) → times (Constant c) (Polynomial ws) P ≡ done (Polynomial cs) Q
      → Recurrence [] [] (scaled_book (# c) (list ws)) (scaled_ordered (# c) (list ws)) (length ws) cs P Q
  unfolding times work
  constant_product_follows_the_book c ws eq =
      holds_then (each_follows (λ w. mul w c) (λ w. # c ⊗ # w) (λ w. # w ⊗ # c) ws P (λ w Q. refl) (λ w. scaled_same [] [] (# c) (λ k. # w) 0)) (list_given _ eq)

  pub product_with_constant_follows_the_book :
      (us : List ℕ) (c : ℕ) → times (Polynomial us) (Constant c) P ≡ done (Polynomial cs) Q
      → Recurrence [] [] (scaled_book (# c) (list us)) (scaled_ordered (# c) (list us)) (length us) cs P Q
  unfolding times
  product_with_constant_follows_the_book us c eq = constant_product_follows_the_book c us eq

  -- list / list: v_k = (1/w_0) × (u_k - Σ_(j=0..k-1) v_j × w_(k-j))
  pub quotient_follows_the_book :
      (us ws : List ℕ) → 1 ≤ length us → 1 ≤ length ws → quotient (Polynomial us) (Polynomial ws) P ≡ done (Polynomial cs) Q
      → WithScale (list ws) (quotient_book (list us) (list ws) (list cs)) (λ z. quotient_ordered (list us) (list ws) (list cs)) (min (length us) (length ws)) cs P Q
  unfolding work chain
  quotient_follows_the_book us ws some some' eq =
      holds_then
      (with_scale (min (length us) (length ws)) (omega arith) P ws (λ z scale. quotient_at (at us) ws scale) (λ vs. quotient_book (list us) (list ws) (list vs)) (λ z scale vs. quotient_ordered (list us) (list ws) (list vs) scale)
      (λ z scale res k. quotient_is (at us) ws scale res (suc k))
      (λ z scale. quotient_looks_back (list us) (list ws) scale)
      (λ z scale vs. quotient_same (whole 0 ∷ (whole 1 ⊘ list ws 0) ∷ []) (z ∷ scale ∷ []) (list ws) (list vs) (once 1 (omega arith)) (list us)))
      (list_given _ eq)

  -- constant / list: the same with u_0 = c and 0 for the other u_k
  pub constant_quotient_follows_the_book :
      (c : ℕ) (ws : List ℕ) → 1 ≤ length ws → quotient (Constant c) (Polynomial ws) P ≡ done (Polynomial cs) Q
      → WithScale (list ws) (quotient_book (constant c) (list ws) (list cs)) (constant_quotient_ordered c (list ws) (list cs)) (length ws) cs P Q
  unfolding work chain
  constant_quotient_follows_the_book c ws some eq =
      holds_then
      (with_scale (length ws) some P ws (λ z scale. quotient_at (λ k. z) ws scale) (λ vs. quotient_book (constant c) (list ws) (list vs)) (λ z scale vs. constant_quotient_ordered c (list ws) (list vs) z scale)
      (λ z scale res k. quotient_is (λ j. z) ws scale res (suc k))
      (constant_quotient_looks_back c (list ws))
      (λ z scale vs. constant_quotient_same (whole 0 ∷ (whole 1 ⊘ list ws 0) ∷ []) (z ∷ scale ∷ []) (list ws) (list vs) (once 1 (omega arith)) c (once 0 (omega arith))))
      (list_given _ eq)

  -- list / constant: v_k = (1/c) × u_k
  pub quotient_by_constant_follows_the_book :
      (us : List ℕ) (c : ℕ) → quotient (Polynomial us) (Constant c) P ≡ done (Polynomial cs) Q
      → Recurrence [] [] (scaled_book (whole 1 ⊘ # c) (list us)) (divided_ordered (# c) (list us)) (length us) cs P Q
  unfolding work
  quotient_by_constant_follows_the_book us c eq =
      holds_then (each_follows (λ u. div u c) (λ u. whole 1 ⊘ # c ⊗ # u) (λ u. # u ⊘ # c) us P (λ u Q. refl) (λ u. divided_same [] [] (# c) (λ k. # u) 0)) (list_given _ eq)

  -- exp: k × v_k = Σ_(j=1..k) v_(k-j) × ũ_j
  pub exponential_follows_the_book :
      (us : List ℕ) → 1 ≤ length us → exponential (Polynomial us) P ≡ done (Polynomial cs) Q
      → WithZero (exp_book (list us) (list cs)) (exp_ordered (list us) (list cs)) (length us) cs P Q
  unfolding work
  exponential_follows_the_book us some eq =
      holds_then
      (with_zero (length us) some P (exp_at us) (λ vs. exp_book (list us) (list vs)) (λ z vs. exp_ordered (list us) (list vs) z) (exp_is us) (exp_looks_back (list us))
      (λ z zero_is vs. exp_same (whole 0 ∷ []) (z ∷ []) zero_is (list us) (list vs)))
      (list_given _ eq)

  -- log: k × v_k = (1/u_0) × (ũ_k - Σ_(j=1..k-1) u_(k-j) × ṽ_j)
  pub logarithm_follows_the_book :
      (us : List ℕ) → 1 ≤ length us → logarithm (Polynomial us) P ≡ done (Polynomial cs) Q
      → WithZero (log_book (list us) (list cs)) (log_ordered (list us) (list cs)) (length us) cs P Q
  unfolding work
  logarithm_follows_the_book us some eq =
      holds_then
      (with_zero (length us) some P (log_at us) (λ vs. log_book (list us) (list vs)) (λ z vs. log_ordered (list us) (list vs) z) (log_is us) (log_looks_back (list us))
      (λ z zero_is vs. log_same (whole 0 ∷ []) (z ∷ []) zero_is (list us) (list vs)))
      (list_given _ eq)
