-- In every ring that is a model, for all values of the variables: what an accepted operation on expansions answers has the coefficients of the series' operation, and what an accepted expansion of an expression answers has the coefficients of the expression's value in the algebra of series.
-- Assumes nothing.
use mathlib.Core.Path.{◌≡◌, refl, sym}
use mathlib.Core.Bool.{Bool, true, false, cond}
use mathlib.Core.List.{List}
use Prim.Native.Nat.{ℕ, zero, suc, ◌^◌, ◌≤◌, ◌<◌}
use native.Mathlib.Omega.{arith}
use lib.Dec.{leb, ltb, eqb}
use lib.IntN.{negsuc}
use lib.ListN.{length, get_or}
use Rattle.literal.specs.Literal.{is_literal, signed}
use Rattle.pool.specs.declared.node.Node.{Node}
use Rattle.pool.specs.declared.node.Node.TheVariants.{Empty, Variable, Lit, Add, Mul, Div, Exp, Log, Pow, Max}
use Rattle.pool.specs.Nodes.{parts, decode, low_of, high_of, half, least_exponent, greatest_exponent, greatest_variable}
use Rattle.pool.specs.Pool.{Pool, node_at, node_in, limit, done}
use Rattle.constructor_laws.specs.Keeps.{Keeps}
use Rattle.constructor_laws.proofs.Coding.{Short}
use Rattle.constructor_laws.proofs.Rules.{parts_below}
use Rattle.taylor.specs.Work.{Result}
use Rattle.taylor.specs.Expansion.{Expansion, coeff, derivative, maximum, subst, add_to, negate, sub_from, times, quotient, exponential, logarithm, power}
use Rattle.taylor.specs.declared.expansion.Expansion.TheVariants.{Constant, Polynomial}
use Rattle.taylor.specs.Expand.{Point, expand}
use Rattle.constructor_laws.proofs.Giving.{Gives, accepted}
use Rattle.meaning.specs.Model.{Algebra, Model, Distributive}
use Rattle.meaning.specs.Model as model
use Rattle.meaning.specs.Value.{Values, value, Means}
use Rattle.meaning.proofs.Values.{each_below, value_kept}
use Rattle.meaning.proofs.Theorems.{meant}
use Rattle.taylor_meaning.specs.Series.{minus, Series, constant_series, composed, factorial_in, plus_series, times_series, recurrence, over_step, exp_step, log_step, series, Fractions}
use Rattle.taylor_meaning.specs.Coefficients.{Present, Long, InPool, coefficient, MeansSeries, as_series}
use Rattle.taylor_meaning.proofs.Operations.{Expands, constant, list, add_to_gives, negate_gives, sub_from_gives, times_gives}
use Rattle.taylor_meaning.proofs.Elementary.{exponential_gives, logarithm_gives}
use Rattle.taylor_meaning.proofs.Quotients.{quotient_by_list_gives, quotient_gives}
use Rattle.taylor_meaning.proofs.Powers.{power_gives}
use Rattle.taylor_meaning.proofs.Compositions.{subst_list_gives, coeff_gives, derivative_gives, maximum_gives}
use Rattle.taylor_meaning.proofs.Expanding.{Allowed, expansion_gives}

-- in words of 64 bits exponents have 32
short_pick : (t : Bool) (a b : Node) → Short a → Short b → Short (cond t a b)
short_pick true a b ha hb = ha
short_pick false a b ha hb = hb

short_word : (kind w : ℕ) → w < 2 ^ 64 → Short (decode kind w)
unfolding decode
short_word kind w h =
    short_pick (eqb kind 1) _ _ (short_pick (leb w greatest_variable) (Variable w) Empty tt tt)
    (short_pick (eqb kind 2) _ _ (short_pick (is_literal (signed w)) (Lit (signed w)) Empty tt tt)
    (short_pick (eqb kind 3) (Add (low_of w) (high_of w)) _ tt
    (short_pick (eqb kind 4) (Mul (low_of w) (high_of w)) _ tt
    (short_pick (eqb kind 5) (Div (low_of w) (high_of w)) _ tt
    (short_pick (eqb kind 6) _ _ (short_pick (ltb w half) (Exp w) Empty tt tt)
    (short_pick (eqb kind 7) _ _ (short_pick (ltb w half) (Log w) Empty tt tt)
    (short_pick (eqb kind 8) _ _ (short_pick (leb least_exponent (high_of w)) (Pow (low_of w) (high_of w)) Empty (omega arith) tt)
    (short_pick (eqb kind 9) (Max (low_of w) (high_of w)) Empty tt tt))))))))

pub node_short : (P : Pool) → ((i : ℕ) → get_or P.words i 0 < 2 ^ 64) → (i : ℕ) → Short (node_at P i)
unfolding node_in
node_short P words i = short_pick (ltb i limit) (decode (get_or P.kinds i 0) (get_or P.words i 0)) Empty (short_word (get_or P.kinds i 0) (get_or P.words i 0) (words i)) tt

module _ {A : Algebra} (M : Model A) (env : Values A) where
  -- an expansion of the pool has the coefficients that it has
  expands_itself : {P : Pool} {n : ℕ} (e : Expansion) → InPool P e → Long n e → Expands A env n (coefficient A env P e) P e
  unfolding coefficient
  expands_itself (Constant c) h long = constant (record { below = h; is = refl }) (λ k. refl)
  expands_itself {n = n} (Polynomial cs) h long = list h.0 (at_most n (length cs) long) (record { entry = λ k l. record { below = h.1 k l; is = refl } })
    where
      at_most : (n m : ℕ) → ((k : ℕ) → k < n → k < m) → n ≤ m
      at_most zero m f = omega arith
      at_most (suc n) m f = f n (omega arith)

  shown : {n : ℕ} {f : Series A} {Q : Pool} {e : Expansion} → Expands A env n f Q e → Long n e × ((k : ℕ) → Present e k → coefficient A env Q e k ≡ f k)
  unfolding coefficient
  shown {f = f} {Q} (constant {c} h z) = ((λ k l. tt), go)
    where
      go : (k : ℕ) → Unit {0} → coefficient A env Q (Constant c) k ≡ f k
      go zero u = h.is
      go (suc k) u = sym (z k)
  shown (list some l s) = ((λ k m. omega arith), (λ k m. (s.entry k m).is))

  module _ {P : Pool} (keeps : Keeps P) where
    -- what is known after accepted work that gives a series
    pub series_meant : {n : ℕ} {f : Series A} {r : Result Expansion} {e : Expansion} {Q : Pool} → Gives P (Expands A env n f) r → r ≡ done e Q → MeansSeries A env P n f e Q
    series_meant h eq = let known = accepted h eq in record { long = (shown known.is).0; coefficients = (shown known.is).1; earlier = value_kept A env keeps known.grown }

    module _ (n : ℕ) (s : Expansion) (hs : InPool P s) (ls : Long n s) where
      abbrev u : Series A
      u = coefficient A env P s

      itself : Expands A env n u P s
      itself = expands_itself s hs ls

      -- v_k = -u_k
      pub negate_means : {e : Expansion} {Q : Pool} → negate s P ≡ done e Q → MeansSeries A env P n (λ k. A.times (A.int (negsuc 0)) (u k)) e Q
      negate_means eq = series_meant (negate_gives M env keeps itself) eq

      -- coefficient k, and k! times coefficient k
      pub coeff_means : {i : ℕ} {Q : Pool} → (k : ℕ) → k < n → coeff s k P ≡ done i Q → Means A env P (u k) i Q
      coeff_means k l eq = meant M env keeps (coeff_gives M env k l keeps itself) eq

      pub derivative_means : {i : ℕ} {Q : Pool} → (k : ℕ) → k < n → derivative s k P ≡ done i Q → Means A env P (A.times (factorial_in A k) (u k)) i Q
      derivative_means k l eq = meant M env keeps (derivative_gives M env k l keeps itself) eq

      -- the series of the book's recurrence for exp u
      pub exponential_means : {e : Expansion} {Q : Pool} → exponential s P ≡ done e Q → MeansSeries A env P n (recurrence A (exp_step A u)) e Q
      exponential_means eq = series_meant (exponential_gives M env u keeps itself) eq

      -- the series of the book's recurrence for ln u
      pub logarithm_means : {e : Expansion} {Q : Pool} → logarithm s P ≡ done e Q → MeansSeries A env P n (recurrence A (log_step A u)) e Q
      logarithm_means eq = series_meant (logarithm_gives M env u keeps itself) eq

      -- a power is a repeated product
      pub power_means : {e : Expansion} {Q : Pool} → Distributive A → (m : ℕ) → m ≤ greatest_exponent → power s m P ≡ done e Q → MeansSeries A env P n (model.power (series A) u m) e Q
      power_means D m short eq = series_meant (power_gives M D env m (omega arith) keeps itself) eq

      module _ (t : Expansion) (ht : InPool P t) (lt : Long n t) where
        abbrev w : Series A
        w = coefficient A env P t

        itself' : Expands A env n w P t
        itself' = expands_itself t ht lt

        -- v_k = u_k + w_k
        pub add_to_means : {e : Expansion} {Q : Pool} → add_to s t P ≡ done e Q → MeansSeries A env P n (plus_series A u w) e Q
        add_to_means eq = series_meant (add_to_gives M env keeps itself itself') eq

        -- v_k = u_k - w_k
        pub sub_from_means : {e : Expansion} {Q : Pool} → sub_from s t P ≡ done e Q → MeansSeries A env P n (λ k. minus A (u k) (w k)) e Q
        sub_from_means eq = series_meant (sub_from_gives M env keeps itself itself') eq

        -- v_k = Σ_(j=0..k) u_j × w_(k-j)
        pub times_means : {e : Expansion} {Q : Pool} → times s t P ≡ done e Q → MeansSeries A env P n (times_series A u w) e Q
        times_means eq = series_meant (times_gives M env keeps itself itself') eq

        -- the series of the book's recurrence for u / w
        pub quotient_means : {e : Expansion} {Q : Pool} → Distributive A → Fractions A → quotient s t P ≡ done e Q → MeansSeries A env P n (recurrence A (over_step A u w)) e Q
        quotient_means D fractions eq = series_meant (quotient_gives M D env u w fractions keeps itself itself') eq

        -- a maximum is one of constants
        pub maximum_means : {e : Expansion} {Q : Pool} → maximum s t P ≡ done e Q → MeansSeries A env P n (constant_series A (A.max (u 0) (w 0))) e Q
        maximum_means eq = series_meant (maximum_gives M env keeps itself itself') eq

      -- a list with s put in for t: c_0 + c_1 × s + c_2 × s^2 + ..
      pub subst_list_means :
          {e : Expansion} {Q : Pool} → (cs : List ℕ) → InPool P (Polynomial cs) → subst (Polynomial cs) s P ≡ done e Q → MeansSeries A env P n (composed A (value A env (node_at P)) u cs) e Q
      subst_list_means cs h eq = series_meant (subst_list_gives M env cs keeps h.1 itself) eq

      -- by a list no law of fractions is needed
      pub quotient_by_list_means :
          {e : Expansion} {Q : Pool} → Distributive A → (ws : List ℕ) → InPool P (Polynomial ws) → Long n (Polynomial ws) → quotient s (Polynomial ws) P ≡ done e Q → MeansSeries A env P n (recurrence A (over_step A u (coefficient A env P (Polynomial ws)))) e Q
      quotient_by_list_means D ws ht lt eq =
          series_meant (quotient_by_list_gives M D env u (coefficient A env P (Polynomial ws)) keeps itself (expands_itself (Polynomial ws) ht lt)) eq

    -- ---- expressions

    module _ (D : Distributive A) (v : ℕ) (known : v ≤ greatest_variable) (x : Point) (order : ℕ) where
      short_allowed : Fractions A → (y : Node) → Short y → Allowed A y
      short_allowed fractions Empty h = tt
      short_allowed fractions (Variable u) h = tt
      short_allowed fractions (Lit z) h = tt
      short_allowed fractions (Add a b) h = tt
      short_allowed fractions (Mul a b) h = tt
      short_allowed fractions (Div a b) h = fractions
      short_allowed fractions (Exp a) h = tt
      short_allowed fractions (Log a) h = tt
      short_allowed fractions (Pow a e) h = omega arith
      short_allowed fractions (Max a b) h = tt

      expression_gives :
          Fractions A → ((i : ℕ) → get_or P.words i 0 < 2 ^ 64) → (root : ℕ) → root < P.count
          → Gives P (Expands A env (suc order) (value (series A) (as_series A env v x) (node_at P) root)) (expand root v x order P)
      expression_gives fractions words root h =
          expansion_gives M D env keeps v known x order (λ i. i < P.count) (λ i l. l) (λ i l. each_below (parts (node_at P i)) (parts_below keeps i) (λ a m. m)) (λ i l. short_allowed fractions (node_at P i) (node_short P words i)) root h

      -- an accepted expansion of an expression has the coefficients of its value in the algebra of series, where the variable is its value and t; and the pool that it leaves keeps the rules
      pub expansion_means :
          Fractions A → ((i : ℕ) → get_or P.words i 0 < 2 ^ 64) → {e : Expansion} {Q : Pool} (root : ℕ) → root < P.count
          → expand root v x order P ≡ done e Q
          → MeansSeries A env P (suc order) (value (series A) (as_series A env v x) (node_at P) root) e Q
      expansion_means fractions words root h eq = series_meant (expression_gives fractions words root h) eq

      pub expansion_keeps : Fractions A → ((i : ℕ) → get_or P.words i 0 < 2 ^ 64) → {e : Expansion} {Q : Pool} (root : ℕ) → root < P.count → expand root v x order P ≡ done e Q → Keeps Q
      expansion_keeps fractions words root h eq = (accepted (expression_gives fractions words root h) eq).keeps
