-- The operations on expansions keep every law that constructors and literals keep: of the pools before and after, which goes from step to step, and of the refusal number.
-- Assumes nothing.
use mathlib.Core.Bool.{Bool, true, false, cond}
use mathlib.Core.List.{List, [], ◌∷◌, ◌++◌, reverse}
use Prim.Native.Nat.{ℕ, zero, suc, ◌-◌, ◌/◌, ◌%◌, min}
use lib.Dec.{eqb}
use lib.IntN.{ℤ, pos}
use lib.ListN.{length, replicate}
use Rattle.refusals.specs.Refusals.{max_reached}
use Rattle.pool.specs.Pool.{Pool, done, refused}
use Rattle.taylor.specs.Work.{Result, Work, bind, yield, lit, from, zero_lit, one_lit, add, mul, div, neg, sub, exp, log, max, at, each, each_two, fold, fill}
use Rattle.taylor.specs.Expansion.{Expansion, polynomial, constant, first, var_coeffs, var, coeff, derivative, add_to, negate, sub_from, product_at, times, quotient_at, quotient, exp_term, exp_at, exponential, log_term, log_at, logarithm, pow_from, power, maximum, horner, subst}
use Rattle.taylor.specs.declared.expansion.Expansion.TheVariants.{Constant, Polynomial}

-- what a law says of a piece of work: of the pool that it leaves, or of its refusal number
abbrev pub Goes : {A : Type 0} → (Pool → Pool → Type 0) → (ℕ → Type 0) → Pool → Result A → Type 0
Goes Good Bad P (done x Q) = Good P Q
Goes Good Bad P (refused k) = Bad k

-- a law: the pools that it is about, what holds of the pool before and after, and of a refusal number
pub record Law : Type 1 where
  pub Fit : Pool → Type 0
  pub Good : Pool → Pool → Type 0
  pub Bad : ℕ → Type 0
  pub fits : (P Q : Pool) → Fit P → Good P Q → Fit Q
  pub same : (P : Pool) → Good P P
  pub both : (P Q R : Pool) → Good P Q → Good Q R → Good P R

-- work that the law holds of
pub record Holding (L : Law) {A : Type 0} (work : Work A) : Type 0 where
  pub holds : (P : Pool) → L.Fit P → Goes L.Good L.Bad P (work P)

-- constructors and literals that it holds of
pub record Keeping (L : Law) : Type 0 where
  pub lit_holds : (z : ℤ) → Holding L (lit z)
  pub add_holds : (a b : ℕ) → Holding L (add a b)
  pub mul_holds : (a b : ℕ) → Holding L (mul a b)
  pub div_holds : (a b : ℕ) → Holding L (div a b)
  pub neg_holds : (a : ℕ) → Holding L (neg a)
  pub exp_holds : (a : ℕ) → Holding L (exp a)
  pub log_holds : (a : ℕ) → Holding L (log a)

module _ (L : Law) where
  goes_from : {A : Type 0} (P Q : Pool) → L.Good P Q → (x : Result A) → Goes L.Good L.Bad Q x → Goes L.Good L.Bad P x
  goes_from P Q g (done x R) h = L.both P Q R g h
  goes_from P Q g (refused k) h = h

  bind_goes : {A B : Type 0} (P : Pool) → L.Fit P → (x : Result A) {next : A → Work B} → Goes L.Good L.Bad P x → ((v : A) → Holding L (next v)) → Goes L.Good L.Bad P (bind x next)
  bind_goes P f (done v Q) {next} g h = goes_from P Q g (next v Q) ((h v).holds Q (L.fits P Q f g))
  bind_goes P f (refused k) g h = g

module _ {L : Law} where
  -- one piece of work after the other, so that a proof is the same `do` block as the work
  infixl 1 ◌>>=◌
  pub ◌>>=◌ : {A B : Type 0} {work : Work A} {next : A → Work B} → Holding L work → ((v : A) → Holding L (next v)) → Holding L (λ P. bind (work P) next)
  ◌>>=◌ {work = work} g h = record { holds = λ P f. bind_goes L P f (work P) (g.holds P f) h }

  pub yield_holds : {A : Type 0} (v : A) → Holding L (yield v)
  yield_holds v = record { holds = λ P f. L.same P }

  -- ---- loops
  module _ {f : ℕ → Work ℕ} (g : (c : ℕ) → Holding L (f c)) where
    each_holds : (cs : List ℕ) → Holding L (each f cs)
    unfolding each
    each_holds [] = yield_holds []
    each_holds (c ∷ cs) = do
      r ← g c
      rs ← each_holds cs
      yield_holds (r ∷ rs)

    first_holds : (cs : List ℕ) → Holding L (first f cs)
    first_holds [] = yield_holds []
    first_holds (c ∷ cs) = do
      r ← g c
      yield_holds (r ∷ cs)

  two_hold : {f : ℕ → ℕ → Work ℕ} → ((u w : ℕ) → Holding L (f u w)) → (us ws : List ℕ) → Holding L (each_two f us ws)
  unfolding each_two
  two_hold g [] ws = yield_holds []
  two_hold g (u ∷ us) [] = yield_holds []
  two_hold g (u ∷ us) (w ∷ ws) = do
    r ← g u w
    rs ← two_hold g us ws
    yield_holds (r ∷ rs)

  fold_holds : {f : ℕ → ℕ → Work ℕ} → ((acc j : ℕ) → Holding L (f acc j)) → (j todo acc : ℕ) → Holding L (fold f j todo acc)
  unfolding fold
  fold_holds g j zero acc = yield_holds acc
  fold_holds g j (suc todo) acc = do
    next ← g acc j
    fold_holds g (suc j) todo next

  fill_holds : {f : List ℕ → ℕ → Work ℕ} → ((res : List ℕ) (k : ℕ) → Holding L (f res k)) → (todo : ℕ) (res : List ℕ) → Holding L (fill f todo res)
  unfolding fill
  fill_holds g zero res = yield_holds res
  fill_holds g (suc todo) res = do
    c ← g res (length res)
    fill_holds g todo (res ++ (c ∷ []))

  polynomial_holds : {work : Work (List ℕ)} → Holding L work → Holding L (polynomial work)
  polynomial_holds g = do
    cs ← g
    yield_holds (Polynomial cs)

  constant_holds : {work : Work ℕ} → Holding L work → Holding L (constant work)
  constant_holds g = do
    c ← g
    yield_holds (Constant c)

  -- ---- operations that call few constructors: each asks for those alone
  pub var_holds : Holding L zero_lit → Holding L one_lit → (x order : ℕ) → Holding L (var x order)
  var_holds zero_holds one-Holds x order = polynomial_holds (coeffs order)
    where
      coeffs : (order : ℕ) → Holding L (var_coeffs x order)
      coeffs zero = do
        z ← zero_holds
        yield_holds (x ∷ [])
      coeffs (suc n) = do
        z ← zero_holds
        o ← one-Holds
        yield_holds (x ∷ o ∷ replicate n z)

  pub coeff_holds : Holding L zero_lit → (e : Expansion) (k : ℕ) → Holding L (coeff e k)
  coeff_holds zero_holds (Polynomial cs) k = yield_holds (at cs k)
  coeff_holds zero_holds (Constant c) zero = yield_holds c
  coeff_holds zero_holds (Constant c) (suc k) = zero_holds

  module _ (add_holds : (a b : ℕ) → Holding L (add a b)) where
    pub add_to_holds : (s t : Expansion) → Holding L (add_to s t)
    add_to_holds (Constant l) (Constant r) = constant_holds (add_holds l r)
    add_to_holds (Polynomial cs) (Constant r) = polynomial_holds (first_holds (λ c. add_holds c r) cs)
    add_to_holds (Constant c) (Polynomial ws) = polynomial_holds (first_holds (λ w. add_holds w c) ws)
    add_to_holds (Polynomial us) (Polynomial ws) = polynomial_holds (two_hold (λ u w. add_holds w u) us ws)

  module _ (neg_holds : (a : ℕ) → Holding L (neg a)) where
    pub negate_holds : (e : Expansion) → Holding L (negate e)
    negate_holds (Constant c) = constant_holds (neg_holds c)
    negate_holds (Polynomial cs) = polynomial_holds (each_holds neg_holds cs)

    module _ (add_holds : (a b : ℕ) → Holding L (add a b)) where
      sub_holds : (a b : ℕ) → Holding L (sub a b)
      sub_holds a b = do
        n ← neg_holds b
        add_holds a n

      pub sub_from_holds : (s t : Expansion) → Holding L (sub_from s t)
      sub_from_holds (Constant l) (Constant r) = constant_holds (sub_holds l r)
      sub_from_holds (Polynomial cs) (Constant r) = polynomial_holds (first_holds (λ c. sub_holds c r) cs)
      sub_from_holds (Constant c) (Polynomial ws) = polynomial_holds (each_holds neg_holds ws >>= first_holds (λ w. add_holds w c))
      sub_from_holds (Polynomial us) (Polynomial ws) = polynomial_holds (two_hold (λ u w. sub_holds u w) us ws)

  pub maximum_holds : ((a b : ℕ) → Holding L (max a b)) → L.Bad max_reached → (s t : Expansion) → Holding L (maximum s t)
  maximum_holds max-holds stops (Constant a) (Constant b) = constant_holds (max-holds a b)
  maximum_holds max-holds stops (Constant a) (Polynomial ws) = record { holds = λ P f. stops }
  maximum_holds max-holds stops (Polynomial us) (Constant b) = record { holds = λ P f. stops }
  maximum_holds max-holds stops (Polynomial us) (Polynomial ws) = record { holds = λ P f. stops }

  -- ---- the others
  module _ (all : Keeping L) where
    from_holds : (n : ℕ) → Holding L (from n)
    from_holds n = all.lit_holds (pos n)

    take_away_holds : (a b : ℕ) → Holding L (sub a b)
    take_away_holds = sub_holds all.neg_holds all.add_holds

    pub derivative_holds : (e : Expansion) (k : ℕ) → Holding L (derivative e k)
    derivative_holds (Polynomial cs) k = do
      one ← from_holds 1
      factorial ← fold_holds (λ acc i. from_holds i >>= (λ n. all.mul_holds acc n)) 1 k one
      all.mul_holds factorial (at cs k)
    derivative_holds (Constant c) zero = yield_holds c
    derivative_holds (Constant c) (suc k) = from_holds 0

    product_holds : (us ws : List ℕ) (z : ℕ) (res : List ℕ) (k : ℕ) → Holding L (product_at us ws z res k)
    product_holds us ws z res k = fold_holds (λ sum j. all.mul_holds (at us j) (at ws (k - j)) >>= (λ t. all.add_holds sum t)) 0 (suc k) z

    pub times_holds : (s t : Expansion) → Holding L (times s t)
    unfolding times
    times_holds (Constant l) (Constant r) = constant_holds (all.mul_holds l r)
    times_holds (Constant c) (Polynomial ws) = polynomial_holds (each_holds (λ w. all.mul_holds w c) ws)
    times_holds (Polynomial us) (Constant c) = polynomial_holds (each_holds (λ u. all.mul_holds u c) us)
    times_holds (Polynomial us) (Polynomial ws) = polynomial_holds (from_holds 0 >>= (λ z. fill_holds (product_holds us ws z) (min (length us) (length ws)) []))

    quotient_at_holds : (start : ℕ → ℕ) (ws : List ℕ) (scale : ℕ) (res : List ℕ) (k : ℕ) → Holding L (quotient_at start ws scale res k)
    quotient_at_holds start ws scale res k = do
      s ← fold_holds (λ sum i. all.mul_holds (at res i) (at ws (k - i)) >>= (λ t. take_away_holds sum t)) 0 k (start k)
      all.mul_holds scale s

    pub quotient_holds : (s t : Expansion) → Holding L (quotient s t)
    quotient_holds (Constant l) (Constant r) = constant_holds (all.div_holds l r)
    quotient_holds (Polynomial us) (Constant c) = polynomial_holds (each_holds (λ u. all.div_holds u c) us)
    quotient_holds (Constant c) (Polynomial ws) = polynomial_holds (do
      z ← from_holds 0
      o ← from_holds 1
      scale ← all.div_holds o (at ws 0)
      r ← all.mul_holds c scale
      fill_holds (quotient_at_holds (λ k. z) ws scale) (length ws - 1) (r ∷ []))
    quotient_holds (Polynomial us) (Polynomial ws) = polynomial_holds (do
      z ← from_holds 0
      o ← from_holds 1
      scale ← all.div_holds o (at ws 0)
      r ← all.mul_holds scale (at us 0)
      fill_holds (quotient_at_holds (λ k. at us k) ws scale) (min (length us) (length ws) - 1) (r ∷ []))

    exp_at_holds : (us : List ℕ) (z : ℕ) (res : List ℕ) (k : ℕ) → Holding L (exp_at us z res k)
    exp_at_holds us z res k = do
      s ← fold_holds (λ sum j. term sum j) 1 k z
      n ← from_holds k
      all.div_holds s n
      where
        term : (sum j : ℕ) → Holding L (exp_term res us k sum j)
        term sum j = do
          p ← all.mul_holds (at res (k - j)) (at us j)
          n ← from_holds j
          t ← all.mul_holds p n
          all.add_holds sum t

    pub exponential_holds : (e : Expansion) → Holding L (exponential e)
    exponential_holds (Constant c) = constant_holds (all.exp_holds c)
    exponential_holds (Polynomial us) = polynomial_holds (do
      z ← from_holds 0
      r ← all.exp_holds (at us 0)
      fill_holds (exp_at_holds us z) (length us - 1) (r ∷ []))

    log_at_holds : (us : List ℕ) (z : ℕ) (res : List ℕ) (k : ℕ) → Holding L (log_at us z res k)
    log_at_holds us z res k = do
      s ← fold_holds (λ sum j. term sum j) 1 (k - 1) z
      n ← from_holds k
      p ← all.mul_holds (at us k) n
      d ← take_away_holds p s
      q ← all.div_holds d (at us 0)
      m ← from_holds k
      all.div_holds q m
      where
        term : (sum j : ℕ) → Holding L (log_term res us k sum j)
        term sum j = do
          p ← all.mul_holds (at us (k - j)) (at res j)
          n ← from_holds j
          t ← all.mul_holds p n
          all.add_holds sum t

    pub logarithm_holds : (e : Expansion) → Holding L (logarithm e)
    logarithm_holds (Constant c) = constant_holds (all.log_holds c)
    logarithm_holds (Polynomial us) = polynomial_holds (do
      z ← from_holds 0
      r ← all.log_holds (at us 0)
      fill_holds (log_at_holds us z) (length us - 1) (r ∷ []))

    when_holds : (t : Bool) {a b : Work Expansion} → Holding L a → Holding L b → Holding L (cond t a b)
    when_holds true g h = g
    when_holds false g h = h

    pow_from_holds : (k e : ℕ) (res base : Expansion) → Holding L (pow_from k e res base)
    unfolding pow_from
    pow_from_holds zero e res base = yield_holds res
    pow_from_holds (suc k) e res base = do
      res2 ← when_holds (eqb (e % 2) 1) (times_holds res base) (yield_holds res)
      when_holds (eqb (e / 2) 0) (yield_holds res2) (times_holds base base >>= (λ base2. pow_from_holds k (e / 2) res2 base2))

    pub power_holds : (base : Expansion) (e : ℕ) → Holding L (power base e)
    power_holds base e = do
      o ← from_holds 1
      pow_from_holds _ e (Constant o) base

    horner_holds : (inner : Expansion) (cs : List ℕ) (res : Expansion) → Holding L (horner inner cs res)
    unfolding horner
    horner_holds inner [] res = yield_holds res
    horner_holds inner (c ∷ cs) res = do
      p ← times_holds res inner
      s ← add_to_holds all.add_holds p (Constant c)
      horner_holds inner cs s

    pub subst_holds : (outer inner : Expansion) → Holding L (subst outer inner)
    subst_holds (Constant c) inner = yield_holds (Constant c)
    subst_holds (Polynomial cs) inner = do
      z ← from_holds 0
      horner_holds inner (reverse cs) (Constant z)
