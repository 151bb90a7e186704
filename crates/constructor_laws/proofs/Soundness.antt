-- The terms of the rule tables speak of nodes that are there: those that are given and parts of nodes that can be read. Each table's proof has the lines of the table.
-- Assumes nothing.
use Prim.Native.Nat.{ℕ, zero, suc, ◌≤◌, ◌<◌}
use native.Mathlib.Omega.{arith}
use lib.Dec.{eqb}
use Rattle.literal.specs.Literal.{is_zero, is_one}
use Rattle.pool.specs.declared.node.Node.{Node}
use Rattle.pool.specs.declared.node.Node.TheVariants as node
use Rattle.pool.specs.Nodes.{parts, least_exponent}
use Rattle.constructors.specs.Terms.{Term, #, lit, lit_exp, lit_log, add, mul, exp, log, pow, Add, Mul, Div, Max, Exp, Log, Pow}
use Rattle.constructors.specs.Patterns.{lit_in, add_in, mul_in, exp_in, pow_in}
use Rattle.constructors.specs.Tables.{add_arms, add_table, mul_lits, mul_exps, mul_left, mul_pows, mul_last, mul_table, div_table, neg_table, exp_arms, exp_table, log_arms, log_table, pow_table, max_table}
use Rattle.constructor_laws.proofs.Rules.{AllBelow, PartsBelow}
use Rattle.constructor_laws.proofs.Arms.{Gives, skips, return, ◌>>=◌, ◌&◌, swap, ◌>>◌, ◌or◌, inside, ◌then◌}

-- every node in the term is one of n, and a plain Pow has no exponent that is too small
abbrev pub Sound : ℕ → Term → Type 0
Sound n (# a) = a < n
Sound n (lit z) = Unit {0}
Sound n (lit_exp z) = Unit {0}
Sound n (lit_log z) = Unit {0}
Sound n (add s t) = Sound n s × Sound n t
Sound n (mul s t) = Sound n s × Sound n t
Sound n (exp t) = Sound n t
Sound n (log t) = Sound n t
Sound n (pow t e) = Sound n t
Sound n (Add s t) = Sound n s × Sound n t
Sound n (Mul s t) = Sound n s × Sound n t
Sound n (Div s t) = Sound n s × Sound n t
Sound n (Max s t) = Sound n s × Sound n t
Sound n (Exp t) = Sound n t
Sound n (Log t) = Sound n t
Sound n (Pow t e) = Sound n t × (least_exponent ≤ e)

-- ---- what the patterns find

-- a literal, or an exponent: any
abbrev Any : {A : Type 0} → A → Type 0
Any x = Unit {0}

-- one part
abbrev Part : ℕ → ℕ → Type 0
Part n a = a < n

-- two parts
abbrev Both : ℕ → ℕ × ℕ → Type 0
Both n p = (p.0 < n) × (p.1 < n)

-- a base and an exponent
abbrev Base : ℕ → ℕ × ℕ → Type 0
Base n p = p.0 < n

lit_found : (x : Node) → Gives Any (lit_in x)
lit_found node.Empty = skips
lit_found (node.Variable v) = skips
lit_found (node.Lit z) = return tt
lit_found (node.Add a b) = skips
lit_found (node.Mul a b) = skips
lit_found (node.Div a b) = skips
lit_found (node.Exp a) = skips
lit_found (node.Log a) = skips
lit_found (node.Pow a e) = skips
lit_found (node.Max a b) = skips

module _ (n : ℕ) where
  add_found : (x : Node) → AllBelow n (parts x) → Gives (Both n) (add_in x)
  add_found node.Empty h = skips
  add_found (node.Variable v) h = skips
  add_found (node.Lit z) h = skips
  add_found (node.Add a b) h = return (h.0, h.1.0)
  add_found (node.Mul a b) h = skips
  add_found (node.Div a b) h = skips
  add_found (node.Exp a) h = skips
  add_found (node.Log a) h = skips
  add_found (node.Pow a e) h = skips
  add_found (node.Max a b) h = skips

  mul_found : (x : Node) → AllBelow n (parts x) → Gives (Both n) (mul_in x)
  mul_found node.Empty h = skips
  mul_found (node.Variable v) h = skips
  mul_found (node.Lit z) h = skips
  mul_found (node.Add a b) h = skips
  mul_found (node.Mul a b) h = return (h.0, h.1.0)
  mul_found (node.Div a b) h = skips
  mul_found (node.Exp a) h = skips
  mul_found (node.Log a) h = skips
  mul_found (node.Pow a e) h = skips
  mul_found (node.Max a b) h = skips

  exp_found : (x : Node) → AllBelow n (parts x) → Gives (Part n) (exp_in x)
  exp_found node.Empty h = skips
  exp_found (node.Variable v) h = skips
  exp_found (node.Lit z) h = skips
  exp_found (node.Add a b) h = skips
  exp_found (node.Mul a b) h = skips
  exp_found (node.Div a b) h = skips
  exp_found (node.Exp a) h = return h.0
  exp_found (node.Log a) h = skips
  exp_found (node.Pow a e) h = skips
  exp_found (node.Max a b) h = skips

  pow_found : (x : Node) → AllBelow n (parts x) → Gives (Base n) (pow_in x)
  pow_found node.Empty h = skips
  pow_found (node.Variable v) h = skips
  pow_found (node.Lit z) h = skips
  pow_found (node.Add a b) h = skips
  pow_found (node.Mul a b) h = skips
  pow_found (node.Div a b) h = skips
  pow_found (node.Exp a) h = skips
  pow_found (node.Log a) h = skips
  pow_found (node.Pow a e) h = return h.0
  pow_found (node.Max a b) h = skips

two_or_more : (e : ℕ) → least_exponent ≤ suc (suc e)
two_or_more e = omega arith

-- ---- the tables: what is returned for a term is a proof for each node in it, in the term's order

module _ (n : ℕ) (at : ℕ → Node) (below : PartsBelow n at) where
  lit? : (i : ℕ) → Gives Any (lit_in (at i))
  lit? i = lit_found (at i)

  add? : (i : ℕ) → Gives (Both n) (add_in (at i))
  add? i = add_found n (at i) (below i)

  mul? : (i : ℕ) → Gives (Both n) (mul_in (at i))
  mul? i = mul_found n (at i) (below i)

  exp? : (i : ℕ) → Gives (Part n) (exp_in (at i))
  exp? i = exp_found n (at i) (below i)

  pow? : (i : ℕ) → Gives (Base n) (pow_in (at i))
  pow? i = pow_found n (at i) (below i)

  -- ---- with two arguments

  module _ (lhs rhs : ℕ) (l : lhs < n) (r : rhs < n) where
    add_arms_sound : Gives (Sound n) (add_arms at lhs rhs)
    unfolding add_arms
    add_arms_sound =
        (lit? lhs >>= (λ a _. is_zero a >> return r))
        or (lit? rhs >>= (λ b _. is_zero b >> return l))
        or (lit? lhs & lit? rhs >>= (λ _ _. return tt))
        or (lit? lhs & add? rhs >>= (λ (_, (b, a)) (_, (hb, ha)). (lit? a >>= (λ _ _. return (hb, tt))) or return (r, l)))
        or (add? lhs & lit? rhs >>= (λ ((a, b), _) ((ha, hb), _). (lit? a >>= (λ _ _. return (hb, tt))) or return (l, r)))
        or (add? lhs & add? rhs >>= (λ ((a, b), (c, d)) ((ha, hb), (hc, hd)). do
          inside (
              (lit? b & lit? d >>= (λ _ _. return ((ha, hc), tt)))
              or (lit? b >>= (λ _ _. return ((ha, r), hb)))
              or (lit? d >>= (λ _ _. return ((l, hc), hd))))))

    pub add_sound : Sound n (add_table at lhs rhs)
    add_sound = add_arms_sound then (l, r)

    mul_lits_sound : Gives (Sound n) (mul_lits at lhs rhs)
    unfolding mul_lits
    mul_lits_sound =
        (lit? lhs >>= (λ a _. is_zero a >> return tt))
        or (lit? rhs >>= (λ b _. is_zero b >> return tt))
        or (lit? lhs >>= (λ a _. is_one a >> return r))
        or (lit? rhs >>= (λ b _. is_one b >> return l))
        or (exp? lhs & exp? rhs >>= (λ _ h. return h))
        or (lit? lhs & lit? rhs >>= (λ _ _. return tt))
        or ((lit? lhs & mul? rhs) or swap (Both n) Any (mul? lhs & lit? rhs) >>= (λ (_, (b1, b2)) (_, (h1, h2)). inside (lit? b1 >>= (λ _ _. return (tt, h2)))))

    mul_exps_sound : Gives (Sound n) (mul_exps at lhs rhs)
    unfolding mul_exps
    mul_exps_sound =
        ((mul? lhs & exp? rhs) or swap (Part n) (Both n) (exp? lhs & mul? rhs) >>= (λ ((a1, a2), b) ((h1, h2), hb). do
          inside (
              (exp? a2 >>= (λ _ h. return (h1, (h, hb))))
              or (exp? a1 >>= (λ _ h. return (h2, (h, hb)))))))
        or (mul? lhs & mul? rhs >>= (λ ((a1, a2), (b1, b2)) ((ha1, ha2), (hb1, hb2)). do
          inside (
              (exp? a1 & exp? b1 >>= (λ _ h. return ((ha2, hb2), h)))
              or (exp? a1 & exp? b2 >>= (λ _ h. return ((ha2, hb1), h)))
              or (exp? a2 & exp? b1 >>= (λ _ h. return ((ha1, hb2), h)))
              or (exp? a2 & exp? b2 >>= (λ _ h. return ((ha1, hb1), h))))))

    mul_left_sound : Gives (Sound n) (mul_left at lhs rhs)
    unfolding mul_left
    mul_left_sound =
        (mul? lhs & mul? rhs >>= (λ ((a1, a2), (b1, b2)) ((ha1, ha2), (hb1, hb2)). inside (lit? a1 & lit? b1 >>= (λ _ _. return (tt, (ha2, hb2))))))
        or (mul? lhs >>= (λ (a1, a2) (h1, h2). inside (lit? a1 >>= (λ _ _. return (h1, (h2, r))))))
        or (mul? rhs >>= (λ (b1, b2) (h1, h2). inside (lit? b1 >>= (λ _ _. return (h1, (h2, l))))))

    mul_pows_sound : Gives (Sound n) (mul_pows at lhs rhs)
    unfolding mul_pows
    mul_pows_sound =
        (mul? lhs >>= (λ (a1, a2) h. eqb a2 rhs >> return h))
        or (mul? lhs & pow? rhs >>= (λ ((a1, a2), (b, _)) (h, _). eqb a2 b >> return h))
        or (mul? lhs & pow? rhs >>= (λ ((a1, a2), (b, _)) ((h1, h2), _). inside (pow? a2 >>= (λ (a21, _) h. eqb a21 b >> return (h1, h)))))

    mul_last_sound : Gives (Sound n) (mul_last at lhs rhs)
    unfolding mul_last
    mul_last_sound = lit? rhs >>= (λ _ _. return (r, l))

    pub mul_sound : Sound n (mul_table at lhs rhs)
    mul_sound = mul_lits_sound then mul_exps_sound then mul_left_sound then mul_pows_sound then mul_last_sound then (l, r)

    pub div_sound : Sound n (div_table at lhs rhs)
    unfolding div_table
    div_sound =
        ◌then◌ {H = Sound n}
        ((lit? lhs >>= (λ a _. is_zero a >> return tt))
        or (lit? rhs >>= (λ b _. is_one b >> return l)))
        (l, r)

    pub max_sound : Sound n (max_table at lhs rhs)
    max_sound = (l, r)

  -- ---- with one argument

  module _ (arg : ℕ) (h : arg < n) where
    pub neg_sound : Sound n (neg_table at arg)
    neg_sound = (tt, h)

    exp_arms_sound : Gives (Sound n) (exp_arms at arg)
    unfolding exp_arms
    exp_arms_sound =
        (lit? arg >>= (λ a _. is_zero a >> return tt))
        or (lit? arg >>= (λ _ _. return tt))
        or (add? arg >>= (λ (a, b) (ha, hb). inside (lit? b >>= (λ _ _. return (tt, ha)))))

    pub exp_sound : Sound n (exp_table at arg)
    exp_sound = exp_arms_sound then h

    log_arms_sound : Gives (Sound n) (log_arms at arg)
    unfolding log_arms
    log_arms_sound =
        (lit? arg >>= (λ a _. is_one a >> return tt))
        or (lit? arg >>= (λ _ _. return tt))
        or (mul? arg >>= (λ (a, b) (ha, hb). inside (lit? a >>= (λ _ _. return (hb, tt)))))

    pub log_sound : Sound n (log_table at arg)
    log_sound = log_arms_sound then h

    -- the exponents 0 and 1 return before a Pow is made
    pub pow_sound : (e : ℕ) → Sound n (pow_table at arg e)
    unfolding pow_table
    pow_sound zero = tt
    pow_sound (suc zero) = h
    pow_sound (suc (suc e)) =
        ◌then◌ {H = Sound n}
        ((eqb (suc (suc e)) 0 >> return tt)
        or (eqb (suc (suc e)) 1 >> return h)
        or (lit? arg >>= (λ a _. is_zero a >> return tt))
        or (lit? arg >>= (λ a _. is_one a >> return tt)))
        (h, two_or_more e)
