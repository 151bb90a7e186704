-- Rules that meet a literal: a product with one on its left and a sum with 0 on its right call no constructor. Every literal of a pool is in the literal range.
-- Assumes nothing.
use mathlib.Core.Path.{◌≡◌, refl, subst, ◌∙◌}
use mathlib.Core.Bool.{Bool, true, false, cond}
use mathlib.Core.List.{List}
use Prim.Native.Nat.{ℕ, ◌<◌}
use native.Mathlib.Omega.{arith}
use lib.Dec.{eqb, leb, ltb}
use lib.IntN.{ℤ, pos, ◌*ℤ◌}
use lib.ListN.{length, get_or}
use lib.Seq.{get_or-set_same}
use borrow.Author.Tests.{lt-ltb}
use Rattle.refusals.specs.Refusals.{pool_full}
use Rattle.literal.specs.Literal.{is_literal, is_zero, is_one, signed}
use Rattle.pool.specs.declared.node.Node.{Node}
use Rattle.pool.specs.declared.node.Node.TheVariants.{Empty, Variable, Lit, Add, Mul, Div, Exp, Log, Pow, Max}
use Rattle.pool.specs.Nodes.{decode, half, high_of, greatest_variable, least_exponent, kind_of, word_of}
use Rattle.pool.specs.Pool.{Pool, limit, node_in, node_at}
use Rattle.constructors.specs.Terms
use Rattle.constructors.specs.Terms.{Term, #, lit, Arm, skip, leave, return as gives, ◌>>=◌ as ◌finds◌, ◌or◌, ◌>>◌, inside, ◌then◌}
use Rattle.constructors.specs.Patterns.{lit_in}
use Rattle.constructors.specs.Tables.{add_arms, add_table, mul_lits, mul_exps, mul_left, mul_pows, mul_last, mul_table}
use Rattle.constructors.specs.Build.{Calls, build}
use Rattle.constructor_laws.specs.Grown.{Grown}
use Rattle.constructor_laws.proofs.Arms.{Gives, skips, return}
use Rattle.constructor_laws.proofs.Growth.{appended}
use Rattle.shape.proofs.TableOfKinds.{decode_own}
use Rattle.situations.specs.Refusal.{OneOf}
use Rattle.situations.proofs.Steps.{Refusing, ◌>>=◌, yield_refuses, append_refuses, literal_refuses}

-- ---- literals of a pool

-- what an arm finds as a literal is in the literal range
abbrev pub InRange : Arm ℤ → Type 0
InRange m = Gives (λ z. is_literal z ≡ true) m

decoded : (k w : ℕ) → InRange (lit_in (decode k w))
unfolding decode
decoded k w =
    by (eqb k 1) _ _ (λ e. by (leb w greatest_variable) _ _ (λ f. skips) skips)
    (by (eqb k 2) _ _ (λ e. by (is_literal (signed w)) _ _ (λ f. return f) skips)
    (by (eqb k 3) _ _ (λ e. skips)
    (by (eqb k 4) _ _ (λ e. skips)
    (by (eqb k 5) _ _ (λ e. skips)
    (by (eqb k 6) _ _ (λ e. by (ltb w half) _ _ (λ f. skips) skips)
    (by (eqb k 7) _ _ (λ e. by (ltb w half) _ _ (λ f. skips) skips)
    (by (eqb k 8) _ _ (λ e. by (leb least_exponent (high_of w)) _ _ (λ f. skips) skips)
    (by (eqb k 9) _ _ (λ e. skips) skips))))))))
  where
    by : (t : Bool) (x y : Node) → (t ≡ true → InRange (lit_in x)) → InRange (lit_in y) → InRange (lit_in (cond t x y))
    by true x y h n = h refl
    by false x y h n = n

pub literals_in_range : (P : Pool) (i : ℕ) → InRange (lit_in (node_at P i))
unfolding node_in
literals_in_range P i = go (ltb i limit)
  where
    go : (t : Bool) → InRange (lit_in (cond t (decode (get_or P.kinds i 0) (get_or P.words i 0)) Empty))
    go true = decoded (get_or P.kinds i 0) (get_or P.words i 0)
    go false = skips

-- tables as long as they are lent
pub record Long (P : Pool) : Type 0 where
  pub kinds_long : length P.kinds ≡ limit
  pub words_long : length P.words ≡ limit

pub long_grown : {P Q : Pool} → Grown P Q → Long P → Long Q
long_grown g l = record { kinds_long = g.kinds.long ∙ l.kinds_long; words_long = g.words.long ∙ l.words_long }

-- a literal that was appended is there
pub appended_there : (P : Pool) → Long P → P.count < limit → (z : ℤ) → is_literal z ≡ true → node_at (appended (Lit z) P) P.count ≡ Lit z
unfolding node_in
appended_there P l below z h =
    rw (lt-ltb P.count limit below, get_or-set_same P.kinds P.count (kind_of (Lit z)) 0 (omega (arith, l.kinds_long)), get_or-set_same P.words P.count (word_of (Lit z)) 0 (omega (arith, l.words_long)))
    (decode_own (Lit z) h)

-- ---- what a term makes, whatever the calls

pub record Making (ks : List ℕ) (c : Calls) (t : Term) : Type 0 where
  pub made : Refusing ks (build c t)

module _ {ks : List ℕ} {c : Calls} where
  pub node_made : (a : ℕ) → Making ks c (# a)
  unfolding build
  node_made a = record { made = yield_refuses a }

  module _ (full : OneOf ks pool_full) where
    pub small_made : (z : ℤ) → is_literal z ≡ true → Making ks c (lit z)
    unfolding build
    small_made z h = record { made = literal_refuses full z h }

    pub add_made : {s t : Term} → Making ks c s → Making ks c t → Making ks c (Terms.Add s t)
    unfolding build
    add_made g h = record { made = g.made >>= (λ a. h.made >>= (λ b. append_refuses full (Add a b))) }

    pub mul_made : {s t : Term} → Making ks c s → Making ks c t → Making ks c (Terms.Mul s t)
    unfolding build
    mul_made g h = record { made = g.made >>= (λ a. h.made >>= (λ b. append_refuses full (Mul a b))) }

-- ---- the rules

-- the product of two literals, whatever is claimed of the term
module _ (at : ℕ → Node) (i j : ℕ) (H : Term → Type 0) (a b : ℤ) (e : at i ≡ Lit a) (f : at j ≡ Lit b) (nought : H (lit (pos 0))) (lhs : H (# i)) (rhs : H (# j)) (product : H (lit (a *ℤ b))) where
  by_size : (z y o u : Bool) (rest : Term) → H ((z >> gives (lit (pos 0))) or (y >> gives (lit (pos 0))) or (o >> gives (# j)) or (u >> gives (# i)) or gives (lit (a *ℤ b)) then rest)
  by_size true y o u rest = nought
  by_size false true o u rest = nought
  by_size false false true u rest = rhs
  by_size false false false true rest = lhs
  by_size false false false false rest = product

  pub two_literals : H (mul_table at i j)
  unfolding mul_lits mul_exps mul_left mul_pows mul_last
  two_literals = rw (e, f) (by_size (is_zero a) (is_zero b) (is_one a) (is_one b) _)

module _ {ks : List ℕ} (full : OneOf ks pool_full) (c : Calls) (at : ℕ → Node) (i j : ℕ) where
  zero_right : (m : Arm ℤ) → Making ks c ((m finds (λ z. is_zero z >> gives (# j))) or gives (# i) then Terms.Add (# i) (# j))
  zero_right skip = node_made i
  zero_right leave = add_made full (node_made i) (node_made j)
  zero_right (gives z) = go (is_zero z)
    where
      go : (t : Bool) → Making ks c ((t >> gives (# j)) or gives (# i) then Terms.Add (# i) (# j))
      go true = node_made j
      go false = node_made i

  -- x + 0
  pub add_zero : at j ≡ Lit (pos 0) → Making ks c (add_table at i j)
  unfolding add_arms
  add_zero e = rw e (zero_right (lit_in (at i)))

  -- a × y: `product` is what is claimed of the product of a and a literal of the pool
  module _ (a : ℤ) (product : (b : ℤ) → is_literal b ≡ true → Making ks c (lit (a *ℤ b))) where
    zero_made : Making ks c (lit (pos 0))
    zero_made = small_made full (pos 0) refl

    plain_made : Making ks c (Terms.Mul (# i) (# j))
    plain_made = mul_made full (node_made i) (node_made j)

    -- y is neither a literal nor a product
    other : (z o : Bool) → Making ks c ((z >> gives (lit (pos 0))) or (o >> gives (# j)) or skip then Terms.Mul (# i) (# j))
    other true o = zero_made
    other false true = node_made j
    other false false = plain_made

    -- y is a product, whose left part may be a literal
    product_right :
        (b1 b2 : ℕ) (m : Arm ℤ) → InRange m → (z o : Bool)
        → Making ks c ((z >> gives (lit (pos 0))) or (o >> gives (# j)) or inside (m finds (λ b. gives (Terms.Mul (lit (a *ℤ b)) (# b2))))
        then inside (m finds (λ _. gives (Terms.Mul (# b1) (Terms.mul (# b2) (# i)))))
        then Terms.Mul (# i) (# j))
    product_right b1 b2 m g true o = zero_made
    product_right b1 b2 m g false true = node_made j
    product_right b1 b2 skip g false false = plain_made
    product_right b1 b2 leave g false false = plain_made
    product_right b1 b2 (gives b) (return h) false false = mul_made full (product b h) (node_made b2)

    by_right : ((n : ℕ) → InRange (lit_in (at n))) → at i ≡ Lit a → (y : Node) → at j ≡ y → Making ks c (mul_table at i j)
    unfolding mul_lits mul_exps mul_left mul_pows mul_last
    by_right lits e Empty f = rw (e, f) (other (is_zero a) (is_one a))
    by_right lits e (Variable v) f = rw (e, f) (other (is_zero a) (is_one a))
    by_right lits e (Lit b) f = two_literals at i j (Making ks c) a b e f zero_made (node_made i) (node_made j) (product b (found (subst (λ n. InRange (lit_in n)) f (lits j))))
      where
        found : {z : ℤ} → InRange (gives z) → is_literal z ≡ true
        found (return h) = h
    by_right lits e (Add x y) f = rw (e, f) (other (is_zero a) (is_one a))
    by_right lits e (Mul x y) f = rw (e, f) (product_right x y (lit_in (at x)) (lits x) (is_zero a) (is_one a))
    by_right lits e (Div x y) f = rw (e, f) (other (is_zero a) (is_one a))
    by_right lits e (Exp x) f = rw (e, f) (other (is_zero a) (is_one a))
    by_right lits e (Log x) f = rw (e, f) (other (is_zero a) (is_one a))
    by_right lits e (Pow x n) f = rw (e, f) (other (is_zero a) (is_one a))
    by_right lits e (Max x y) f = rw (e, f) (other (is_zero a) (is_one a))

    pub times_literal : ((n : ℕ) → InRange (lit_in (at n))) → at i ≡ Lit a → Making ks c (mul_table at i j)
    times_literal lits e = by_right lits e (at j) refl
