-- The rounds of a power: as many as the exponent has binary digits, which its leading zeros tell; in each the result takes the square on an odd exponent, and while digits are left the square is squared.
-- Assumes nothing.
use Rattle.std.proofs.Common.{◌≡◌, refl, sym, ap, ◌∙◌, cond, ℕ, zero, suc, ◌+◌, ◌*◌, ◌/◌, ◌%◌, ◌^◌, ◌<◌, ◌≤◌, ◌-◌, arith}
use native.Mathlib.Nat.{pow-suc, div-add-mod', mod-lt}
use lib.Count.{count_leading_zeros, leading_length}
use lib.Dec.{eqb, ltb}
use lib.Pow.{pow_pos}
use borrow.Author.Tests.{lt-ltb, ne_eqb}
use Rattle.pool.specs.Pool.{Pool, done, refused}
use Rattle.taylor.specs.Work.{Result, Work, bind, yield}
use Rattle.taylor.specs.Expansion.{Expansion, times, pow_from, digits}
use Rattle.taylor_base.proofs.Steps.{bind_same}
use Rattle.taylor_products.specs.Powers.{times_if}

-- e has n binary digits
pub record Digits (e n : ℕ) : Type 0 where
  pub below : e < 2 ^ n
  pub least : 2 ^ n ≤ 2 * e + 1

-- the digits are what the leading zeros leave
pub digits_of : (e : ℕ) → e < 2 ^ digits → Digits e (digits - count_leading_zeros digits e)
digits_of e h =
    let found = leading_length digits e h in
    let same : digits - count_leading_zeros digits e ≡ found.0 = omega (arith, found.1) in
    rw same (record { below = found.2; least = found.3 })

module _ (e n : ℕ) (d : Digits e (suc n)) where
  halves : (e ≡ e / 2 * 2 + e % 2) × (e % 2 < 2)
  halves = (sym (div-add-mod' e 2), mod-lt e (omega arith))

  one_less : Digits (e / 2) n
  one_less =
      let twice : 2 ^ suc n ≡ 2 ^ n * 2 = pow-suc 2 n in
      record {
        below = omega (arith, d.below, twice, halves.0, halves.1);
        least = omega (arith, d.least, twice, halves.0, halves.1);
      }

no_digits : {e : ℕ} → Digits e 0 → e ≡ 0
no_digits {e} d = omega (arith, d.below)

some_digits : {e n : ℕ} → Digits e (suc n) → e ≡ 0 → ⊥
some_digits {e} {n} d z =
    let twice : 2 ^ suc n ≡ 2 ^ n * 2 = pow-suc 2 n in
    omega (arith, d.least, twice, some n)
  where
    some : (n : ℕ) → 0 < 2 ^ n
    some n = pow_pos n

-- a power with no digits left is the result so far
nothing_left : (k : ℕ) (res base : Expansion) (P : Pool) → done res P ≡ pow_from k 0 res base P
unfolding pow_from
nothing_left zero res base P = refl
nothing_left (suc k) res base P = refl

-- after the product comes the square, while digits are left
squares :
    (e n k : ℕ) (res base : Expansion) (P : Pool) → Digits (e / 2) n
    → bind (times_if (ltb 0 n) base base P) (pow_from k (e / 2) res) ≡ cond (eqb (e / 2) 0) (yield res) (λ Q. bind (times base base Q) (pow_from k (e / 2) res)) P
squares e zero k res base P d =
    rw (no_digits d) (sym (nothing_left k res base P))
squares e (suc n) k res base P d =
    let more : 0 < suc n = omega arith in
    rw (lt-ltb 0 (suc n) more, ne_eqb (e / 2) 0 (some_digits d)) refl

-- the rounds that are left give the whole
pub record Powering (extra : ℕ) (whole : Result Expansion) (e rounds : ℕ) (res square : Expansion) (P : Pool) : Type 0 where
  pub digits_left : Digits e rounds
  pub is : pow_from (extra + rounds) e res square P ≡ whole

pub pow_starts :
    (e : ℕ) (res base : Expansion) (P : Pool) → e < 2 ^ digits
    → Powering (count_leading_zeros digits e) (pow_from digits e res base P) e (digits - count_leading_zeros digits e) res base P
pow_starts e res base P h =
    let found = leading_length digits e h in
    let all : count_leading_zeros digits e + (digits - count_leading_zeros digits e) ≡ digits = omega (arith, found.1) in
    record { digits_left = digits_of e h; is = ap (λ (k : ℕ). pow_from k e res base P) all }

module _ {extra : ℕ} {whole : Result Expansion} {e rounds : ℕ} {res square : Expansion} {P : Pool} (g : Powering extra whole e rounds res square P) (h : 0 < rounds) where
  -- what follows the square, and what follows the product
  abbrev last : Expansion → Expansion → Work Expansion
  last res2 base2 = pow_from (extra + (rounds - 1)) (e / 2) res2 base2

  abbrev next : Expansion → Work Expansion
  next res2 Q = bind (times_if (ltb 0 (rounds - 1)) square square Q) (last res2)

  fewer : Digits (e / 2) (rounds - 1)
  fewer =
      let more : rounds ≡ suc (rounds - 1) = omega arith in
      one_less e (rounds - 1) (rw more at g.digits_left)

  -- one turn of the definition
  turn : bind (times_if (eqb (e % 2) 1) res square P) next ≡ whole
  unfolding pow_from
  turn =
      let more : suc (extra + (rounds - 1)) ≡ extra + rounds = omega arith in
      bind_same (times_if (eqb (e % 2) 1) res square P) next (λ res2. cond (eqb (e / 2) 0) (yield res2) (λ Q. bind (times square square Q) (last res2)))
      (λ res2 Q. squares e (rounds - 1) (extra + (rounds - 1)) res2 square Q fewer)
      ∙ ap (λ (k : ℕ). pow_from k e res square P) more ∙ g.is

  pub product_stopped : {n : ℕ} → refused n ≡ times_if (eqb (e % 2) 1) res square P → refused n ≡ whole
  product_stopped d = ap (λ x. bind x next) d ∙ turn

  module _ {r : Expansion} {Q : Pool} (d : done r Q ≡ times_if (eqb (e % 2) 1) res square P) where
    pub square_stopped : {n : ℕ} → refused n ≡ times_if (ltb 0 (rounds - 1)) square square Q → refused n ≡ whole
    square_stopped f = ap (λ x. bind x (last r)) f ∙ ap (λ x. bind x next) d ∙ turn

    pub pow_onward : {s : Expansion} {R : Pool} → done s R ≡ times_if (ltb 0 (rounds - 1)) square square Q → Powering extra whole (e / 2) (rounds - 1) r s R
    pow_onward f = record { digits_left = fewer; is = ap (λ x. bind x (last r)) f ∙ ap (λ x. bind x next) d ∙ turn }

pub pow_done :
    {extra : ℕ} {whole : Result Expansion} {e rounds : ℕ} {res square : Expansion} {P : Pool} → Powering extra whole e rounds res square P → rounds ≤ 0 → done res P ≡ whole
pow_done {extra} {whole} {e} {rounds} {res} {square} {P} g h =
    let none : rounds ≡ 0 = omega arith in
    let over : 0 ≡ e = sym (no_digits (rw none at g.digits_left)) in
    nothing_left (extra + rounds) res square P ∙ ap (λ (n : ℕ). pow_from (extra + rounds) n res square P) over ∙ g.is

pub ruleset ends = (product_stopped, pow_done)
