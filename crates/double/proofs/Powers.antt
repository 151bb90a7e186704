-- Pow, bit by bit: what is still to be done after a turn is what was to be done before it, and at the last bit it is the answer.
-- Assumes nothing.
use mathlib.Core.Path.{◌≡◌, refl}
use Prim.Native.Nat.{ℕ, zero, suc, ◌/◌, ◌^◌, ◌<◌, ◌≤◌}
use native.Mathlib.Nat.{pow-suc}
use native.Mathlib.Omega.{arith}
use lib.IntN.{pos}
use lib.Ieee.{Float, binary64, mul, of_int}
use borrow.Author.Tests.{eq-eqb, ne_eqb}
use mir.Syntax.{w32}
use mir.Val.{bits}
use Rattle.double.specs.Double.{with_lowest, pow_from, pow_of}

-- the rest of the work, from acc, b and the bits of n that are left, gives x to the power of e
pub record Remains (x : Float) (e : ℕ) (acc b : Float) (n : ℕ) : Type 0 where
  pub turns : ℕ
  pub enough : n < 2 ^ turns
  pub gives : pow_from turns acc b n ≡ pow_of x e

pub at_first : (x : Float) (e : ℕ) → e < 2 ^ bits w32 → Remains x e (of_int binary64 (pos 1)) x e
unfolding pow_of
at_first x e h = record { turns = bits w32; enough = h; gives = refl }

module _ (x : Float) (e : ℕ) (acc b : Float) (n : ℕ) where
  turn : (k : ℕ) → n < 2 ^ k → pow_from k acc b n ≡ pow_of x e → 1 < n → Remains x e (with_lowest acc b n) (mul binary64 b b) (n / 2)
  unfolding pow_from
  turn zero h r more = absurd (omega arith)
  turn (suc k) h r more =
      record {
        turns = k;
        enough = omega (arith, pow-suc 2 k);
        gives = rw (ne_eqb (n / 2) 0 (omega arith)) at r;
      }

  pub after_a_turn : Remains x e acc b n → 1 < n → Remains x e (with_lowest acc b n) (mul binary64 b b) (n / 2)
  after_a_turn l more = turn l.turns l.enough l.gives more

  last : (k : ℕ) → n < 2 ^ k → pow_from k acc b n ≡ pow_of x e → n ≤ 1 → with_lowest acc b n ≡ pow_of x e
  unfolding pow_from
  last zero h r few = let z : n ≡ 0 = omega arith in rw z r
  last (suc k) h r few = rw (eq-eqb (n / 2) 0 (omega arith)) at r

  pub at_last : Remains x e acc b n → n ≤ 1 → with_lowest acc b n ≡ pow_of x e
  at_last l few = last l.turns l.enough l.gives few
