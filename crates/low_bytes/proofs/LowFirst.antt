-- A number read from its bytes, the last of them first: after some turns it is the number of the bytes that are read.
-- Assumes nothing.
use mathlib.Core.Path.{◌≡◌, sym, ap, ap₂, ◌∙◌, subst⁻¹}
use mathlib.Core.List.{List}
use Prim.Native.Nat.{ℕ, suc, ◌+◌, ◌-◌, ◌*◌, ◌^◌, ◌<◌, ◌≤◌}
use native.Mathlib.Nat.{lt_of_lt_of_le, pow-le-pow_right}
use native.Mathlib.Omega.{arith}
use lib.ListN.{get_or}
use Rattle.low_bytes.specs.LowBytes.{number_at, AreBytes}
use Rattle.low_bytes.proofs.Bytes.{number_fits}

-- all but the first `left` of k bytes are read
pub record NumberRead (bs : List ℕ) (at k number left : ℕ) : Type 0 where
  pub few : left ≤ k
  pub is : number ≡ number_at (k - left) bs (at + left)

pub nothing_read : (bs : List ℕ) (at k : ℕ) → NumberRead bs at k 0 k
nothing_read bs at k = record { few = omega arith; is = ap (λ j. number_at j bs (at + k)) (none k) }
  where
    none : (k : ℕ) → 0 ≡ k - k
    none k = omega arith

module _ {bs : List ℕ} {at k number left : ℕ} (r : NumberRead bs at k number left) where
  pub byte_read : 0 < left → NumberRead bs at k (get_or bs (at + (left - 1)) 0 + 256 * number) (left - 1)
  byte_read l =
      record {
        few = let few : left ≤ k = r.few in omega arith;
        is = ap (λ x. get_or bs (at + (left - 1)) 0 + 256 * x) (r.is ∙ ap (number_at (k - left) bs) (next at left l)) ∙ ap (λ j. number_at j bs (at + (left - 1))) (sym (one_more k left l r.few));
      }
    where
      next : (at left : ℕ) → 0 < left → at + left ≡ suc (at + (left - 1))
      next at left l = omega arith

      one_more : (k left : ℕ) → 0 < left → left ≤ k → k - (left - 1) ≡ suc (k - left)
      one_more k left l m = omega arith

  -- at most seven bytes are read when one more is: there is room for it
  pub room_for_a_byte : AreBytes bs → k ≤ 8 → 0 < left → number < 2 ^ 56
  room_for_a_byte are most l =
      let base : 0 < 256 = omega arith in
      subst⁻¹ (λ x. x < 2 ^ 56) r.is (lt_of_lt_of_le (number_fits (k - left) bs are (at + left)) (pow-le-pow_right base (seven k left most l)))
    where
      seven : (k left : ℕ) → k ≤ 8 → 0 < left → k - left ≤ 7
      seven k left most l = omega arith

  pub all_read : left ≤ 0 → number ≡ number_at k bs at
  all_read l = r.is ∙ ap₂ (λ j i. number_at j bs i) (whole k left l) (first at left l)
    where
      whole : (k left : ℕ) → left ≤ 0 → k - left ≡ k
      whole k left l = omega arith

      first : (at left : ℕ) → left ≤ 0 → at + left ≡ at
      first at left l = omega arith
