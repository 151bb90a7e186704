-- That numbers are cut off cannot be told: every test of the sheet answers the same, and a number that passes its test is whole.
-- Assumes nothing.
use mathlib.Core.Path.{◌≡◌, refl, ap, ◌∙◌}
use mathlib.Core.Bool.{Bool, true, false}
use Prim.Native.Nat.{ℕ, suc, ◌+◌, ◌*◌, ◌≤◌}
use native.Mathlib.Omega.{arith}
use lib.Dec.{leb}
use lib.IntN.{ℤ, pos, negsuc, neg_ℤ, nat_abs}
use borrow.Author.Tests.{le-leb, lt-leb, leb-true, leb-false}
use Rattle.literal.specs.Literal.{greatest, is_literal}
use Rattle.literal.proofs.Sizes.{size_negation}
use Rattle.pool.specs.Nodes.{greatest_variable}
use Rattle.std.specs.Prelude.{Some, None}
use Rattle.taylor.specs.Expand.{Point, is_point}
use Rattle.taylor.specs.Expansion.{greatest_order}
use Rattle.sheet_line.specs.Cut.{cut_at, cut, cut_size, cut_whole}

pub cut_within : (n : ℕ) → cut n ≤ cut_at
cut_within n = omega arith

pub cut_below : (n : ℕ) → n ≤ cut_at → cut n ≡ n
cut_below n h = omega arith

pub cut_twice : (n : ℕ) → cut (cut n) ≡ cut n
cut_twice n = omega arith

-- a digit more: what was cut off before is cut off again
pub cut_again : (n d : ℕ) → cut (10 * cut n + d) ≡ cut (10 * n + d)
cut_again n d = omega arith

-- a bound that is no more than the greatest literal
pub same_test : (bound n : ℕ) → bound ≤ greatest → leb (cut n) bound ≡ leb n bound
same_test bound n h = go (leb n bound) refl
  where
    go : (t : Bool) → leb n bound ≡ t → leb (cut n) bound ≡ t
    go true e = le-leb (cut n) bound (omega (arith, leb-true n bound e))
    go false e = lt-leb (cut n) bound (omega (arith, leb-false n bound e))

pub whole_within : (bound n : ℕ) → bound ≤ greatest → leb n bound ≡ true → cut n ≡ n
whole_within bound n h e = cut_below n (omega (arith, leb-true n bound e))

-- variables
pub same_variable_test : (v : ℕ) → leb (cut v) greatest_variable ≡ leb v greatest_variable
same_variable_test v = same_test greatest_variable v (omega arith)

pub whole_variable : (v : ℕ) → leb v greatest_variable ≡ true → cut v ≡ v
whole_variable v = whole_within greatest_variable v (omega arith)

-- orders
pub same_order_test : (order : ℕ) → leb (cut order) greatest_order ≡ leb order greatest_order
same_order_test order = same_test greatest_order order (omega arith)

pub whole_order : (order : ℕ) → leb order greatest_order ≡ true → cut order ≡ order
whole_order order = whole_within greatest_order order (omega arith)

-- points
pub size_of_cut : (z : ℤ) → nat_abs (cut_size z) ≡ cut (nat_abs z)
size_of_cut (pos n) = refl
size_of_cut (negsuc n) = size_negation (pos (cut (suc n)))

pub same_literal_test : (z : ℤ) → is_literal (cut_size z) ≡ is_literal z
same_literal_test z = ap (λ (n : ℕ). leb n greatest) (size_of_cut z) ∙ same_test greatest (nat_abs z) (omega arith)

pub whole_literal : (z : ℤ) → is_literal z ≡ true → cut_size z ≡ z
whole_literal (pos n) e = ap pos (whole_within greatest n (omega arith) e)
whole_literal (negsuc n) e = ap (λ (m : ℕ). neg_ℤ (pos m)) (whole_within greatest (suc n) (omega arith) e)

pub same_point_test : (x : Point) → is_point (cut_whole x) ≡ is_point x
same_point_test None = refl
same_point_test (Some z) = same_literal_test z

pub whole_point : (x : Point) → is_point x ≡ true → cut_whole x ≡ x
whole_point None e = refl
whole_point (Some z) e = ap Some (whole_literal z e)
