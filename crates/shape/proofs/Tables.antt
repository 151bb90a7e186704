-- The first n of a table as a list: how long it is, what stands in it, and that it is the numbers below n mapped.
-- Assumes nothing.
use mathlib.Core.Path.{◌≡◌, refl, sym, ap, ap₂, ◌∙◌, subst⁻¹}
use mathlib.Core.Logic.{⊎_elim}
use mathlib.Core.List.{[], ◌∷◌, ◌++◌, map, reverse, reverse-cons}
use Prim.Native.Nat.{ℕ, zero, suc, ◌+◌, ◌<◌}
use native.Mathlib.Nat.{not-suc-le-zero}
use native.Mathlib.Numerals.{add-one}
use native.Mathlib.Omega.{arith}
use lib.ListN.{length, get_or, length-append, get_or-append}
use lib.Seq.{get_or_at}
use Rattle.shape.specs.Table.{up_to}
use Rattle.shape.proofs.Lists.{map_append, same_or_not}
use Rattle.shape.proofs.Numbers.{down}

module _ {A : Type 0} where
  pub length_up_to : (n : ℕ) (q : ℕ → A) → length (up_to n q) ≡ n
  unfolding up_to
  length_up_to zero q = refl
  length_up_to (suc n) q = length-append (up_to n q) (q n ∷ []) ∙ ap (λ k. k + 1) (length_up_to n q) ∙ add-one n

  pub up_to_at : (n : ℕ) (q : ℕ → A) (d : A) (m : ℕ) → m < n → get_or (up_to n q) m d ≡ q m
  unfolding up_to
  up_to_at zero q d m l = absurd (not-suc-le-zero l)
  up_to_at (suc n) q d m l =
      ⊎_elim
      (λ e. get_or_at (up_to n q) (q n) [] d m (length_up_to n q ∙ sym e) ∙ ap q (sym e))
      (λ other. get_or-append (up_to n q) (q n ∷ []) d m (subst⁻¹ (λ k. m < k) (length_up_to n q) (omega arith)) ∙ up_to_at n q d m (omega arith))
      (same_or_not m n)

  pub map_up : (f q : ℕ → A) (n : ℕ) → ((i : ℕ) → i < n → f i ≡ q i) → map f (reverse (down n)) ≡ up_to n q
  unfolding up_to
  map_up f q zero h = refl
  map_up f q (suc n) h =
      ap (map f) (reverse-cons n (down n))
      ∙ map_append f (reverse (down n)) (n ∷ [])
      ∙ ap₂ (λ xs x. xs ++ (x ∷ [])) (map_up f q n (λ i l. h i (omega arith))) (h n (omega arith))
