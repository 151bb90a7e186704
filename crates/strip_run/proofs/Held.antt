-- The places in the code: what a push, a key that combines and a key that raises make of them.
-- Assumes nothing.
use mathlib.Core.Path.{◌≡◌, refl, ap, ap₂, ◌∙◌}
use mathlib.Core.List.{List, ◌∷◌}
use Prim.Native.Nat.{ℕ, zero, suc, ◌+◌, ◌-◌, ◌≤◌, ◌<◌}
use native.Mathlib.Nat.{not-suc-le-zero}
use native.Mathlib.Omega.{arith}
use lib.Ieee.{Float, nan}
use lib.ListN.{length, get_or, set, drop}
use lib.Seq.{get_or-set_same, get_or-set_other}
use Rattle.strip_run.specs.Held.{from_two, in_use}

below_a_store : (held : List Float) (i : ℕ) (x : Float) (n : ℕ) → n + 1 < i → from_two (set held i x) n ≡ from_two held n
below_a_store held i x zero l = refl
below_a_store held i x (suc n) l = ap₂ {C = List Float} (λ y ys. y ∷ ys) (get_or-set_other held i (suc (suc n)) x nan (λ e. omega arith)) (below_a_store held i x n (omega arith))

one_more : (n : ℕ) → n + 1 ≡ suc n
one_more n = omega arith

one_less : (n : ℕ) → suc (suc n) - 1 ≡ suc n
one_less n = omega arith

one_is_not_two : 2 ≤ 1 → ⊥
one_is_not_two l = omega arith

module _ (top below : Float) (held : List Float) where
  -- the value that was below the topmost is stored, and the value pushed is the topmost
  pub one_pushed : (d : ℕ) → d < length held → (x : Float) → in_use x top (set held d below) (d + 1) ≡ x ∷ in_use top below held d
  one_pushed d room x = ap (in_use x top (set held d below)) (one_more d) ∙ go d room
    where
      go : (n : ℕ) → n < length held → in_use x top (set held n below) (suc n) ≡ x ∷ in_use top below held n
      go zero l = refl
      go (suc zero) l = refl
      go (suc (suc n)) l =
          ap (λ ys. x ∷ top ∷ ys) (ap₂ {C = List Float} (λ y ys. y ∷ ys) (get_or-set_same held (suc (suc n)) below nan l) (below_a_store held (suc (suc n)) below n (omega arith)))

  -- the two topmost values, and what is left when another takes their place
  pub topmost : (d : ℕ) → 1 ≤ d → get_or (in_use top below held d) 0 nan ≡ top
  topmost zero l = absurd (not-suc-le-zero l)
  topmost (suc zero) l = refl
  topmost (suc (suc n)) l = refl

  pub below_topmost : (d : ℕ) → 2 ≤ d → get_or (in_use top below held d) 1 nan ≡ below
  below_topmost zero l = absurd (not-suc-le-zero l)
  below_topmost (suc zero) l = absurd (one_is_not_two l)
  below_topmost (suc (suc n)) l = refl

  pub two_replaced : (d : ℕ) → 2 ≤ d → (x : Float) → in_use x (get_or held (d - 1) nan) held (d - 1) ≡ x ∷ drop 2 (in_use top below held d)
  two_replaced zero l x = absurd (not-suc-le-zero l)
  two_replaced (suc zero) l x = absurd (one_is_not_two l)
  two_replaced (suc (suc zero)) l x = refl
  two_replaced (suc (suc (suc n))) l x = rw (one_less (suc n)) refl

  pub one_replaced : (d : ℕ) → 1 ≤ d → (x : Float) → in_use x below held d ≡ x ∷ drop 1 (in_use top below held d)
  one_replaced zero l x = absurd (not-suc-le-zero l)
  one_replaced (suc zero) l x = refl
  one_replaced (suc (suc n)) l x = refl
