-- What holds of each part of a node holds of the left or only one and of the right one.
-- Assumes nothing.
use mathlib.Core.Path.{◌≡◌, subst}
use mathlib.Core.List.{List, [], ◌∷◌}
use Prim.Native.Nat.{ℕ}
use Rattle.shape.proofs.Lists.{All, all_first, all_rest}

module _ (H : ℕ → Type 0) {is : List ℕ} {a : ℕ} where
  pub of_left : {more : List ℕ} → is ≡ a ∷ more → All H is → H a
  of_left {more} e h = all_first H a more (subst (All H) e h)

  pub of_right : {b : ℕ} → is ≡ a ∷ b ∷ [] → All H is → H b
  of_right {b} e h = all_first H b [] (all_rest H a (b ∷ []) (subst (All H) e h))
