-- The parts of a node as a list that a loop goes over.
-- Assumes nothing.
use Rattle.std.proofs.Common.{◌≡◌, ℕ, ◌+◌, ◌<◌, ◌⊎◌, List, [], ◌∷◌, length, get_or, take, sym, ◌∙◌, inl, inr, add-one, take-suc}
use mathlib.Core.List.Memᴰ
use mathlib.Core.List.{Memᴰ}

-- what holds of the first j parts and of the next one
pub one_more : {P : ℕ → Type 0} {part : ℕ} (told : List ℕ) (j : ℕ) → j < length told → ((a : ℕ) → Memᴰ a (take j told) → P a) → part ≡ get_or told j 0 → P part → (a : ℕ) → Memᴰ a (take (j + 1) told) → P a
one_more {P} {part} told j h done is new a m =
    go (Memᴰ.append_cases (take j told) (rw (add-one j, take-suc told j 0 h) at m))
  where
    go : Memᴰ a (take j told) ⊎ Memᴰ a (get_or told j 0 ∷ []) → P a
    go (inl d) = done a d
    go (inr d) = rw (Memᴰ.eq_of_singleton d ∙ sym is) new
