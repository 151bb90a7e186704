-- The fields of a line as the code finds them: first the line end goes, then each field ends at the next space.
-- Assumes nothing.
use Rattle.std.specs.Prelude.{◌≡◌, cond, List, [], ◌∷◌, ℕ, suc, ◌≤◌, ◌<◌, eqb, length, take, drop, Option, MatchOption}
use Rattle.std.specs.Borrow.{Bor}
use Rattle.sheet_text.specs.Line.{joined}

-- the length without a line end that is the last byte
unfoldable pub content_length : List ℕ → ℕ
content_length [] = 0
content_length (b ∷ []) = cond (eqb b 10) 0 1
content_length (b ∷ c ∷ bs) = suc (content_length (c ∷ bs))

-- the index of the first byte that is the one wanted, or the length
unfoldable pub first_at : ℕ → List ℕ → ℕ
first_at wanted [] = 0
first_at wanted (b ∷ bs) = cond (eqb b wanted) 0 (suc (first_at wanted bs))

abbrev pub first_space : List ℕ → ℕ
first_space bytes = first_at 32 bytes

-- what stands between single spaces
unfoldable pub split : List ℕ → List (List ℕ)
split [] = [] ∷ []
split (b ∷ bs) = cond (eqb b 32) ([] ∷ split bs) (joined b (split bs))

-- cut at the first byte that is the one wanted: what stands before it and what behind it, or nothing where there is none
abbrev pub IsCutAt : Option (Bor (List ℕ) × Bor (List ℕ)) → ℕ → List ℕ → Type 0
IsCutAt r wanted bytes =
    MatchOption r
    (length bytes ≤ first_at wanted bytes)
    (λ x. (first_at wanted bytes < length bytes) × (x.0.now ≡ take (first_at wanted bytes) bytes) × (x.1.now ≡ drop (suc (first_at wanted bytes)) bytes))
