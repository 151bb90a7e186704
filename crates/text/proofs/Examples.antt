-- Numbers and variables as text, computed from the definitions.
-- Assumes nothing.
use mathlib.Core.Path.{◌≡◌, refl}
use mathlib.Core.List.{[], ◌∷◌}
use lib.IntN.{pos, neg_ℤ}
use Rattle.text.specs.Text.{digits_within, decimal, signed_decimal, display}

-- "0"
pub zero_as_text : decimal 0 ≡ 48 ∷ []
unfolding decimal digits_within
zero_as_text = refl

-- "-9007199254740991"
pub the_least_literal_as_text :
    signed_decimal (neg_ℤ (pos 9_007_199_254_740_991))
    ≡ 45 ∷ 57 ∷ 48 ∷ 48 ∷ 55 ∷ 49 ∷ 57 ∷ 57 ∷ 50 ∷ 53 ∷ 52 ∷ 55 ∷ 52 ∷ 48 ∷ 57 ∷ 57 ∷ 49 ∷ []
unfolding signed_decimal decimal digits_within
the_least_literal_as_text = refl

-- "z"
pub variable_25 : display 25 ≡ 122 ∷ []
unfolding display decimal digits_within
variable_25 = refl

-- "x_26"
pub variable_26 : display 26 ≡ 120 ∷ 95 ∷ 50 ∷ 54 ∷ []
unfolding display decimal digits_within
variable_26 = refl

-- "x_65535"
pub variable_65535 : display 65535 ≡ 120 ∷ 95 ∷ 54 ∷ 53 ∷ 53 ∷ 51 ∷ 53 ∷ []
unfolding display decimal digits_within
variable_65535 = refl
