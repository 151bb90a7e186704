-- "An expansion is a constant, or a list of 1 to 25 node numbers", as a caller lends and gets it: an array of 25 with its order beside it.
-- Assumes nothing.
use Rattle.std.specs.Prelude.{Bool, ◌&&◌, ◌||◌, cond, List, ◌∷◌, ◌++◌, ℕ, ◌-◌, min, eqb, leb, length, take, replicate}
use Rattle.taylor.specs.Coefficients.{terms, at}
use Rattle.taylor.specs.Expansion.{Expansion, order, endless}
use Rattle.taylor.specs.declared.expansion.Expansion.TheVariants.{Constant, Polynomial}
use Rattle.lent_series.specs.declared.series.Series.{Series}

-- `order` of a constant
abbrev pub is_constant : Series → Bool
is_constant s = eqb s.order endless

-- the node numbers given: a constant's one, a list's entries; "unread there in arguments" past the list's end, and no more than there are
abbrev pub entries : Series → ℕ
entries s = cond (is_constant s) 1 (min s.order terms)

abbrev pub nodes_of : Series → List ℕ
nodes_of s = take (entries s) s.coeffs

-- 5. "an expansion's list has 0 or more than 25 entries"
abbrev pub length_ok : Series → Bool
length_ok s = is_constant s || (leb 1 s.order && leb s.order terms)

-- the expansion that is given
abbrev pub given : Series → Expansion
given s = cond (is_constant s) (Constant (at s.coeffs 0)) (Polynomial (take s.order s.coeffs))

-- an expansion as an answer: "0 past the list's end in answers"
abbrev pub coeffs_of : Expansion → List ℕ
coeffs_of (Constant c) = c ∷ replicate (terms - 1) 0
coeffs_of (Polynomial cs) = cs ++ replicate (terms - length cs) 0

abbrev pub series_of : Expansion → Series
series_of e = record { order = order e; coeffs = coeffs_of e }
