-- The input line of `sheet`: "a line of variable, order and, if wanted, point: decimals without leading zeros, one space between, a minus only before a nonzero point, a line end .. or none, 64 bytes at most".
-- Assumes nothing.
use Rattle.std.specs.Prelude.{Bool, true, false, not, ◌&&◌, cond, List, [], ◌∷◌, ℕ, zero, suc, ◌+◌, ◌-◌, ◌*◌, leb, eqb, ℤ, pos, negsuc, length, Option, Some, None}
use Rattle.taylor.specs.Expand.{Point}
use Rattle.sheet_text.specs.declared.Asked.{Asked}

-- what a line asks for: variable, order and point, or nothing that has the form
abbrev pub Line : Type 0
Line = Option Asked

abbrev pub when : {A : Type 0} → Bool → Option A → Option A
when true r = r
when false r = None

-- '0' to '9'
abbrev pub is_digit : ℕ → Bool
is_digit b = leb 48 b && leb b 57

-- the value of digits, after those that gave n
unfoldable pub digits_from : ℕ → List ℕ → Option ℕ
digits_from n [] = Some n
digits_from n (b ∷ bs) = when (is_digit b) (digits_from (10 * n + (b - 48)) bs)

-- "decimals without leading zeros": a lone 0, or digits that do not start with 0
unfoldable pub decimal_of : List ℕ → Option ℕ
decimal_of [] = None
decimal_of (b ∷ []) = when (is_digit b) (Some (b - 48))
decimal_of (b ∷ c ∷ bs) = when (is_digit b && not (eqb b 48)) (digits_from (b - 48) (c ∷ bs))

abbrev pub negative : Option ℕ → Option ℤ
negative None = None
negative (Some zero) = None
negative (Some (suc n)) = Some (negsuc n)

abbrev pub positive : Option ℕ → Option ℤ
positive None = None
positive (Some n) = Some (pos n)

-- "a minus only before a nonzero point"
unfoldable pub point_of : List ℕ → Option ℤ
point_of [] = None
point_of (b ∷ bs) = cond (eqb b 45) (negative (decimal_of bs)) (positive (decimal_of (b ∷ bs)))

-- the byte in front of the first of the fields
abbrev pub joined : ℕ → List (List ℕ) → List (List ℕ)
joined b [] = (b ∷ []) ∷ []
joined b (f ∷ fs) = (b ∷ f) ∷ fs

-- what stands between single spaces, and before a line end that is the last byte
unfoldable pub fields : List ℕ → List (List ℕ)
fields [] = [] ∷ []
fields (b ∷ []) = cond (eqb b 10) ([] ∷ []) (cond (eqb b 32) ([] ∷ [] ∷ []) ((b ∷ []) ∷ []))
fields (b ∷ c ∷ bs) =
    let rest = fields (c ∷ bs) in
    cond (eqb b 32) ([] ∷ rest) (joined b rest)

abbrev pub asked : Option ℕ → Option ℕ → Option Point → Line
asked None order x = None
asked (Some v) None x = None
asked (Some v) (Some order) None = None
asked (Some v) (Some order) (Some x) = Some (record { var = v; order = order; point = x })

abbrev pub at_point : Option ℤ → Option Point
at_point None = None
at_point (Some z) = Some (Some z)

-- two fields or three
abbrev pub line_of : List (List ℕ) → Line
line_of [] = None
line_of (v ∷ []) = None
line_of (v ∷ o ∷ []) = asked (decimal_of v) (decimal_of o) (Some None)
line_of (v ∷ o ∷ p ∷ []) = asked (decimal_of v) (decimal_of o) (at_point (point_of p))
line_of (v ∷ o ∷ p ∷ q ∷ more) = None

-- "64 bytes at most"
abbrev pub longest_line : ℕ
longest_line = 64

unfoldable pub parse : List ℕ → Line
parse bytes = cond (leb (length bytes) longest_line) (line_of (fields bytes)) None
