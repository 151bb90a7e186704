-- The table by which the code tests an entry: it describes the code, and says nothing that the table of kinds does not.
-- Assumes nothing.
use Rattle.std.specs.Prelude.{ℕ, ◌-◌, ◌*◌, ◌^◌, List, [], ◌∷◌}
use Rattle.literal.specs.Literal.{greatest}
use Rattle.pool.specs.Nodes.{half, greatest_variable, least_exponent}

-- four numbers to a kind: what is added to the word, the greatest sum, and what is added to the node's own number before the low and the high half of the word are compared with it
abbrev pub row_numbers : List ℕ
row_numbers =
    -- 0: no node
    1 ∷ 0 ∷ 0 ∷ 0 ∷
    -- 1: Variable
    0 ∷ greatest_variable ∷ half ∷ half ∷
    -- 2: Lit
    greatest ∷ (2 * greatest) ∷ half ∷ half ∷
    -- 3, 4, 5: Add, Mul, Div
    0 ∷ (2 ^ 64 - 1) ∷ 0 ∷ 0 ∷
    0 ∷ (2 ^ 64 - 1) ∷ 0 ∷ 0 ∷
    0 ∷ (2 ^ 64 - 1) ∷ 0 ∷ 0 ∷
    -- 6, 7: Exp, Log
    0 ∷ (half - 1) ∷ 0 ∷ half ∷
    0 ∷ (half - 1) ∷ 0 ∷ half ∷
    -- 8: Pow
    (2 ^ 64 - half * least_exponent) ∷ (2 ^ 64 - half * least_exponent - 1) ∷ 0 ∷ half ∷
    -- 9: Max
    0 ∷ (2 ^ 64 - 1) ∷ 0 ∷ 0 ∷ []
