-- Pools as a caller lends them, in the numbers of document 01's table of kinds.
-- Assumes nothing.
use Rattle.std.specs.Prelude.{List, [], ◌∷◌, ◌++◌, map, ℕ, zero, suc, ◌+◌, ◌-◌, ◌*◌, length, replicate}

-- "A node has a kind and a word (unsigned, 64 bits)."
abbrev pub Entry : Type 0
Entry = ℕ × ℕ

-- 1, Variable: "its number"
abbrev pub variable : ℕ → Entry
variable v = (1, v)

-- 2, Lit: "signed whole number, two's complement", given as its word
abbrev pub literal : ℕ → Entry
literal w = (2, w)

-- "left + 2^32 × right", "base + 2^32 × exponent"
abbrev pub halves : ℕ → ℕ → ℕ
halves low high = low + 4294967296 * high

-- 3, 4, 5, 9: Add, Mul, Div, Max
abbrev pub sum : ℕ → ℕ → Entry
sum left right = (3, halves left right)

abbrev pub product : ℕ → ℕ → Entry
product left right = (4, halves left right)

abbrev pub quotient : ℕ → ℕ → Entry
quotient left right = (5, halves left right)

abbrev pub greater : ℕ → ℕ → Entry
greater left right = (9, halves left right)

-- 6, 7: Exp, Log: "the argument"
abbrev pub exponential : ℕ → Entry
exponential a = (6, a)

abbrev pub logarithm : ℕ → Entry
logarithm a = (7, a)

-- 8: Pow
abbrev pub power : ℕ → ℕ → Entry
power base exponent = (8, halves base exponent)

-- "a lent table of 4,096 kinds, one of 4,096 words, and a count"
pub record Lent : Type 0 where
  pub kinds : List ℕ
  pub words : List ℕ
  pub count : ℕ

abbrev pub tables : List ℕ → List ℕ → ℕ → Lent
tables ks ws n = record { kinds = ks; words = ws; count = n }

-- a table's entries, and "entries from the count on are 0"
abbrev pub table : List ℕ → List ℕ
table xs = xs ++ replicate (4096 - length xs) 0

abbrev pub kind_in : Entry → ℕ
kind_in e = e.0

abbrev pub word_in : Entry → ℕ
word_in e = e.1

abbrev pub kinds_of : List Entry → List ℕ
kinds_of es = table (map kind_in es)

abbrev pub words_of : List Entry → List ℕ
words_of es = table (map word_in es)

-- a pool of these entries, the first with the number 0
unfoldable pub lent : List Entry → Lent
lent es = tables (kinds_of es) (words_of es) (length es)

-- ---- the pools at the limits

-- "Count 4,096": x0, the literal 0, and x0 in every other place
unfoldable pub full : Lent
full = tables (1 ∷ 2 ∷ replicate 4094 1) (replicate 4096 0) 4096

-- n numbers from i on
abbrev pub from : ℕ → ℕ → List ℕ
from i zero = []
from i (suc n) = i ∷ from (suc i) n

-- x0 under 4,095 nested Exp: all 4,096 nodes are reachable from the last
unfoldable pub chain : Lent
chain = tables (1 ∷ replicate 4095 6) (0 ∷ from 0 4095) 4096

-- so many nested Mul, each with the left part node 2: the innermost's right part, and its own number
abbrev pub nested : ℕ → ℕ → ℕ → List Entry
nested zero part own = []
nested (suc n) part own = product 2 part ∷ nested n own (suc own)

-- "x1 under .. nested Mul, each with the left part literal 2": x0, x1 and 2 are nodes 0, 1 and 2
abbrev pub under_mul : ℕ → Lent
under_mul n = lent (variable 0 ∷ variable 1 ∷ literal 2 ∷ nested n 1 3)

-- so many products of a node with itself, from node i on
abbrev pub squares : ℕ → ℕ → List Entry
squares zero i = []
squares (suc n) i = product i i ∷ squares n (suc i)

-- a*a* .. *a with 2^15 letters: 65,535 bytes, node 15
abbrev pub text65535 : List Entry
text65535 = variable 0 ∷ squares 15 0

-- so many products, each of a node from i on with the product before, which is node u
abbrev pub products : ℕ → ℕ → ℕ → List Entry
products zero i u = []
products (suc n) i u = product i u ∷ products n (suc i) (suc u)

-- the same with 10 for the last letter: 65,536 bytes, node 30
abbrev pub text65536 : List Entry
text65536 = variable 0 ∷ squares 14 0 ++ literal 10 ∷ products 15 0 15
