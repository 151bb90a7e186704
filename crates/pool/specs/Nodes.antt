-- The table of kinds of document 01: a node's kind and word, read and written. It stands here once.
-- Assumes nothing.
use Rattle.std.specs.Prelude.{ℕ, ◌+◌, ◌*◌, ◌/◌, ◌%◌, ◌^◌, Bool, true, false, cond, ◌&&◌, List, [], ◌∷◌, ◌==◌, nat_le, nat_lt}
use Rattle.literal.specs.Literal.{is_literal, signed, word}
use Rattle.pool.specs.declared.node.Node.{Node}
use Rattle.pool.specs.declared.node.Node.TheVariants.{Empty, Variable, Lit, Add, Mul, Div, Exp, Log, Pow, Max}

-- "its number, 0 to 65,535"
abbrev pub greatest_variable : ℕ
greatest_variable = 65535

-- "exponent 2 to 4,294,967,295"
abbrev pub least_exponent : ℕ
least_exponent = 2

abbrev pub greatest_exponent : ℕ
greatest_exponent = 4294967295

-- "left + 2^32 × right": a node number and an exponent have half a word
abbrev pub half : ℕ
half = 2 ^ 32

abbrev pub pair : ℕ → ℕ → ℕ
pair left right = left + half * right

abbrev pub low_of : ℕ → ℕ
low_of w = w % half

abbrev pub high_of : ℕ → ℕ
high_of w = w / half

-- the node of a kind and a word, Empty where there is none
unfoldable pub decode : ℕ → ℕ → Node
decode kind w =
    -- 1: Variable, its number, 0 to 65,535
    cond (kind == 1) (cond (nat_le w greatest_variable) (Variable w) Empty)
    -- 2: Lit, signed whole number, two's complement, in the literal range
    (cond (kind == 2) (cond (is_literal (signed w)) (Lit (signed w)) Empty)
    -- 3, 4, 5: Add, Mul, Div, left + 2^32 × right
    (cond (kind == 3) (Add (low_of w) (high_of w))
    (cond (kind == 4) (Mul (low_of w) (high_of w))
    (cond (kind == 5) (Div (low_of w) (high_of w))
    -- 6, 7: Exp, Log, the argument
    (cond (kind == 6) (cond (nat_lt w half) (Exp w) Empty)
    (cond (kind == 7) (cond (nat_lt w half) (Log w) Empty)
    -- 8: Pow, base + 2^32 × exponent, exponent 2 to 4,294,967,295
    (cond (kind == 8) (cond (nat_le least_exponent (high_of w)) (Pow (low_of w) (high_of w)) Empty)
    -- 9: Max, left + 2^32 × right
    (cond (kind == 9) (Max (low_of w) (high_of w)) Empty))))))))

abbrev pub kind_of : Node → ℕ
kind_of Empty = 0
kind_of (Variable v) = 1
kind_of (Lit z) = 2
kind_of (Add a b) = 3
kind_of (Mul a b) = 4
kind_of (Div a b) = 5
kind_of (Exp a) = 6
kind_of (Log a) = 7
kind_of (Pow a n) = 8
kind_of (Max a b) = 9

abbrev pub word_of : Node → ℕ
word_of Empty = 0
word_of (Variable v) = v
word_of (Lit z) = word z
word_of (Add a b) = pair a b
word_of (Mul a b) = pair a b
word_of (Div a b) = pair a b
word_of (Exp a) = a
word_of (Log a) = a
word_of (Pow a n) = pair a n
word_of (Max a b) = pair a b

-- "A part is a node number": the left or only part first
abbrev pub parts : Node → List ℕ
parts Empty = []
parts (Variable v) = []
parts (Lit z) = []
parts (Add a b) = a ∷ b ∷ []
parts (Mul a b) = a ∷ b ∷ []
parts (Div a b) = a ∷ b ∷ []
parts (Exp a) = a ∷ []
parts (Log a) = a ∷ []
parts (Pow a n) = a ∷ []
parts (Max a b) = a ∷ b ∷ []

abbrev pub all_below : ℕ → List ℕ → Bool
all_below n [] = true
all_below n (a ∷ more) = nat_lt a n && all_below n more

abbrev pub is_node : Node → Bool
is_node Empty = false
is_node (Variable v) = true
is_node (Lit z) = true
is_node (Add a b) = true
is_node (Mul a b) = true
is_node (Div a b) = true
is_node (Exp a) = true
is_node (Log a) = true
is_node (Pow a n) = true
is_node (Max a b) = true

-- "Each part of a node has a smaller number than the node": an entry that may stand at number i
unfoldable pub may_stand_at : ℕ → Node → Bool
may_stand_at i n = is_node n && all_below i (parts n)
