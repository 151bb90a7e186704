-- C-20: the key strip of an expression, as bytes for a stack calculator, and the places that it needs.
-- Assumes nothing.
use Rattle.std.specs.Prelude.{Bool, ◌||◌, List, [], ◌∷◌, ◌++◌, ℕ, ◌+◌, max, eqb}
use Rattle.low_bytes.specs.LowBytes.{low_bytes}
use Rattle.literal.specs.Literal.{word}
use Rattle.pool.specs.declared.node.Node.{Node}
use Rattle.pool.specs.declared.node.Node.TheVariants.{Empty, Variable, Lit, Add, Mul, Div, Exp, Log, Pow, Max}
use Rattle.pool.specs.Nodes.{kind_of, parts}
use Rattle.pool.specs.Fold.{fold_nodes}
use Rattle.pool.specs.Reaches.{reaches, is_exp_or_log}

-- what follows a code: "a variable (16 bits follow)", "a literal (64 bits follow)", "32 bits of exponent follow", "all low byte first"
abbrev pub operand : Node → List ℕ
operand Empty = []
operand (Variable v) = low_bytes 2 v
operand (Lit z) = low_bytes 8 (word z)
operand (Add a b) = []
operand (Mul a b) = []
operand (Div a b) = []
operand (Exp a) = []
operand (Log a) = []
operand (Pow a e) = low_bytes 4 e
operand (Max a b) = []

-- "3, 4, 5 and 9 combine the two topmost values"
abbrev pub combines : ℕ → Bool
combines code = eqb code 3 || (eqb code 4 || (eqb code 5 || eqb code 9))

-- a node's own code, which is its kind by document 01's table, and what follows it. Exp and Log have a kind and are no codes: no call writes them (16)
abbrev pub own_key : Node → List ℕ
own_key n = kind_of n ∷ operand n

-- the strips of these parts in turn, and then the own code
abbrev pub in_turn : (ℕ → List ℕ) → List ℕ → List ℕ → List ℕ
in_turn down [] own = own
in_turn down (a ∷ more) own = down a ++ in_turn down more own

-- "A strip is the expression's left part, right part, then its own code, shared parts repeated."
abbrev pub node_strip : (ℕ → List ℕ) → Node → List ℕ
node_strip down n = in_turn down (parts n) (own_key n)

abbrev pub strip_of : (ℕ → Node) → ℕ → List ℕ
strip_of at root = fold_nodes [] node_strip at root

-- the places in use at most: a leaf is pushed to one; a base is raised where it stands; a right part runs above the left one's value
abbrev pub places_for : (ℕ → ℕ) → List ℕ → ℕ
places_for down [] = 1
places_for down (a ∷ []) = down a
places_for down (a ∷ b ∷ more) = max (down a) (down b + 1)

abbrev pub node_places : (ℕ → ℕ) → Node → ℕ
node_places down n = places_for down (parts n)

abbrev pub places_of : (ℕ → Node) → ℕ → ℕ
places_of at root = fold_nodes 0 node_places at root

-- 27. "when more than 128 places would be in use"
abbrev pub most_places : ℕ
most_places = 128

-- "16 covers a reachable Exp or Log here"
abbrev pub has_exp_or_log : (ℕ → Node) → ℕ → Bool
has_exp_or_log at root = reaches is_exp_or_log at root
