-- Printing: `precedence` and `node_fmt` of src/symbolic.rs, as bytes.
-- Assumes nothing.
use Rattle.std.specs.Prelude.{Bool, true, false, List, [], ◌++◌, ℕ, ◌+◌, ltb}
use Rattle.text.specs.Text.{bytes, decimal, signed_decimal, display}
use Rattle.pool.specs.declared.node.Node.{Node}
use Rattle.pool.specs.declared.node.Node.TheVariants.{Empty, Variable, Lit, Add, Mul, Div, Exp, Log, Pow, Max}
use Rattle.pool.specs.Fold.{under, fold_nodes}
use Rattle.pool.specs.Reaches.{reaches, is_max}

-- fn precedence(&self): Variable | Lit | Exp | Log | Max => 10, Add => 0, Mul | Div => 1, Pow => 2
abbrev pub precedence : Node → ℕ
precedence Empty = 10
precedence (Variable v) = 10
precedence (Lit z) = 10
precedence (Add a b) = 0
precedence (Mul a b) = 1
precedence (Div a b) = 1
precedence (Exp a) = 10
precedence (Log a) = 10
precedence (Pow a e) = 2
precedence (Max a b) = 10

abbrev pub plus : List ℕ
plus = bytes " + "

abbrev pub times : List ℕ
times = bytes "*"

abbrev pub over : List ℕ
over = bytes "/"

abbrev pub hat : List ℕ
hat = bytes "^"

abbrev pub opening : List ℕ
opening = bytes "("

abbrev pub closing : List ℕ
closing = bytes ")"

abbrev pub exp_opening : List ℕ
exp_opening = bytes "exp("

abbrev pub log_opening : List ℕ
log_opening = bytes "log("

-- if cur_precedence < parent_precedence { "(" .. ")" }
abbrev pub bracketed : Bool → List ℕ → List ℕ
bracketed true text = opening ++ text ++ closing
bracketed false text = text

-- match node; `down parent i` is the text of a part under a precedence. No text has a Max: 10
abbrev pub node_text : (ℕ → ℕ → List ℕ) → Node → List ℕ
node_text down Empty = []
node_text down (Variable v) = display v
node_text down (Lit z) = signed_decimal z
-- a at cur_precedence, " + ", b at cur_precedence
node_text down (Add a b) = down (precedence (Add a b)) a ++ plus ++ down (precedence (Add a b)) b
node_text down (Mul a b) = down (precedence (Mul a b)) a ++ times ++ down (precedence (Mul a b)) b
-- b at cur_precedence + 1
node_text down (Div a b) = down (precedence (Div a b)) a ++ over ++ down (precedence (Div a b) + 1) b
node_text down (Exp a) = exp_opening ++ down 0 a ++ closing
node_text down (Log a) = log_opening ++ down 0 a ++ closing
-- a at cur_precedence + 1, "^", exp
node_text down (Pow a e) = down (precedence (Pow a e) + 1) a ++ hat ++ decimal e
node_text down (Max a b) = []

-- fn node_fmt(node, parent_precedence): a text waits for the precedence around it
abbrev pub text_node : (ℕ → ℕ → List ℕ) → Node → ℕ → List ℕ
text_node down n parent = bracketed (ltb (precedence n) parent) (node_text (λ around a. down a around) n)

abbrev pub text_below : (ℕ → Node) → ℕ → ℕ → ℕ → List ℕ
text_below at k parent i = under (λ around. []) (fold_nodes (λ around. []) text_node at) k i parent

abbrev pub text_of : (ℕ → Node) → ℕ → List ℕ
text_of at root = fold_nodes (λ around. []) text_node at root 0

-- 10. "Printing meets 10 if any reachable node is Max."
abbrev pub has_max : (ℕ → Node) → ℕ → Bool
has_max at root = reaches is_max at root
