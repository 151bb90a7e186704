-- The keys of a strip in words, a line each, as the program `listing` prints them.
-- Assumes nothing.
use Rattle.std.specs.Prelude.{List, [], ◌∷◌, ◌++◌, ℕ}
use Rattle.text.specs.Text.{bytes, decimal, signed_decimal, display}
use Rattle.pool.specs.declared.node.Node.{Node}
use Rattle.pool.specs.declared.node.Node.TheVariants.{Empty, Variable, Lit, Add, Mul, Div, Exp, Log, Pow, Max}
use Rattle.key_strip.specs.Machine.{keys_of}

-- what a key does; a strip has no other keys
abbrev pub key_text : Node → List ℕ
key_text Empty = []
key_text (Variable v) = bytes "push " ++ display v
key_text (Lit z) = bytes "push " ++ signed_decimal z
key_text (Add a b) = bytes "plus"
key_text (Mul a b) = bytes "times"
key_text (Div a b) = bytes "over"
key_text (Exp a) = []
key_text (Log a) = []
key_text (Pow a e) = bytes "power " ++ decimal e
key_text (Max a b) = bytes "max"

abbrev pub key_line : Node → List ℕ
key_line key = key_text key ++ bytes "\n"

unfoldable pub lines_of : List Node → List ℕ
lines_of [] = []
lines_of (key ∷ more) = key_line key ++ lines_of more

-- the listing of a strip
abbrev pub listing_of : List ℕ → List ℕ
listing_of strip = lines_of (keys_of strip)
