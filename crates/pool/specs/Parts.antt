-- What the code's parts of a node stand for (`parts_in`, `Counted`), and a node with other parts.
-- Assumes nothing.
use Rattle.std.specs.Prelude.{◌≡◌, ℕ, ◌≤◌, List, [], ◌∷◌, length, slice_index}
use Rattle.pool.specs.declared.node.Node.{Node}
use Rattle.pool.specs.declared.node.Node.TheVariants.{Empty, Variable, Lit, Add, Mul, Div, Exp, Log, Pow, Max}
use Rattle.pool.specs.declared.parts.CountedParts.{CountedParts}
use Rattle.pool.specs.declared.parts.Parts.{Parts}
use Rattle.pool.specs.declared.parts.Parts.TheVariants.{None, One, Two}

abbrev pub parts_in : Parts → List ℕ
parts_in None = []
parts_in (One a) = a ∷ []
parts_in (Two a b) = a ∷ b ∷ []

-- the parts are told with their count, 0 standing for a part that is not there
pub record Counted (told : List ℕ) (p : CountedParts) : Type 0 where
  pub many : p.count ≡ length told
  pub few : p.count ≤ 2
  pub first : p.left ≡ slice_index told 0
  pub second : p.right ≡ slice_index told 1

-- a node with other parts; all else is kept
abbrev pub with_parts : Node → ℕ → ℕ → Node
with_parts Empty a b = Empty
with_parts (Variable v) a b = Variable v
with_parts (Lit z) a b = Lit z
with_parts (Add x y) a b = Add a b
with_parts (Mul x y) a b = Mul a b
with_parts (Div x y) a b = Div a b
with_parts (Exp x) a b = Exp a
with_parts (Log x) a b = Log a
with_parts (Pow x n) a b = Pow a n
with_parts (Max x y) a b = Max a b
