-- Renaming the parts of a node: the nine kinds appear in these laws and in those of the table of kinds, and nowhere else.
-- Assumes nothing.
use mathlib.Core.Path.{◌≡◌, refl, ap, ap₂, ◌∙◌}
use mathlib.Core.List.{[], ◌∷◌, map}
use Prim.Native.Nat.{ℕ}
use Rattle.pool.specs.Nodes.{parts, is_node}
use Rattle.pool.specs.declared.node.Node.{Node}
use Rattle.pool.specs.declared.node.Node.TheVariants.{Empty, Variable, Lit, Add, Mul, Div, Exp, Log, Pow, Max}
use Rattle.shape.specs.Shape.{rename}
use Rattle.shape.proofs.Lists.{All, here, further}

pub rename_rename : (f g : ℕ → ℕ) (n : Node) → rename g (rename f n) ≡ rename (λ i. g (f i)) n
rename_rename f g Empty = refl
rename_rename f g (Variable v) = refl
rename_rename f g (Lit z) = refl
rename_rename f g (Add a b) = refl
rename_rename f g (Mul a b) = refl
rename_rename f g (Div a b) = refl
rename_rename f g (Exp a) = refl
rename_rename f g (Log a) = refl
rename_rename f g (Pow a n) = refl
rename_rename f g (Max a b) = refl

pub parts_rename : (f : ℕ → ℕ) (n : Node) → parts (rename f n) ≡ map f (parts n)
parts_rename f Empty = refl
parts_rename f (Variable v) = refl
parts_rename f (Lit z) = refl
parts_rename f (Add a b) = refl
parts_rename f (Mul a b) = refl
parts_rename f (Div a b) = refl
parts_rename f (Exp a) = refl
parts_rename f (Log a) = refl
parts_rename f (Pow a n) = refl
parts_rename f (Max a b) = refl

-- the second of two
second : (a b : ℕ) {P : ℕ → Type 0} → All P (a ∷ b ∷ []) → P b
second a b h = h b (further a (b ∷ []) b (here b []))

-- renamings that agree on the parts
pub rename_alike : (f g : ℕ → ℕ) (n : Node) → All (λ i. f i ≡ g i) (parts n) → rename f n ≡ rename g n
rename_alike f g Empty h = refl
rename_alike f g (Variable v) h = refl
rename_alike f g (Lit z) h = refl
rename_alike f g (Add a b) h = ap₂ Add (h a (here a (b ∷ []))) (second a b h)
rename_alike f g (Mul a b) h = ap₂ Mul (h a (here a (b ∷ []))) (second a b h)
rename_alike f g (Div a b) h = ap₂ Div (h a (here a (b ∷ []))) (second a b h)
rename_alike f g (Exp a) h = ap Exp (h a (here a []))
rename_alike f g (Log a) h = ap Log (h a (here a []))
rename_alike f g (Pow a n) h = ap (λ i. Pow i n) (h a (here a []))
rename_alike f g (Max a b) h = ap₂ Max (h a (here a (b ∷ []))) (second a b h)

rename_none : (n : Node) → rename (λ i. i) n ≡ n
rename_none Empty = refl
rename_none (Variable v) = refl
rename_none (Lit z) = refl
rename_none (Add a b) = refl
rename_none (Mul a b) = refl
rename_none (Div a b) = refl
rename_none (Exp a) = refl
rename_none (Log a) = refl
rename_none (Pow a n) = refl
rename_none (Max a b) = refl

pub rename_same : (f : ℕ → ℕ) (n : Node) → All (λ i. f i ≡ i) (parts n) → rename f n ≡ n
rename_same f n h = rename_alike f (λ i. i) n h ∙ rename_none n

pub is_node_rename : (f : ℕ → ℕ) (n : Node) → is_node (rename f n) ≡ is_node n
is_node_rename f Empty = refl
is_node_rename f (Variable v) = refl
is_node_rename f (Lit z) = refl
is_node_rename f (Add a b) = refl
is_node_rename f (Mul a b) = refl
is_node_rename f (Div a b) = refl
is_node_rename f (Exp a) = refl
is_node_rename f (Log a) = refl
is_node_rename f (Pow a n) = refl
is_node_rename f (Max a b) = refl
