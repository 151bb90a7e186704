-- The parts that the relation names are those that the definitions walk.
-- Assumes nothing.
use mathlib.Core.Path.{◌≡◌, refl}
use mathlib.Core.List.{[], ◌∷◌}
use Prim.Native.Nat.{ℕ}
use native.Mathlib.Omega.{arith}
use Rattle.pool.specs.Nodes.{parts}
use Rattle.pool.specs.declared.node.Node.{Node}
use Rattle.pool.specs.declared.node.Node.TheVariants.{Empty, Variable, Lit, Add, Mul, Div, Exp, Log, Pow, Max}
use Rattle.writing.specs.Numbering.{NoPart, empty, variable, lit, OnlyPart, exp, log, pow, LeftRight, add, mul, div, max}

-- a node has no part, an only part, or a left and a right one
pub data Sides (n : Node) : Type 0 where
  none : NoPart n → parts n ≡ [] → Sides n
  only : (a : ℕ) → OnlyPart n a → parts n ≡ a ∷ [] → Sides n
  both : (a b : ℕ) → LeftRight n a b → parts n ≡ a ∷ b ∷ [] → Sides n

pub sides : (n : Node) → Sides n
sides Empty = none empty refl
sides (Variable v) = none variable refl
sides (Lit z) = none lit refl
sides (Add a b) = both a b add refl
sides (Mul a b) = both a b mul refl
sides (Div a b) = both a b div refl
sides (Exp a) = only a exp refl
sides (Log a) = only a log refl
sides (Pow a e) = only a pow refl
sides (Max a b) = both a b max refl

pub only_parts : {n : Node} {a : ℕ} → OnlyPart n a → parts n ≡ a ∷ []
only_parts exp = refl
only_parts log = refl
only_parts pow = refl

pub both_parts : {n : Node} {a b : ℕ} → LeftRight n a b → parts n ≡ a ∷ b ∷ []
both_parts add = refl
both_parts mul = refl
both_parts div = refl
both_parts max = refl

pub no_parts : {n : Node} → NoPart n → parts n ≡ []
no_parts empty = refl
no_parts variable = refl
no_parts lit = refl

-- a node has its parts in one way
pub only_once : {n : Node} {a b : ℕ} → OnlyPart n a → OnlyPart n b → a ≡ b
only_once {n} {a} {b} s t = let e = only_parts s in let f = only_parts t in cc

pub left_once : {n : Node} {a b c d : ℕ} → LeftRight n a b → LeftRight n c d → a ≡ c
left_once s t = let e = both_parts s in let f = both_parts t in cc

pub right_once : {n : Node} {a b c d : ℕ} → LeftRight n a b → LeftRight n c d → b ≡ d
right_once s t = let e = both_parts s in let f = both_parts t in cc

never : ◌≡◌ {A = ℕ} 0 1 → ⊥
never e = omega arith

pub none_or_only : {n : Node} {a : ℕ} → NoPart n → OnlyPart n a → ⊥
none_or_only s t = let e = no_parts s in let f = only_parts t in never cc

pub none_or_both : {n : Node} {a b : ℕ} → NoPart n → LeftRight n a b → ⊥
none_or_both s t = let e = no_parts s in let f = both_parts t in never cc

pub only_or_both : {n : Node} {a b c : ℕ} → OnlyPart n a → LeftRight n b c → ⊥
only_or_both s t = let e = only_parts s in let f = both_parts t in never cc
