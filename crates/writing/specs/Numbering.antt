-- "A walk from the root numbers a node, from 0, when its parts are done, left first, each node once; the root is last", as a relation that says kind by kind which part is the left one.
-- The definitions of the file and of its walk use none of it. Assumes nothing.
use Rattle.std.specs.Prelude.{◌≡◌, true, false, List, [], ◌∷◌, ℕ, ◌+◌, ◌<◌, ℤ, length}
use Rattle.pool.specs.declared.node.Node.{Node}
use Rattle.pool.specs.declared.node.Node.TheVariants.{Empty, Variable, Lit, Add, Mul, Div, Exp, Log, Pow, Max}
use Rattle.shape.specs.Shape.{has, Reach}
use Rattle.shape.specs.Order.{num}

-- a node with no part; Empty, which is no node, has none either
pub data NoPart : Node → Type 0 where
  empty : NoPart Empty
  variable : {v : ℕ} → NoPart (Variable v)
  lit : {z : ℤ} → NoPart (Lit z)

-- "An only part is an argument or a base."
pub data OnlyPart : Node → ℕ → Type 0 where
  exp : {argument : ℕ} → OnlyPart (Exp argument) argument
  log : {argument : ℕ} → OnlyPart (Log argument) argument
  pow : {base e : ℕ} → OnlyPart (Pow base e) base

-- a left part and a right part
pub data LeftRight : Node → ℕ → ℕ → Type 0 where
  add : {left right : ℕ} → LeftRight (Add left right) left right
  mul : {left right : ℕ} → LeftRight (Mul left right) left right
  div : {left right : ℕ} → LeftRight (Div left right) left right
  max : {left right : ℕ} → LeftRight (Max left right) left right

-- where the nodes `before` have their numbers, the walk from node i leaves `after` with theirs: lists of nodes, the one with the greatest number first
pub data Numbers (p : ℕ → Node) : List ℕ → ℕ → List ℕ → Type 0 where
  -- "each node once"
  old : {before : List ℕ} {i : ℕ} → has before i ≡ true → Numbers p before i before
  -- "numbers a node .. when its parts are done": node i has the next number
  leaf : {before : List ℕ} {i : ℕ} → has before i ≡ false → NoPart (p i) → Numbers p before i (i ∷ before)
  one : {before then : List ℕ} {i a : ℕ} → has before i ≡ false → OnlyPart (p i) a → Numbers p before a then → Numbers p before i (i ∷ then)
  -- "left first"
  two :
      {before then after : List ℕ} {i a b : ℕ} → has before i ≡ false → LeftRight (p i) a b
      → Numbers p before a then
      → Numbers p then b after
      → Numbers p before i (i ∷ after)

-- what follows for the nodes o that the walk from the root r numbers
pub record InOrder (p : ℕ → Node) (r : ℕ) (o : List ℕ) : Type 0 where
  -- "when its parts are done": a part's number is the smaller one
  pub only_before : (i a : ℕ) → Reach p (r ∷ []) i → OnlyPart (p i) a → num o a < num o i
  pub left_before : (i a b : ℕ) → Reach p (r ∷ []) i → LeftRight (p i) a b → num o a < num o i
  pub right_before : (i a b : ℕ) → Reach p (r ∷ []) i → LeftRight (p i) a b → num o b < num o i
  -- "left first": what the root's left part reaches stands before what only its right part reaches
  pub left_first_lem : (a b x y : ℕ) → LeftRight (p r) a b → Reach p (a ∷ []) x → Reach p (b ∷ []) y → (Reach p (a ∷ []) y → ⊥) → num o x < num o y
  -- "the root is last"
  pub root_last : num o r + 1 ≡ length o
