-- Formulas over the nodes of a pool, in which the recurrences are written, and how they are worked: part by part, left first, each part by a constructor called from outside.
-- Assumes nothing.
use Rattle.std.specs.Prelude.{List, [], ◌∷◌, ℕ, zero, suc, ◌+◌}
use Rattle.taylor.specs.Work.{Work, ◌>>=◌, yield, from, add, sub, mul, div, exp, log}

infixl 20 ◌⊕◌ ◌⊖◌ ◌⊟◌
infixl 30 ◌⊗◌ ◌⊘◌
pub data Formula : Type 0 where
  -- a node that is there already, by its number
  # : ℕ → Formula
  -- a whole number: each time it is worked, a new literal
  whole : ℕ → Formula
  ◌⊕◌ ◌⊖◌ ◌⊗◌ ◌⊘◌ : Formula → Formula → Formula
  -- a difference whose right part is worked first
  ◌⊟◌ : Formula → Formula → Formula
  Exp Log : Formula → Formula

unfoldable pub work : Formula → Work ℕ
work (# i) = yield i
work (whole n) = from n
work (f ⊕ g) = do
  a ← work f
  b ← work g
  add a b
work (f ⊖ g) = do
  a ← work f
  b ← work g
  sub a b
work (f ⊗ g) = do
  a ← work f
  b ← work g
  mul a b
work (f ⊘ g) = do
  a ← work f
  b ← work g
  div a b
work (f ⊟ g) = do
  b ← work g
  a ← work f
  sub a b
work (Exp f) = do
  a ← work f
  exp a
work (Log f) = do
  a ← work f
  log a

-- formulas worked one after the other, each in the pool that the one before it left
unfoldable pub works : List Formula → Work (List ℕ)
works [] = yield []
works (f ∷ fs) = do
  c ← work f
  cs ← works fs
  yield (c ∷ cs)

-- f first, f (first + 1), .., n of them
unfoldable pub row : (ℕ → Formula) → ℕ → ℕ → List Formula
row f first zero = []
row f first (suc n) = f first ∷ row f (suc first) n

-- start, and n terms from number first on, each joined on the right of what is there: ((start ∙ t_first) ∙ t_(first+1)) ∙ ..
unfoldable pub chain : (Formula → Formula → Formula) → Formula → ℕ → ℕ → (ℕ → Formula) → Formula
chain join start first zero t = start
chain join start first (suc n) t = join (chain join start first n t) (t (first + n))

-- start + t_first + .. + t_(first+n-1)
abbrev pub sum : Formula → ℕ → ℕ → (ℕ → Formula) → Formula
sum = chain ◌⊕◌

-- start - t_first - .. - t_(first+n-1)
abbrev pub less : Formula → ℕ → ℕ → (ℕ → Formula) → Formula
less = chain ◌⊖◌
