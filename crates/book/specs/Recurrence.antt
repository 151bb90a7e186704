-- What it is for the coefficients of an answer to be a recurrence of the book.
-- Assumes nothing.
use Rattle.std.specs.Prelude.{◌≡◌, List, [], ◌∷◌, ◌++◌, ℕ, ◌<◌, length}
use Rattle.pool.specs.Pool.{Pool, done}
use Rattle.constructor_laws.specs.Grown.{Grown}
use Rattle.taylor.specs.Work.{at}
use Rattle.book.specs.Formula.{Formula, whole, ◌⊘◌, work, works, row}
use Rattle.book.specs.Book.{Coefficients}
use Rattle.book.specs.Order.{◌≈◌}

-- node c of the pool Q is what the formula was worked to, at some time after P
pub record Coefficient (P Q : Pool) (f : Formula) (c : ℕ) : Type 0 where
  pub start : Pool
  pub finish : Pool
  pub earlier : Grown P start
  pub is : work f start ≡ done c finish
  pub later : Grown finish Q

-- the n coefficients cs, in the pool Q, that were asked for in the pool P
pub record Recurrence (shared : List Formula) (nodes : List ℕ) (book ordered : ℕ → Formula) (n : ℕ) (cs : List ℕ) (P Q : Pool) : Type 0 where
  pub long : length cs ≡ n
  -- coefficient k is the recurrence in the Rust's order, at the nodes themselves
  pub coefficient : (k : ℕ) → k < n → Coefficient P Q (ordered k) (at cs k)
  -- which is the book's recurrence by the laws of arithmetic
  pub same : (k : ℕ) → k < n → ◌≈◌ shared nodes (book k) (ordered k)
  -- and nothing else is worked: first what is shared, then coefficient 0, 1, ..
  pub works_in_turn : works (shared ++ row ordered 0 n) P ≡ done (nodes ++ cs) Q

-- a call that shares one literal 0 among all coefficients
abbrev pub WithZero : (book : ℕ → Formula) (ordered : ℕ → ℕ → Formula) (n : ℕ) (cs : List ℕ) → Pool → Pool → Type 0
WithZero book ordered n cs P Q = (z : ℕ) × Recurrence (whole 0 ∷ []) (z ∷ []) book (ordered z) n cs P Q

-- a call that shares a literal 0 and 1/w_0
abbrev pub WithScale : (w : Coefficients) (book : ℕ → Formula) (ordered : ℕ → ℕ → ℕ → Formula) (n : ℕ) (cs : List ℕ) → Pool → Pool → Type 0
WithScale w book ordered n cs P Q = (z : ℕ) × (scale : ℕ) × Recurrence (whole 0 ∷ (whole 1 ⊘ w 0) ∷ []) (z ∷ scale ∷ []) book (ordered z scale) n cs P Q
