-- What the examples of document 01 speak of: an expression over x0 and x1, built in an empty pool, and what it prints as, or its refusal.
-- Assumes nothing.
use Rattle.std.specs.Prelude.{List, [], ◌∷◌, ℕ}
use Rattle.pool.specs.declared.node.Node.TheVariants as node
pub use Rattle.text.specs.Text.{bytes}
use Rattle.pool.specs.Pool.{Pool, Out, done, refused, Run, ◌>>=◌, append, node_at}
unfoldable pub use Rattle.pool.specs.Pool.{empty}
use Rattle.walks.specs.Print.{text_of}
use Rattle.taylor.specs.Work.{Result}
use Rattle.taylor.specs.Expansion.{Expansion}
use Rattle.taylor.specs.declared.expansion.Expansion.TheVariants.{Constant, Polynomial}

-- an empty pool with x0 as node 0 and x1 as node 1: "a variable is one node, however often it is written"
unfoldable pub with_variables : Run → Out
unfolding empty
with_variables work = (append (node.Variable 0) >>= (λ _. append (node.Variable 1) >>= (λ _. work))) empty

abbrev pub x0 : ℕ
x0 = 0

abbrev pub x1 : ℕ
x1 = 1

-- a text, a text for each coefficient, or a refusal number
pub data Shown : Type 0 where
  text : List ℕ → Shown
  texts : List (List ℕ) → Shown
  refusal : ℕ → Shown

abbrev pub shown : Out → Shown
shown (done i P) = text (text_of (node_at P) i)
shown (refused k) = refusal k

abbrev pub texts_of : Pool → List ℕ → List (List ℕ)
texts_of P [] = []
texts_of P (c ∷ cs) = text_of (node_at P) c ∷ texts_of P cs

abbrev pub shown_expansion : Result Expansion → Shown
shown_expansion (done (Constant c) P) = texts (text_of (node_at P) c ∷ [])
shown_expansion (done (Polynomial cs) P) = texts (texts_of P cs)
shown_expansion (refused k) = refusal k
