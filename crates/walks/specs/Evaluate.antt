-- Evaluation as doubles, from document 01's "Values, from a table of one value per variable". No result is kept in the definition: a node has one value.
-- Assumes nothing.
use Rattle.std.specs.Prelude.{cond, List, ℕ, ltb, length, get_or, Float, Ok, Err}
use Rattle.std.specs.Float.{binary64, nan}
use Rattle.std.specs.Float.Ieee.{add, mul, div}
use Rattle.refusals.specs.Refusals.{broken_pool, no_value, not_evaluated}
use Rattle.double.specs.Double.{double_of, pow_of, max_of}
use Rattle.double.specs.Double.{Valued}
use Rattle.pool.specs.declared.node.Node.{Node}
use Rattle.pool.specs.declared.node.Node.TheVariants.{Empty, Variable, Lit, Add, Mul, Div, Exp, Log, Pow, Max}
use Rattle.pool.specs.Fold.{under, fold_nodes}

-- once a part is done: its refusal, or on with its value
abbrev pub one : Valued → (Float → Valued) → Valued
one (Ok x) next = next x
one (Err k) next = Err k

-- left before right
abbrev pub both : Valued → Valued → (Float → Float → Valued) → Valued
both x y next = one x (λ a. one y (λ b. next a b))

-- 15. "A variable that is reached has no entry in the table of values."
abbrev pub value_of_variable : List Float → ℕ → Valued
value_of_variable values v = cond (ltb v (length values)) (Ok (get_or values v nan)) (Err no_value)

-- "each operation rounds once"; 16. "Evaluation comes to Exp or Log .. its parts being done."
abbrev pub evaluate_node : List Float → (ℕ → Valued) → Node → Valued
evaluate_node values down Empty = Err broken_pool
evaluate_node values down (Variable v) = value_of_variable values v
evaluate_node values down (Lit z) = double_of z
evaluate_node values down (Add a b) = both (down a) (down b) (λ x y. Ok (add binary64 x y))
evaluate_node values down (Mul a b) = both (down a) (down b) (λ x y. Ok (mul binary64 x y))
evaluate_node values down (Div a b) = both (down a) (down b) (λ x y. Ok (div binary64 x y))
evaluate_node values down (Exp a) = one (down a) (λ x. Err not_evaluated)
evaluate_node values down (Log a) = one (down a) (λ x. Err not_evaluated)
evaluate_node values down (Pow a e) = one (down a) (λ x. Ok (pow_of x e))
evaluate_node values down (Max a b) = both (down a) (down b) (λ x y. Ok (max_of x y))

abbrev pub evaluate : (ℕ → Node) → List Float → ℕ → Valued
evaluate at values = fold_nodes (Err broken_pool) (evaluate_node values) at

abbrev pub evaluate_below : (ℕ → Node) → List Float → ℕ → ℕ → Valued
evaluate_below at values = under (Err broken_pool) (evaluate at values)
