-- Evaluation by residues, from document 01's "By residues ..", the modulus as a parameter (02, C-17).
-- Assumes nothing.
use Rattle.std.specs.Prelude.{cond, List, ℕ, ltb, length, get_or, Ok, Err}
use Rattle.refusals.specs.Refusals.{broken_pool, no_value, not_evaluated}
use Rattle.residue.specs.Residue.{residue, sum_of, product_of, power_of, quotient_of}
use Rattle.residue.specs.Residue.{Divided}
use Rattle.pool.specs.declared.node.Node.{Node}
use Rattle.pool.specs.declared.node.Node.TheVariants.{Empty, Variable, Lit, Add, Mul, Div, Exp, Log, Pow, Max}
use Rattle.pool.specs.Fold.{under, fold_nodes}

-- once a part is done: its refusal, or on with its residue
abbrev pub one : Divided → (ℕ → Divided) → Divided
one (Ok x) next = next x
one (Err k) next = Err k

-- left before right
abbrev pub both : Divided → Divided → (ℕ → ℕ → Divided) → Divided
both x y next = one x (λ a. one y (λ b. next a b))

-- 15. "A variable that is reached has no entry in the table of values."
abbrev pub value_of_variable : List ℕ → ℕ → Divided
value_of_variable values v = cond (ltb v (length values)) (Ok (get_or values v 0)) (Err no_value)

-- 16. "Evaluation comes to Exp or Log, or by residues to Max, its parts being done." 17 is the quotient's own.
abbrev pub residue_node : ℕ → List ℕ → (ℕ → Divided) → Node → Divided
residue_node m values down Empty = Err broken_pool
residue_node m values down (Variable v) = value_of_variable values v
residue_node m values down (Lit z) = Ok (residue m z)
residue_node m values down (Add a b) = both (down a) (down b) (λ x y. Ok (sum_of m x y))
residue_node m values down (Mul a b) = both (down a) (down b) (λ x y. Ok (product_of m x y))
residue_node m values down (Div a b) = both (down a) (down b) (λ x y. quotient_of m x y)
residue_node m values down (Exp a) = one (down a) (λ x. Err not_evaluated)
residue_node m values down (Log a) = one (down a) (λ x. Err not_evaluated)
residue_node m values down (Pow a e) = one (down a) (λ x. Ok (power_of m x e))
residue_node m values down (Max a b) = both (down a) (down b) (λ x y. Err not_evaluated)

abbrev pub evaluate_residue : ℕ → (ℕ → Node) → List ℕ → ℕ → Divided
evaluate_residue m at values = fold_nodes (Err broken_pool) (residue_node m values) at

abbrev pub residue_below : ℕ → (ℕ → Node) → List ℕ → ℕ → ℕ → Divided
residue_below m at values = under (Err broken_pool) (evaluate_residue m at values)
