-- The patterns of the constructors' matches: what a node of a kind holds.
-- Assumes nothing.
use Rattle.std.specs.Prelude.{ℕ, ℤ}
use Rattle.pool.specs.declared.node.Node.{Node}
use Rattle.pool.specs.declared.node.Node.TheVariants.{Empty, Variable, Lit, Add, Mul, Div, Exp, Log, Pow, Max}
use Rattle.constructors.specs.Terms.{Arm, skip, return}

-- Lit(z)
abbrev pub lit_in : Node → Arm ℤ
lit_in Empty = skip
lit_in (Variable v) = skip
lit_in (Lit z) = return z
lit_in (Add a b) = skip
lit_in (Mul a b) = skip
lit_in (Div a b) = skip
lit_in (Exp a) = skip
lit_in (Log a) = skip
lit_in (Pow a n) = skip
lit_in (Max a b) = skip

-- Add(a, b)
abbrev pub add_in : Node → Arm (ℕ × ℕ)
add_in Empty = skip
add_in (Variable v) = skip
add_in (Lit z) = skip
add_in (Add a b) = return (a, b)
add_in (Mul a b) = skip
add_in (Div a b) = skip
add_in (Exp a) = skip
add_in (Log a) = skip
add_in (Pow a n) = skip
add_in (Max a b) = skip

-- Mul(a, b)
abbrev pub mul_in : Node → Arm (ℕ × ℕ)
mul_in Empty = skip
mul_in (Variable v) = skip
mul_in (Lit z) = skip
mul_in (Add a b) = skip
mul_in (Mul a b) = return (a, b)
mul_in (Div a b) = skip
mul_in (Exp a) = skip
mul_in (Log a) = skip
mul_in (Pow a n) = skip
mul_in (Max a b) = skip

-- Exp(a)
abbrev pub exp_in : Node → Arm ℕ
exp_in Empty = skip
exp_in (Variable v) = skip
exp_in (Lit z) = skip
exp_in (Add a b) = skip
exp_in (Mul a b) = skip
exp_in (Div a b) = skip
exp_in (Exp a) = return a
exp_in (Log a) = skip
exp_in (Pow a n) = skip
exp_in (Max a b) = skip

-- Pow(a, n)
abbrev pub pow_in : Node → Arm (ℕ × ℕ)
pow_in Empty = skip
pow_in (Variable v) = skip
pow_in (Lit z) = skip
pow_in (Add a b) = skip
pow_in (Mul a b) = skip
pow_in (Div a b) = skip
pow_in (Exp a) = skip
pow_in (Log a) = skip
pow_in (Pow a n) = return (a, n)
pow_in (Max a b) = skip
