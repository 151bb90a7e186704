-- The halves of a node's word: where a node has two numbers, they are these.
-- Assumes nothing.
use Rattle.std.proofs.Common.{◌≡◌, ℕ, Bool, true, false, cond, eqb, ltb, leb, List, get_or, refl}
use Rattle.literal.specs.Literal.{is_literal, signed}
use Rattle.pool.specs.Nodes.{low_of, high_of, decode, greatest_variable, least_exponent, half}
use Rattle.pool.specs.Pool.{limit, node_in}
use Rattle.pool.specs.WordHalves.{left_in, right_in}
use Rattle.pool.specs.declared.node.Node.{Node}
use Rattle.pool.specs.declared.node.Node.TheVariants.{Empty, Variable, Lit, Add, Mul, Div, Exp, Log, Pow, Max}

-- a node with other numbers, where it has two
abbrev pub with_halves : ℕ → ℕ → Node → Node
with_halves low high Empty = Empty
with_halves low high (Variable v) = Variable v
with_halves low high (Lit z) = Lit z
with_halves low high (Add a b) = Add low high
with_halves low high (Mul a b) = Mul low high
with_halves low high (Div a b) = Div low high
with_halves low high (Exp a) = Exp a
with_halves low high (Log a) = Log a
with_halves low high (Pow a n) = Pow low high
with_halves low high (Max a b) = Max low high

one_of : (P : Node → Type 0) (t : Bool) {n m : Node} → P n → P m → P (cond t n m)
one_of P true p q = p
one_of P false p q = q

decoded : (k w : ℕ) → with_halves (low_of w) (high_of w) (decode k w) ≡ decode k w
unfolding decode
decoded k w =
    one_of same (eqb k 1) (one_of same (leb w greatest_variable) refl refl)
    (one_of same (eqb k 2) (one_of same (is_literal (signed w)) refl refl)
    (one_of same (eqb k 3) refl
    (one_of same (eqb k 4) refl
    (one_of same (eqb k 5) refl
    (one_of same (eqb k 6) (one_of same (ltb w half) refl refl)
    (one_of same (eqb k 7) (one_of same (ltb w half) refl refl)
    (one_of same (eqb k 8) (one_of same (leb least_exponent (high_of w)) refl refl)
    (one_of same (eqb k 9) refl refl))))))))
  where
    same : Node → Type 0
    same n = with_halves (low_of w) (high_of w) n ≡ n

pub by_halves : (ks ws : List ℕ) (i : ℕ) → with_halves (left_in ws i) (right_in ws i) (node_in ks ws i) ≡ node_in ks ws i
unfolding node_in
by_halves ks ws i = go (ltb i limit)
  where
    go : (t : Bool) → with_halves (cond t (low_of (get_or ws i 0)) 0) (cond t (high_of (get_or ws i 0)) 0) (cond t (decode (get_or ks i 0) (get_or ws i 0)) Empty) ≡ cond t (decode (get_or ks i 0) (get_or ws i 0)) Empty
    go true = decoded (get_or ks i 0) (get_or ws i 0)
    go false = refl
