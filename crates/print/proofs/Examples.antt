-- Small expressions as text, computed from the definitions.
-- Assumes nothing.
use mathlib.Core.Path.{◌≡◌, refl}
use mathlib.Core.Bool.{true, false}
use mathlib.Core.List.{[], ◌∷◌}
use Prim.Native.Nat.{ℕ}
use lib.ListN.{get_or}
use Rattle.pool.specs.declared.node.Node.{Node}
use Rattle.pool.specs.declared.node.Node.TheVariants.{Empty, Variable, Add, Mul, Div, Exp, Pow, Max}
use Rattle.text.specs.Text.{bytes, decimal, digits_within, display}
use Rattle.pool.specs.Fold.{under, fold_nodes_within, fold_nodes}
use Rattle.walks.specs.Print.{text_of, has_max}

-- node 3 is b*c, 4 is a/(b*c), 5 is a + b, 6 is (a + b)*c, 8 is exp of a twelfth power, and 9 is a Max
pub nodes : ℕ → Node
nodes i =
    get_or
    (Variable 0
    ∷ Variable 1
    ∷ Variable 2
    ∷ Mul 1 2
    ∷ Div 0 3
    ∷ Add 0 1
    ∷ Mul 5 2
    ∷ Pow 4 12
    ∷ Exp 7
    ∷ Max 8 0
    ∷ [])
    i
    Empty

pub a_product_below : text_of nodes 4 ≡ bytes "a/(b*c)"
unfolding nodes fold_nodes fold_nodes_within under display decimal digits_within
a_product_below = refl

pub a_sum_as_factor : text_of nodes 6 ≡ bytes "(a + b)*c"
unfolding nodes fold_nodes fold_nodes_within under display decimal digits_within
a_sum_as_factor = refl

pub a_quotient_as_base : text_of nodes 8 ≡ bytes "exp((a/(b*c))^12)"
unfolding nodes fold_nodes fold_nodes_within under display decimal digits_within
a_quotient_as_base = refl

pub no_max_reached : has_max nodes 8 ≡ false
unfolding nodes fold_nodes fold_nodes_within under
no_max_reached = refl

pub a_max_reached : has_max nodes 9 ≡ true
unfolding nodes fold_nodes fold_nodes_within under
a_max_reached = refl
