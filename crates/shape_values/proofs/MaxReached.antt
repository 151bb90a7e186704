-- "Printing meets 10 if any reachable node is Max": the search for a Max finds one exactly where one is reachable.
-- Assumes nothing.
use mathlib.Core.Path.{◌≡◌, refl}
use mathlib.Core.Logic.{◌↔◌}
use mathlib.Core.Bool.{true, false≢true}
use Prim.Native.Nat.{ℕ}
use Rattle.pool.specs.Reaches.{is_max}
use Rattle.pool.specs.declared.node.Node.{Node}
use Rattle.pool.specs.declared.node.Node.TheVariants.{Empty, Variable, Lit, Add, Mul, Div, Exp, Log, Pow, Max}
use Rattle.walks.specs.Print.{has_max}
use Rattle.shape.specs.Walked.{Falls}
use Rattle.shape.proofs.Reached.{reaches_is_reached}
use Rattle.shape_values.specs.Printing.{IsMax, is_max_lem, ReachesMax}

-- the test by the kind's number
met : {n : Node} → IsMax n → is_max n ≡ true
met is_max_lem = refl

is : (n : Node) → is_max n ≡ true → IsMax n
is Empty h = absurd (false≢true h)
is (Variable v) h = absurd (false≢true h)
is (Lit z) h = absurd (false≢true h)
is (Add a b) h = absurd (false≢true h)
is (Mul a b) h = absurd (false≢true h)
is (Div a b) h = absurd (false≢true h)
is (Exp a) h = absurd (false≢true h)
is (Log a) h = absurd (false≢true h)
is (Pow a e) h = absurd (false≢true h)
is (Max a b) h = is_max_lem

pub has_max_is_reached : (at : ℕ → Node) → Falls at → (r : ℕ) → (has_max at r ≡ true) ↔ ReachesMax at r
has_max_is_reached at falls r =
    let law = reaches_is_reached is_max at falls r in
    (λ h. let (j, q, m) = law.0 h in (j, q, is (at j) m), λ (j, q, m). law.1 (j, q, met m))
