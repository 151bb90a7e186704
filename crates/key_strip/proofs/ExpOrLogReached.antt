-- "16 covers a reachable Exp or Log here": the search for one finds one exactly where one is reachable.
-- Assumes nothing.
use mathlib.Core.Path.{◌≡◌, refl}
use mathlib.Core.Logic.{◌↔◌}
use mathlib.Core.Bool.{true, false≢true}
use Prim.Native.Nat.{ℕ}
use Rattle.pool.specs.Reaches.{is_exp_or_log}
use Rattle.pool.specs.declared.node.Node.{Node}
use Rattle.pool.specs.declared.node.Node.TheVariants.{Empty, Variable, Lit, Add, Mul, Div, Exp, Log, Pow, Max}
use Rattle.shape.specs.Walked.{Falls}
use Rattle.shape.proofs.Reached.{reaches_is_reached}
use Rattle.key_strip.specs.Strip.{has_exp_or_log}
use Rattle.key_strip.specs.Reached.{IsExpOrLog, is_exp, is_log, ReachesExpOrLog}

-- the test by the kind's number
met : {n : Node} → IsExpOrLog n → is_exp_or_log n ≡ true
met is_exp = refl
met is_log = refl

is : (n : Node) → is_exp_or_log n ≡ true → IsExpOrLog n
is Empty h = absurd (false≢true h)
is (Variable v) h = absurd (false≢true h)
is (Lit z) h = absurd (false≢true h)
is (Add a b) h = absurd (false≢true h)
is (Mul a b) h = absurd (false≢true h)
is (Div a b) h = absurd (false≢true h)
is (Exp a) h = is_exp
is (Log a) h = is_log
is (Pow a e) h = absurd (false≢true h)
is (Max a b) h = absurd (false≢true h)

pub has_exp_or_log_is_reached : (at : ℕ → Node) → Falls at → (r : ℕ) → (has_exp_or_log at r ≡ true) ↔ ReachesExpOrLog at r
has_exp_or_log_is_reached at falls r =
    let law = reaches_is_reached is_exp_or_log at falls r in
    (λ h. let (j, q, m) = law.0 h in (j, q, is (at j) m), λ (j, q, m). law.1 (j, q, met m))
