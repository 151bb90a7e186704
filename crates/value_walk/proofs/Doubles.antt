-- Evaluation as doubles is a walk: the parts of a node come first, in their order, and a node's value goes by them alone.
-- Assumes nothing.
use Rattle.std.specs.Prelude.{◌≡◌, refl, ℕ, List, Float, Ok, Err}
use mathlib.Core.List.{Memᴰ}
use Rattle.double.specs.Double.{Valued}
use Rattle.pool.specs.Nodes.{parts}
use Rattle.pool.specs.declared.node.Node.{Node}
use Rattle.pool.specs.declared.node.Node.TheVariants.{Empty, Variable, Lit, Add, Mul, Div, Exp, Log, Pow, Max}
use Rattle.walks.specs.Evaluate.{one, both, evaluate_node}
use Rattle.value_walk.specs.Walk.{after, in_turn, NodeLaws}

one_again : (v : Valued) (next : Float → Valued) → one v next ≡ after v (one v next)
one_again (Ok x) next = refl
one_again (Err k) next = refl

both_again : (v w : Valued) (next : Float → Float → Valued) → both v w next ≡ after v (after w (both v w next))
both_again (Ok x) (Ok y) next = refl
both_again (Ok x) (Err k) next = refl
both_again (Err k) w next = refl

module _ (values : List Float) where
  parts_first : (down : ℕ → Valued) (n : Node) → evaluate_node values down n ≡ in_turn down (parts n) (evaluate_node values down n)
  parts_first down Empty = refl
  parts_first down (Variable v) = refl
  parts_first down (Lit z) = refl
  parts_first down (Add a b) = both_again (down a) (down b) _
  parts_first down (Mul a b) = both_again (down a) (down b) _
  parts_first down (Div a b) = both_again (down a) (down b) _
  parts_first down (Exp a) = one_again (down a) _
  parts_first down (Log a) = one_again (down a) _
  parts_first down (Pow a e) = one_again (down a) _
  parts_first down (Max a b) = both_again (down a) (down b) _

  pub goes_by_parts : (down down' : ℕ → Valued) (n : Node) → ((a : ℕ) → Memᴰ a (parts n) → down a ≡ down' a) → evaluate_node values down n ≡ evaluate_node values down' n
  goes_by_parts down down' Empty same = refl
  goes_by_parts down down' (Variable v) same = refl
  goes_by_parts down down' (Lit z) same = refl
  goes_by_parts down down' (Add a b) same = rw (same a (Memᴰ.head refl), same b (Memᴰ.tail (Memᴰ.head refl)))
  goes_by_parts down down' (Mul a b) same = rw (same a (Memᴰ.head refl), same b (Memᴰ.tail (Memᴰ.head refl)))
  goes_by_parts down down' (Div a b) same = rw (same a (Memᴰ.head refl), same b (Memᴰ.tail (Memᴰ.head refl)))
  goes_by_parts down down' (Exp a) same = rw (same a (Memᴰ.head refl))
  goes_by_parts down down' (Log a) same = rw (same a (Memᴰ.head refl))
  goes_by_parts down down' (Pow a e) same = rw (same a (Memᴰ.head refl))
  goes_by_parts down down' (Max a b) same = rw (same a (Memᴰ.head refl), same b (Memᴰ.tail (Memᴰ.head refl)))

  pub laws : NodeLaws (evaluate_node values) (λ x. Unit)
  laws =
      record {
        empty = λ down. refl;
        parts_first = parts_first;
        by_parts = goes_by_parts;
        fit = λ down n x e. tt;
      }
