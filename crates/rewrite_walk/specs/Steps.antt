-- What is done at a node, in steps: its parts in their order, and then one step that is given their results. It describes the code, and is no part of what a walk means.
-- Assumes nothing.
use Rattle.std.specs.Prelude.{ℕ, Result, Ok, Err}
use Rattle.refusals.specs.Numbers.{number}
use Rattle.refusals.specs.declared.Refusal.{Refusal}
use Rattle.pool.specs.Pool.{node_at}
use Rattle.pool.specs.declared.node.Node.{Node}
use Rattle.walks.specs.Walk.{Walk, ◌>>=◌, refuse}
use Rattle.rewrite_walk.specs.declared.Work.{Work}
use Rattle.rewrite_walk.specs.declared.Work.TheVariants.{Leaf, One, Two}

abbrev pub after_one : (ℕ → Walk) → ℕ → (ℕ → Walk) → Walk
after_one down a step = do
  x ← down a
  step x

-- left before right
abbrev pub after_two : (ℕ → Walk) → ℕ → ℕ → (ℕ → ℕ → Walk) → Walk
after_two down a b step = do
  x ← down a
  y ← down b
  step x y

abbrev pub in_steps : {L O T : Type 0} → (ℕ → Walk) → (L → Walk) → (O → ℕ → ℕ → Walk) → (T → ℕ → ℕ → ℕ → ℕ → Walk) → Result (Work L O T) Refusal → Walk
in_steps down leaf one two (Err r) = refuse (number r)
in_steps down leaf one two (Ok (Leaf l)) = leaf l
in_steps down leaf one two (Ok (One op a)) = after_one down a (one op a)
in_steps down leaf one two (Ok (Two op a b)) = after_two down a b (two op a b)

-- what is done at a number goes by the node that stands there
abbrev pub rewrite_at : ((ℕ → Walk) → ℕ → Node → Walk) → (ℕ → Walk) → ℕ → Walk
rewrite_at node down term S = node down term (node_at S.pool term) S
