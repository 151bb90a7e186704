-- What a constructor promises of a pool that keeps the rules of document 01: the pool that it leaves keeps them too, and has the node that it answers.
-- Assumes nothing.
use Rattle.std.specs.Prelude.{◌≡◌, true, ℕ, ◌≤◌, ◌<◌}
use Rattle.pool.specs.Pool.{Pool, Out, done, refused, limit, is_pool}
use Rattle.constructor_laws.specs.Grown.{Grown}

-- a pool by the rules, full at the limit or before
pub record Keeps (P : Pool) : Type 0 where
  pub rules : is_pool P.kinds P.words P.count ≡ true
  pub end : P.end ≤ limit

-- Q is P with some nodes appended by the rules, and i is a node of it
pub record Kept (P : Pool) (i : ℕ) (Q : Pool) : Type 0 where
  pub grown : Grown P Q
  pub keeps : Keeps Q
  pub there : i < Q.count

abbrev pub KeptBy : Pool → Out → Type 0
KeptBy P (done i Q) = Kept P i Q
KeptBy P (refused k) = Unit {0}
