-- What work may do to a pool: it appends, and leaves everything else as it was.
-- Assumes nothing.
use Rattle.std.specs.Prelude.{◌≡◌, List, ℕ, ◌≤◌, length, take, drop}
use Rattle.pool.specs.Pool.{Pool, Result, done, refused, limit}

-- two tables have the same length and the same entries, but perhaps for those from `first` up to, not including, `last`
pub record SameBut (first last : ℕ) (old new : List ℕ) : Type 0 where
  pub before : take first new ≡ take first old
  pub behind : drop last new ≡ drop last old
  pub long : length new ≡ length old

-- Q is P with some nodes appended, or none
pub record Grown (P Q : Pool) : Type 0 where
  pub no_fewer : P.count ≤ Q.count
  pub kinds : SameBut P.count Q.count P.kinds Q.kinds
  pub words : SameBut P.count Q.count P.words Q.words
  pub end : Q.end ≡ P.end
  pub within : P.count ≤ limit → Q.count ≤ limit

-- the state that accepted work leaves stands in R to the one that it found
abbrev pub Goes : {S A : Type 0} → (S → S → Type 0) → S → Result S A → Type 0
Goes R s (done x t) = R s t
Goes R s (refused k) = Unit {0}

-- the pool that an accepted answer leaves has grown from P
abbrev pub Grows : {A : Type 0} → Pool → Result Pool A → Type 0
Grows P r = Goes Grown P r
