-- Every walk keeps the rules of the pool and answers a node of it, if what it does at a node does: the law of walks, where the aim is to be there.
-- Assumes nothing.
use Prim.Native.Nat.{ℕ, ◌≤◌, ◌<◌}
use native.Mathlib.Nat.{le_refl}
use native.Mathlib.Omega.{arith}
use Rattle.pool.specs.Pool.{Pool, Run}
use Rattle.constructor_laws.specs.Keeps.{Keeps, KeptBy}
use Rattle.constructor_laws.proofs.Giving.{standing, kept_gives, gives_kept}
use Rattle.constructor_laws.proofs.Keeping as runs
use Rattle.walks.specs.Walk.{State, Walk, bind, yield, refuse, lift, walk_from}
use Rattle.walk_laws.proofs.Walking.{Good, Walked, ended_walk, Walks, walked_next, walked_here, lift_walked, walk_gives}

module _ (P₀ : Pool) where
  -- a walk that keeps the rules of every pool that has grown from P₀ and has n nodes or more
  pub record Keeping (n : ℕ) (walk : Walk) : Type 0 where
    pub kept : (S : State) → Good standing P₀ (λ j. tt) S → n ≤ S.pool.count → Walked standing P₀ (λ j. tt) S tt (walk S)

  -- a walk from each node of P₀
  abbrev pub KeepsFrom : (ℕ → Walk) → Type 0
  KeepsFrom walk = Walks standing P₀ (λ j. tt) (λ i. i < P₀.count) walk

module _ {P₀ : Pool} where
  pub yield_keeps : {n i : ℕ} → i < n → Keeping P₀ n (yield i)
  yield_keeps h = record { kept = λ S good more. walked_here good (omega arith) }

  pub refuse_keeps : {n : ℕ} (k : ℕ) → Keeping P₀ n (refuse k)
  refuse_keeps k = record { kept = λ S good more. ended_walk }

  -- one step, and then another that may use its node
  pub next_keeps : {n : ℕ} {walk : Walk} {next : ℕ → Walk} → Keeping P₀ n walk → ((m a : ℕ) → n ≤ m → a < m → Keeping P₀ m (next a)) → Keeping P₀ n (λ S. bind (walk S) next)
  next_keeps first then =
      record { kept = λ S good more. walked_next (first.kept S good more) (λ a T good_T g h. (then T.pool.count a (omega (arith, g.no_fewer)) h).kept T good_T (le_refl T.pool.count)) }

  -- a constructor called by a walk
  pub lift_keeps : {n : ℕ} {run : Run} → runs.Keeping n run → Keeping P₀ n (lift run)
  lift_keeps {run = run} w = record { kept = λ S good more. lift_walked run good (kept_gives (run S.pool) (w.kept S.pool good.keeps more)) }

  -- the walk of a part
  pub part_keeps : {n a : ℕ} {down : ℕ → Walk} → KeepsFrom P₀ down → a < P₀.count → Keeping P₀ n (down a)
  part_keeps {a = a} keeps h = record { kept = λ S good more. keeps a h S good }

  -- the walks of two parts, left before right, and then a step that may use both results
  pub parts_keep :
      {n a b : ℕ} {down : ℕ → Walk} {next : ℕ → ℕ → Walk}
      → KeepsFrom P₀ down
      → (a < P₀.count) × (b < P₀.count)
      → ((m x y : ℕ) → n ≤ m → x < m → y < m → Keeping P₀ m (next x y))
      → Keeping P₀ n (λ S. bind (down a S) (λ x T. bind (down b T) (λ y. next x y)))
  parts_keep keeps (la, lb) next =
      next_keeps (part_keeps keeps la) (λ m x more lx. next_keeps (part_keeps keeps lb) (λ m' y more' ly. next m' x y (omega arith) (omega arith) ly))

  -- a whole walk
  pub walk_kept :
      {visit : (ℕ → Walk) → ℕ → Walk} → ((down : ℕ → Walk) → KeepsFrom P₀ down → KeepsFrom P₀ (visit down)) → (root : ℕ) → Keeps P₀ → root < P₀.count → KeptBy P₀ (walk_from visit root P₀)
  walk_kept at root k h = gives_kept (walk_gives at k root h)
