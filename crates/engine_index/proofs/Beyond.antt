-- "From 19! on the answer is 12, unless 18 or one of 1 to 9 comes first", of the call: a list's derivative of order 19 or more, which none of 1, 2 and 5 refuses, is 12 with room for 36 literals and 18 with less; nothing lent has moved.
-- Assumes nothing.
use Rattle.std.specs.Prelude.{Ok, Err}
use mathlib.Core.Path.{◌≡◌, refl, ap}
use mathlib.Core.Bool.{true, false}
use mathlib.Core.List.{List}
use Prim.Native.Nat.{ℕ, ◌≤◌}
use lib.ListN.{take}
use Rattle.pool.specs.Nodes.{all_below}
use Rattle.pool.specs.Pool.{is_pool}
use Rattle.taylor_derivative.specs.Beyond.{refused_from19}
use Rattle.taylor_derivative.proofs.Factorials.{Long}
use Rattle.taylor_derivative.proofs.Beyond.{derivative_from_19}
use Rattle.lent.specs.Call.{returned, leaves, lent_pool, on_pool}
use Rattle.lent.proofs.Finishing.{pool_sized}
use Rattle.lent_series.specs.declared.series.Series.{Series}
use Rattle.lent_series.specs.Series.{is_constant, nodes_of}
use Rattle.engine_index.specs.Indices.{has_index, derivative_call}

pub derivative_call_from_19 :
    (ks ws : List ℕ) (n : ℕ) (s : Series) (k : ℕ) → is_pool ks ws n ≡ true → all_below n (nodes_of s) ≡ true → has_index s k ≡ true → is_constant s ≡ false → 19 ≤ k
    → on_pool (derivative_call s k) ks ws n ≡ returned (Err (refused_from19 n)) ks ws n
derivative_call_from_19 ks ws n s k p nodes index list h =
    let sized = pool_sized ks ws n p in
    let long : Long (lent_pool ks ws n) = record { kinds_long = sized.kinds_long; words_long = sized.words_long } in
    rw (p, nodes, index, list) (ap (leaves Ok Err ks ws n) (derivative_from_19 (take s.order s.coeffs) k (lent_pool ks ws n) long refl h))
