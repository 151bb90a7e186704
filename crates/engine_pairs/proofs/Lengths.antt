-- What is known of two expansions that are given.
-- Assumes nothing.
use Rattle.std.specs.Prelude.{Result, Ok, Err}
use mathlib.Core.Path.{◌≡◌, refl, ap}
use mathlib.Core.Bool.{Bool, true, false, ◌&&◌}
use mathlib.Core.List.{List}
use Prim.Native.Nat.{ℕ, ◌≤◌}
use Rattle.refusals.specs.Refusals.{broken_pool, unknown_node, wrong_order}
use Rattle.refusals.specs.Demand.{demand}
use Rattle.pool.specs.Nodes.{all_below}
use Rattle.pool.specs.Pool.{Pool, limit, is_pool}
use Rattle.taylor.specs.Expansion.{Expansion}
use Rattle.lent.specs.Call.{lent_pool}
use Rattle.lent.specs.Lent.{demanded}
use Rattle.lent.proofs.Finishing.{and_left, and_right}
use Rattle.lent.proofs.Calling.{is_met, taken_small}
use Rattle.lent_series.specs.declared.series.Series.{Series}
use Rattle.lent_series.specs.Series.{length_ok}
use Rattle.lent_series.proofs.Numbers.{nodes}
use Rattle.engine_pairs.specs.Pairs.{lengths_ok}
use Rattle.engine_pairs.specs.declared.binary.Binary.{Binary}
use Rattle.engine_pairs.specs.declared.binary.Binary.TheVariants as binary

-- one that has no length is enough, whatever the operation
pub one_fails : (op : Binary) (s t : Series) → (length_ok s && length_ok t) ≡ false → lengths_ok op s t ≡ false
one_fails binary.Add s t h = h
one_fails binary.Sub s t h = h
one_fails binary.Mul s t h = h
one_fails binary.Div s t h = h
one_fails binary.Max s t h = h
one_fails binary.Subst s t h = rw h refl

-- numbers below the count of what was taken in are nodes
module _ (ks ws : List ℕ) (n : ℕ) (P : Pool) (xs ys : List ℕ) (taken : P ≡ lent_pool ks ws n) (tested : Ok tt ≡ demanded (is_pool ks ws n) broken_pool) where
  both : Ok tt ≡ demanded (all_below P.count xs && all_below P.count ys) unknown_node → (all_below P.count xs && all_below P.count ys) ≡ true
  both = is_met (all_below P.count xs && all_below P.count ys) unknown_node

  small : P.count ≤ limit
  small = taken_small ks ws n P taken tested

  pub left_fits : Ok tt ≡ demanded (all_below P.count xs && all_below P.count ys) unknown_node → all_below limit xs ≡ true
  left_fits given = nodes P.count xs small (and_left (all_below P.count xs) _ (both given))

  pub right_fits : Ok tt ≡ demanded (all_below P.count xs && all_below P.count ys) unknown_node → all_below limit ys ≡ true
  right_fits given = nodes P.count ys small (and_right (all_below P.count xs) _ (both given))

-- the expansions that were accepted are those that are given
pub accepted_two : (t : Bool) (x y a b : Expansion) → ◌≡◌ {A = Result (Expansion × Expansion) ℕ} (Ok (x, y)) (demand Err t wrong_order (Ok (a, b))) → (t ≡ true) × (x ≡ a) × (y ≡ b)
accepted_two true x y a b e =
    let both : ◌≡◌ {A = Expansion × Expansion} (x, y) (a, b) = cc in
    (refl, ap (λ (p : Expansion × Expansion). p.0) both, ap (λ (p : Expansion × Expansion). p.1) both)
accepted_two false x y a b e = cc
