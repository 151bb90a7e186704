-- The numbers of a series: how many are given, and whether all are below the count.
-- Assumes nothing.
use Rattle.std.specs.Prelude.{IsTrue, EachIndex, Ok}
use Rattle.std.proofs.Common.{append_assoc, add-one, get_or-take}
use Rattle.std.proofs.Math.Seq.{take-suc, set-append_seam}
use mathlib.Core.Bool.{Bool, true, false, ◌&&◌}
use mathlib.Core.Path.{◌≡◌, refl, sym, ap, ◌∙◌}
use mathlib.Core.Logic.{◌≢◌, ◌↔◌}
use mathlib.Core.List.{List, [], ◌∷◌, ◌++◌}
use Prim.Native.Nat.{ℕ, zero, suc, ◌+◌, ◌-◌, ◌≤◌, ◌<◌}
use native.Mathlib.Nat.{min-eq_left}
use native.Mathlib.Omega.{arith}
use lib.Dec.{leb, ltb}
use lib.ListN.{length, get_or, take, set, replicate}
use lib.Seq.{length-take-le}
use borrow.Author.Tests.{leb-true, lt-ltb, ltb-true, ne_eqb}
use Rattle.refusals.specs.Refusals.{broken_pool, unknown_node}
use Rattle.pool.specs.Nodes.{all_below}
use Rattle.pool.specs.Pool.{Pool, limit, is_pool}
use Rattle.taylor.specs.Coefficients.{terms}
use Rattle.taylor.specs.Expansion.{endless}
use Rattle.lent.specs.Call.{lent_pool}
use Rattle.lent.specs.Lent.{demanded}
use Rattle.lent.proofs.Calling.{is_met, taken_small}
use Rattle.lent_series.specs.Series.{entries, nodes_of, length_ok}
use Rattle.lent_series.specs.declared.series.Series.{Series}

and_left : (a b : Bool) → (a && b) ≡ true → a ≡ true
and_left true b e = refl
and_left false b e = e

and_right : (a b : Bool) → (a && b) ≡ true → b ≡ true
and_right true b e = e
and_right false b e = cc

module _ (n : ℕ) where
  all_are_below : (cs : List ℕ) → EachIndex cs (λ i. get_or cs i 0 < n) → all_below n cs ≡ true
  all_are_below [] h = refl
  all_are_below (c ∷ cs) h = rw (lt-ltb c n (h 0 (omega arith)), all_are_below cs (λ i k. h (suc i) (omega arith))) refl

  each_is_below : (cs : List ℕ) → all_below n cs ≡ true → EachIndex cs (λ i. get_or cs i 0 < n)
  each_is_below [] h i k = absurd (omega arith)
  each_is_below (c ∷ cs) h zero k = ltb-true c n (and_left (ltb c n) _ h)
  each_is_below (c ∷ cs) h (suc i) k = each_is_below cs (and_right (ltb c n) _ h) i (omega arith)

  -- a test of each number is the test of all
  pub all_told : (cs : List ℕ) (r : Bool) → IsTrue r ↔ EachIndex cs (λ i. get_or cs i 0 < n) → r ≡ all_below n cs
  all_told cs true h = sym (all_are_below cs (h.0 refl))
  all_told cs false h = go (all_below n cs) refl
    where
      go : (t : Bool) → all_below n cs ≡ t → false ≡ t
      go true e = h.1 (each_is_below cs e)
      go false e = refl

-- more than a count that the pool may have
pub nodes : (n : ℕ) (cs : List ℕ) → n ≤ limit → all_below n cs ≡ true → all_below limit cs ≡ true
nodes n cs small h = all_are_below limit cs (λ i k. more i (each_is_below n cs h i k))
  where
    more : (i : ℕ) → get_or cs i 0 < n → get_or cs i 0 < limit
    more i h = omega arith

-- numbers below the count of what was taken in are nodes
pub nodes_fit : (ks ws : List ℕ) (n : ℕ) (P : Pool) (cs : List ℕ) → P ≡ lent_pool ks ws n → Ok tt ≡ demanded (is_pool ks ws n) broken_pool → Ok tt ≡ demanded (all_below P.count cs) unknown_node → all_below limit cs ≡ true
nodes_fit ks ws n P cs taken tested given = nodes P.count cs (taken_small ks ws n P taken tested) (is_met (all_below P.count cs) unknown_node given)

-- what has a length and is no constant is a list of 1 to 25 entries
pub listed : (s : Series) → length_ok s ≡ true → s.order ≢ endless → (1 ≤ s.order) × (s.order ≤ terms)
listed s h list =
    let both : (leb 1 s.order && leb s.order terms) ≡ true = rw (ne_eqb s.order endless list) at h in
    (leb-true 1 s.order (and_left (leb 1 s.order) _ both), leb-true s.order terms (and_right (leb 1 s.order) _ both))

-- a node number that is given is a node's
module _ (s : Series) (long : length s.coeffs ≡ terms) (h : all_below limit (nodes_of s) ≡ true) where
  entry_is : (m i : ℕ) (cs : List ℕ) → i < m → get_or (take m cs) i 0 ≡ get_or cs i 0
  entry_is m i cs l = get_or-take m cs i 0 l

  each_node : (i : ℕ) → i < entries s → entries s ≤ terms → get_or s.coeffs i 0 < limit
  each_node i l m =
      let k : i < length (take (entries s) s.coeffs) = omega (arith, length-take-le (entries s) s.coeffs (omega (arith, long))) in
      rw (entry_is (entries s) i s.coeffs l) at (each_is_below limit (nodes_of s) h i k)

  pub list_node : s.order ≢ endless → s.order ≤ terms → (i : ℕ) → i < s.order → get_or s.coeffs i 0 < limit
  list_node list m i l =
      let few : entries s ≡ s.order = rw (ne_eqb s.order endless list) (min-eq_left m) in
      each_node i (omega arith) (omega arith)

-- the entries of a list before a number, and zeros past them; one entry more
pub filled_more : (cs : List ℕ) (m k : ℕ) → k < length cs → k < m → set (take k cs ++ replicate (m - k) 0) k (get_or cs k 0) ≡ take (k + 1) cs ++ replicate (m - (k + 1)) 0
filled_more cs m k h l =
    let rest : replicate {A = ℕ} (m - k) 0 ≡ 0 ∷ replicate (m - (k + 1)) 0 = ap (λ (n : ℕ). replicate {A = ℕ} n 0) (less m k l) in
    let size : length (take k cs) ≡ k = length-take-le k cs (omega arith) in
    rw rest (
    ap (λ (n : ℕ). set (take k cs ++ (0 ∷ replicate (m - (k + 1)) 0)) n (get_or cs k 0)) (sym size)
    ∙ set-append_seam (take k cs) 0 (replicate (m - (k + 1)) 0) (get_or cs k 0)
    ∙ sym (rw (add-one k, take-suc cs k 0 h, append_assoc) refl))
  where
    less : (m k : ℕ) → k < m → m - k ≡ suc (m - (k + 1))
    less m k l = omega arith
