-- The rules of the pool taken apart and put together: the tests of `is_pool` as facts about each entry, and what they say of every node that can be read.
-- Assumes nothing.
use mathlib.Core.Path.{◌≡◌, refl, sym, ◌∙◌}
use mathlib.Core.Logic.{◌⊎◌, inl, inr}
use mathlib.Core.Bool.{Bool, true, false, ◌&&◌, and-eq-true_iff, cond}
use mathlib.Core.List.{List, [], ◌∷◌}
use Prim.Native.Nat.{ℕ, zero, suc, ◌≤◌, ◌<◌}
use native.Mathlib.Nat.{eq-or-lt_of_le}
use native.Mathlib.Omega.{arith}
use lib.Dec.{leb, ltb, eqb}
use lib.ListN.{length, get_or, replicate, length-replicate, get_or-replicate}
use borrow.Author.Tests.{ltb-true, ltb-false, leb-true, eqb-true, lt-ltb, le-ltb, le-leb, eq-eqb}
use Rattle.pool.specs.declared.node.Node.{Node}
use Rattle.pool.specs.declared.node.Node.TheVariants.{Empty}
use Rattle.pool.specs.Nodes.{decode, parts, all_below, is_node, may_stand_at}
use Rattle.pool.specs.Pool.{Pool, pool, limit, node_at, node_in, entry_keeps, each, is_pool}
use Rattle.constructor_laws.specs.Keeps.{Keeps}

-- ---- tests

both_true : {a b : Bool} → a ≡ true → b ≡ true → (a && b) ≡ true
both_true {a} {b} p q = (and-eq-true_iff a b).1 (p, q)

pub each_at : (m : ℕ) (test : ℕ → Bool) (i : ℕ) → i < m → each m test ≡ true → test i ≡ true
unfolding each
each_at zero test i h e = absurd (none i h)
  where
    none : (i : ℕ) → i < 0 → ⊥
    none i h = omega arith
each_at (suc m) test i h e = go (eq-or-lt_of_le (at_most i m h)) ((and-eq-true_iff (each m test) (test m)).0 e) (each_at m test i)
  where
    at_most : (i m : ℕ) → i < suc m → i ≤ m
    at_most i m h = omega arith

    go : (i ≡ m) ⊎ (i < m) → (each m test ≡ true) × (test m ≡ true) → (i < m → each m test ≡ true → test i ≡ true) → test i ≡ true
    go (inl same) both earlier = rw same both.1
    go (inr less) both earlier = earlier less both.0

pub each_of : (m : ℕ) (test : ℕ → Bool) → ((i : ℕ) → i < m → test i ≡ true) → each m test ≡ true
unfolding each
each_of zero test h = refl
each_of (suc m) test h = both_true (each_of m test (λ i l. h i (omega arith))) (h m (omega arith))

-- numbers that are all below n
abbrev pub AllBelow : ℕ → List ℕ → Type 0
AllBelow n [] = Unit {0}
AllBelow n (a ∷ more) = (a < n) × AllBelow n more

pub below_by_test : (n : ℕ) (l : List ℕ) → all_below n l ≡ true → AllBelow n l
below_by_test n [] e = tt
below_by_test n (a ∷ more) e =
    let both = (and-eq-true_iff (ltb a n) (all_below n more)).0 e in
    (ltb-true a n both.0, below_by_test n more both.1)

pub below_all : (n : ℕ) (l : List ℕ) → AllBelow n l → all_below n l ≡ true
below_all n [] h = refl
below_all n (a ∷ more) h = both_true (lt-ltb a n h.0) (below_all n more h.1)

pub all_below_more : {n m : ℕ} (l : List ℕ) → n ≤ m → AllBelow n l → AllBelow m l
all_below_more [] le h = tt
all_below_more (a ∷ more) le h = (omega (arith, h.0), all_below_more more le h.1)

-- ---- entries

-- the rules' test of entry i
abbrev pub entry_at : List ℕ → List ℕ → ℕ → ℕ → Bool
entry_at ks ws n i = entry_keeps n i (get_or ks i 0) (get_or ws i 0)

module _ (ks ws : List ℕ) (n i : ℕ) where
  -- an entry before the count is a node whose parts stand before it
  pub entry_before : i < n → entry_at ks ws n i ≡ may_stand_at i (decode (get_or ks i 0) (get_or ws i 0))
  entry_before h = rw (lt-ltb i n h)

  -- an entry from the count on is 0 in both tables
  pub entry_behind : n ≤ i → entry_at ks ws n i ≡ (eqb (get_or ks i 0) 0 && eqb (get_or ws i 0) 0)
  entry_behind h = rw (le-ltb i n h)

-- what `is_pool` tests
pub record Rules (ks ws : List ℕ) (n : ℕ) : Type 0 where
  pub kinds_long : length ks ≡ limit
  pub words_long : length ws ≡ limit
  pub within : n ≤ limit
  pub entries : (i : ℕ) → i < limit → entry_at ks ws n i ≡ true

pub rules_kept : (ks ws : List ℕ) (n : ℕ) → is_pool ks ws n ≡ true → Rules ks ws n
unfolding is_pool
rules_kept ks ws n e =
    let first = (and-eq-true_iff (eqb (length ks) limit) (eqb (length ws) limit && (leb n limit && each limit (entry_at ks ws n)))).0 e in
    let second = (and-eq-true_iff (eqb (length ws) limit) (leb n limit && each limit (entry_at ks ws n))).0 first.1 in
    let third = (and-eq-true_iff (leb n limit) (each limit (entry_at ks ws n))).0 second.1 in
    record {
      kinds_long = eqb-true (length ks) limit first.0;
      words_long = eqb-true (length ws) limit second.0;
      within = leb-true n limit third.0;
      entries = λ i h. each_at limit (entry_at ks ws n) i h third.1;
    }

pub kept_rules : (ks ws : List ℕ) (n : ℕ) → Rules ks ws n → is_pool ks ws n ≡ true
unfolding is_pool
kept_rules ks ws n r =
    both_true (eq-eqb (length ks) limit r.kinds_long) (both_true (eq-eqb (length ws) limit r.words_long) (both_true (le-leb n limit r.within) (each_of limit (entry_at ks ws n) r.entries)))

-- ---- nodes

pub rules_of : {P : Pool} → Keeps P → Rules P.kinds P.words P.count
rules_of {P} k = rules_kept P.kinds P.words P.count k.rules

-- "Each part of a node has a smaller number than the node"
pub node_stands : {P : Pool} → Keeps P → (i : ℕ) → i < P.count → may_stand_at i (node_at P i) ≡ true
unfolding node_in
node_stands {P} k i h =
    let l : i < limit = omega (arith, (rules_of k).within) in
    rw (lt-ltb i limit l) (sym (entry_before P.kinds P.words P.count i h) ∙ (rules_of k).entries i l)

-- an entry of 0 in both tables is no node
empty_entry : (k w : ℕ) → (eqb k 0 && eqb w 0) ≡ true → decode k w ≡ Empty
unfolding decode
empty_entry k w e = rw (eqb-true k 0 ((and-eq-true_iff (eqb k 0) (eqb w 0)).0 e).0)

-- from the count on there is no node
pub nothing_behind : {P : Pool} → Keeps P → (i : ℕ) → P.count ≤ i → node_at P i ≡ Empty
unfolding node_in
nothing_behind {P} k i h = go (ltb i limit) refl
  where
    go : (t : Bool) → ltb i limit ≡ t → cond t (decode (get_or P.kinds i 0) (get_or P.words i 0)) Empty ≡ Empty
    go true t = empty_entry (get_or P.kinds i 0) (get_or P.words i 0) (sym (entry_behind P.kinds P.words P.count i h) ∙ (rules_of k).entries i (ltb-true i limit t))
    go false t = refl

pub standing_parts_below : (i : ℕ) (n : Node) → may_stand_at i n ≡ true → AllBelow i (parts n)
unfolding may_stand_at
standing_parts_below i n e = below_by_test i (parts n) ((and-eq-true_iff (is_node n) (all_below i (parts n))).0 e).1

-- whatever number is read, the parts found there are below n
abbrev pub PartsBelow : ℕ → (ℕ → Node) → Type 0
PartsBelow n at = (i : ℕ) → AllBelow n (parts (at i))

pub parts_below : {P : Pool} → Keeps P → PartsBelow P.count (node_at P)
parts_below {P} k i = go (ltb i P.count) refl
  where
    go : (t : Bool) → ltb i P.count ≡ t → AllBelow P.count (parts (node_at P i))
    go true t =
        let h : i < P.count = ltb-true i P.count t in
        all_below_more (parts (node_at P i)) (omega arith) (standing_parts_below i (node_at P i) (node_stands k i h))
    go false t = rw (nothing_behind k i (ltb-false i P.count t)) tt

-- ---- there is such a pool: the empty one

unfoldable pub zeros : List ℕ
zeros = replicate limit 0

zeros_long : length zeros ≡ limit
unfolding zeros
zeros_long = length-replicate {A = ℕ} limit 0

zeros_hold_0 : (i : ℕ) → i < limit → get_or zeros i 0 ≡ 0
unfolding zeros
zeros_hold_0 i h = get_or-replicate {A = ℕ} limit i 0 0 h

pub empty_keeps : (full : ℕ) → full ≤ limit → Keeps (pool zeros zeros 0 full)
empty_keeps full h = record { rules = kept_rules zeros zeros 0 rules; end = h }
  where
    rules : Rules zeros zeros 0
    rules =
        record {
          kinds_long = zeros_long;
          words_long = zeros_long;
          within = omega arith;
          entries = λ i l. entry_behind zeros zeros 0 i (omega arith) ∙ rw (zeros_hold_0 i l);
        }
