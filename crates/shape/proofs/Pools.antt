-- Pools that keep the rules: the test of 1 as facts, what nodes the tables then hold, and that the empty pool is one.
-- Assumes nothing.
use mathlib.Core.Path.{◌≡◌, refl, ap, ◌∙◌, subst, subst⁻¹}
use mathlib.Core.Logic.{⊎_elim}
use mathlib.Core.Bool.{Bool, true, false, ◌&&◌, cond}
use mathlib.Core.List.{List}
use Prim.Native.Nat.{ℕ, ◌^◌, ◌<◌, ◌≤◌}
use native.Mathlib.Nat.{not-suc-le-zero}
use native.Mathlib.Omega.{arith}
use lib.Dec.{leb, eqb}
use lib.ListN.{length, get_or, replicate, length-replicate, get_or-replicate, get_or-eq_default}
use borrow.Author.Tests.{lt-ltb, le-ltb, le-leb, leb-true, eq-eqb, eqb-true}
use Rattle.pool.specs.Nodes.{decode, parts, is_node, all_below, may_stand_at}
use Rattle.pool.specs.Pool.{limit, Pool, empty, node_in, node_at, entry_keeps, is_pool}
use Rattle.pool.specs.declared.node.Node.TheVariants.{Empty}
use Rattle.shape.specs.Demand.{KeepsRules}
use Rattle.shape.specs.Walked.{Falls}
use Rattle.shape.proofs.Lists.{All, all_none, below_or_not}
use Rattle.shape.proofs.Tests.{and_left, and_right, and_both, each_holds, each_of, all_below_lem}
use Rattle.shape.proofs.TableOfKinds.{Valid, decoded}

-- the rules of 01 as facts
pub record Rules (ks ws : List ℕ) (n : ℕ) : Type 0 where
  pub kinds_long : length ks ≡ limit
  pub words_long : length ws ≡ limit
  pub count_fits : n ≤ limit
  pub stands : (i : ℕ) → i < n → may_stand_at i (decode (get_or ks i 0) (get_or ws i 0)) ≡ true
  pub free : (i : ℕ) → n ≤ i → i < limit → (get_or ks i 0 ≡ 0) × (get_or ws i 0 ≡ 0)

-- what is tested of an entry with or without a node
abbrev Keeps : Bool → ℕ → ℕ → ℕ → Type 0
Keeps t i k w = cond t (may_stand_at i (decode k w)) (eqb k 0 && eqb w 0) ≡ true

module _ (ks ws : List ℕ) (n : ℕ) where
  pub rules_of_test : is_pool ks ws n ≡ true → Rules ks ws n
  unfolding is_pool
  rules_of_test h =
      let h₂ = and_right (eqb (length ks) limit) _ h in
      let h₃ = and_right (eqb (length ws) limit) _ h₂ in
      let entry : (i : ℕ) → i < limit → entry_keeps n i (get_or ks i 0) (get_or ws i 0) ≡ true = each_holds limit _ (and_right (leb n limit) _ h₃) in
      let fits : n ≤ limit = leb-true n limit (and_left (leb n limit) _ h₃) in
      record {
        kinds_long = eqb-true (length ks) limit (and_left (eqb (length ks) limit) _ h);
        words_long = eqb-true (length ws) limit (and_left (eqb (length ws) limit) _ h₂);
        count_fits = fits;
        stands = λ i l. subst (λ t. Keeps t i (get_or ks i 0) (get_or ws i 0)) (lt-ltb i n l) (entry i (omega arith));
        free = λ i l m.
            let both : Keeps false i (get_or ks i 0) (get_or ws i 0) = subst (λ t. Keeps t i (get_or ks i 0) (get_or ws i 0)) (le-ltb i n l) (entry i m) in
            (eqb-true (get_or ks i 0) 0 (and_left (eqb (get_or ks i 0) 0) (eqb (get_or ws i 0) 0) both), eqb-true (get_or ws i 0) 0 (and_right (eqb (get_or ks i 0) 0) (eqb (get_or ws i 0) 0) both));
      }

  pub test_of_rules : Rules ks ws n → is_pool ks ws n ≡ true
  unfolding is_pool
  test_of_rules r =
      and_both (eqb (length ks) limit) _ (eq-eqb (length ks) limit r.kinds_long)
      (and_both (eqb (length ws) limit) _ (eq-eqb (length ws) limit r.words_long)
      (and_both (leb n limit) _ (le-leb n limit r.count_fits)
      (each_of limit _ (λ i m.
      ⊎_elim
      (λ l. subst⁻¹ (λ t. Keeps t i (get_or ks i 0) (get_or ws i 0)) (lt-ltb i n l) (r.stands i l))
      (λ l. subst⁻¹ (λ t. Keeps t i (get_or ks i 0) (get_or ws i 0)) (le-ltb i n l)
      (and_both (eqb (get_or ks i 0) 0) (eqb (get_or ws i 0) 0) (eq-eqb (get_or ks i 0) 0 (r.free i l m).0) (eq-eqb (get_or ws i 0) 0 (r.free i l m).1)))
      (below_or_not i n)))))

  module _ (r : Rules ks ws n) where
    pub node_stands : (i : ℕ) → i < n → may_stand_at i (node_in ks ws i) ≡ true
    unfolding node_in
    node_stands i l = let fits : n ≤ limit = r.count_fits in rw (lt-ltb i limit (omega arith)) (r.stands i l)

    -- past the count there is no node
    pub node_free : (i : ℕ) → n ≤ i → node_in ks ws i ≡ Empty
    unfolding node_in decode
    node_free i l =
        ⊎_elim
        (λ m. ap (λ t. cond t (decode (get_or ks i 0) (get_or ws i 0)) Empty) (lt-ltb i limit m) ∙ ap (λ k. decode k (get_or ws i 0)) (r.free i l m).0)
        (λ m. ap (λ t. cond t (decode (get_or ks i 0) (get_or ws i 0)) Empty) (le-ltb i limit m))
        (below_or_not i limit)

    pub node_falls : Falls (node_in ks ws)
    unfolding may_stand_at
    node_falls i =
        ⊎_elim
        (λ l. all_below_lem i (parts (node_in ks ws i)) (and_right (is_node (node_in ks ws i)) (all_below i (parts (node_in ks ws i))) (node_stands i l)))
        (λ l. subst⁻¹ (λ e. All (λ j. j < i) (parts e)) (node_free i l) (all_none (λ j. j < i)))
        (below_or_not i n)

    pub node_valid : ((i : ℕ) → get_or ws i 0 < 2 ^ 64) → (i : ℕ) → i < n → Valid (node_in ks ws i)
    unfolding may_stand_at node_in
    node_valid fit i l =
        let fits : n ≤ limit = r.count_fits in
        rw (lt-ltb i limit (omega arith))
        (decoded (get_or ks i 0) (get_or ws i 0) (fit i) (and_left (is_node (decode (get_or ks i 0) (get_or ws i 0))) (all_below i (parts (decode (get_or ks i 0) (get_or ws i 0)))) (r.stands i l))).0

pub rules_of : (P : Pool) → KeepsRules P → Rules P.kinds P.words P.count
rules_of P k = rules_of_test P.kinds P.words P.count k.rules

pub falls_in : (P : Pool) → KeepsRules P → Falls (node_at P)
falls_in P k = node_falls P.kinds P.words P.count (rules_of P k)

pub valid_in : (P : Pool) → KeepsRules P → (i : ℕ) → i < P.count → Valid (node_at P i)
valid_in P k = node_valid P.kinds P.words P.count (rules_of P k) k.words_fit

zeros : ℕ → List ℕ
zeros m = replicate m 0

zero_at_lem : (m i : ℕ) → get_or (zeros m) i 0 ≡ 0
unfolding zeros
zero_at_lem m i =
    ⊎_elim (λ l. get_or-replicate m i 0 0 l) (λ l. get_or-eq_default (zeros m) 0 (rw (length-replicate {A = ℕ} m 0) l)) (below_or_not i m)

zero_tables : (m : ℕ) → m ≡ limit → Rules (zeros m) (zeros m) 0
unfolding zeros
zero_tables m e =
    record {
      kinds_long = length-replicate m 0 ∙ e;
      words_long = length-replicate m 0 ∙ e;
      count_fits = omega arith;
      stands = λ i l. absurd (not-suc-le-zero l);
      free = λ i l n. (zero_at_lem m i, zero_at_lem m i);
    }

pub empty_keeps_rules : KeepsRules empty
unfolding zeros empty
empty_keeps_rules =
    record {
      rules = test_of_rules (zeros limit) (zeros limit) 0 (zero_tables limit refl);
      words_fit = λ i. subst⁻¹ (λ x. x < 2 ^ 64) (zero_at_lem limit i) (omega arith);
    }
