-- Appending: a node of the table whose parts are there keeps the rules of the pool, stands at the count, and leaves the old nodes; so do n of them one after the other.
-- Assumes nothing.
use mathlib.Core.Path.{◌≡◌, refl, sym, ap, ap₂, ◌∙◌, subst⁻¹}
use mathlib.Core.Logic.{◌⊎◌, inl, inr, ⊎_elim}
use mathlib.Core.Bool.{true, false, cond}
use Prim.Native.Nat.{ℕ, zero, suc, ◌+◌, ◌^◌, ◌<◌, ◌≤◌}
use native.Mathlib.Nat.{not-suc-le-zero}
use native.Mathlib.Omega.{arith}
use lib.Dec.{ltb}
use lib.ListN.{get_or, set, length-set}
use lib.Seq.{get_or-set_same, get_or-set_other}
use borrow.Author.Tests.{lt-ltb, ltb-true}
use Rattle.refusals.specs.Refusals.{pool_full}
use Rattle.pool.specs.Nodes.{decode, kind_of, word_of, parts, is_node, all_below, may_stand_at}
use Rattle.pool.specs.Pool.{limit, Pool, pool, node_in, node_at, done, refused, has_room, append, bind}
use Rattle.pool.specs.declared.node.Node.{Node}
use Rattle.pool.specs.declared.node.Node.TheVariants.{Empty}
use Rattle.shape.specs.File.{append_first}
use Rattle.shape.specs.Demand.{KeepsRules, HasRoom}
use Rattle.shape.proofs.Lists.{All, same_or_not, below_or_not, not_true_false}
use Rattle.shape.proofs.Tests.{and_left, and_right, and_both, below_all}
use Rattle.shape.proofs.TableOfKinds.{Valid, decode_own, word_fits, valid_is_node}
use Rattle.shape.proofs.Pools.{Rules, test_of_rules, rules_of}

-- the pool with one node more
abbrev pub grown : Node → Pool → Pool
grown e P = pool (set P.kinds P.count (kind_of e)) (set P.words P.count (word_of e)) (P.count + 1) P.end

pub append_done : (e : Node) (P : Pool) → P.count < P.end → P.count < limit → append e P ≡ done P.count (grown e P)
unfolding append
append_done e P room fits = rw (lt-ltb P.count P.end room, lt-ltb P.count limit fits)

pub append_full : (e : Node) (P : Pool) → has_room P ≡ false → append e P ≡ refused pool_full
unfolding append
append_full e P full = rw full

module _ (e : Node) (P : Pool) (k : KeepsRules P) (v : Valid e) (lower : All (λ j. j < P.count) (parts e)) (fits : P.count < limit) where
  old : Rules P.kinds P.words P.count
  old = rules_of P k

  kind_new : get_or (set P.kinds P.count (kind_of e)) P.count 0 ≡ kind_of e
  kind_new = get_or-set_same P.kinds P.count (kind_of e) 0 (rw old.kinds_long fits)

  word_new : get_or (set P.words P.count (word_of e)) P.count 0 ≡ word_of e
  word_new = get_or-set_same P.words P.count (word_of e) 0 (rw old.words_long fits)

  kind_old : (i : ℕ) → (i ≡ P.count → ⊥) → get_or (set P.kinds P.count (kind_of e)) i 0 ≡ get_or P.kinds i 0
  kind_old i n = get_or-set_other P.kinds P.count i (kind_of e) 0 n

  word_old : (i : ℕ) → (i ≡ P.count → ⊥) → get_or (set P.words P.count (word_of e)) i 0 ≡ get_or P.words i 0
  word_old i n = get_or-set_other P.words P.count i (word_of e) 0 n

  decoded_new : decode (get_or (set P.kinds P.count (kind_of e)) P.count 0) (get_or (set P.words P.count (word_of e)) P.count 0) ≡ e
  decoded_new = ap₂ decode kind_new word_new ∙ decode_own e v

  decoded_old : (i : ℕ) → (i ≡ P.count → ⊥)
      → decode (get_or (set P.kinds P.count (kind_of e)) i 0) (get_or (set P.words P.count (word_of e)) i 0) ≡ decode (get_or P.kinds i 0) (get_or P.words i 0)
  decoded_old i n = ap₂ decode (kind_old i n) (word_old i n)

  may_stand : may_stand_at P.count e ≡ true
  unfolding may_stand_at
  may_stand = and_both (is_node e) (all_below P.count (parts e)) (valid_is_node e v) (below_all P.count (parts e) lower)

  pub grown_new : node_at (grown e P) P.count ≡ e
  unfolding node_in
  grown_new = rw (lt-ltb P.count limit fits) decoded_new

  pub grown_old : (i : ℕ) → i < P.count → node_at (grown e P) i ≡ node_at P i
  unfolding node_in
  grown_old i l = ap (λ n. cond (ltb i limit) n Empty) (decoded_old i (not_the_count i P.count l))
    where
      not_the_count : (i c : ℕ) → i < c → i ≡ c → ⊥
      not_the_count i c l e = omega arith

  pub grown_keeps_rules : KeepsRules (grown e P)
  grown_keeps_rules =
      record {
        rules = test_of_rules (grown e P).kinds (grown e P).words (P.count + 1) (record {
          kinds_long = length-set P.kinds P.count (kind_of e) ∙ old.kinds_long;
          words_long = length-set P.words P.count (word_of e) ∙ old.words_long;
          count_fits = omega arith;
          stands = λ i l.
              ⊎_elim
              (λ c. subst⁻¹ (λ j. may_stand_at j (decode (get_or (grown e P).kinds j 0) (get_or (grown e P).words j 0)) ≡ true) c (ap (may_stand_at P.count) decoded_new ∙ may_stand))
              (λ n. ap (may_stand_at i) (decoded_old i n) ∙ old.stands i (omega arith))
              (same_or_not i P.count);
          free = λ i l m. (kind_old i (past i P.count l) ∙ (old.free i (omega arith) m).0, word_old i (past i P.count l) ∙ (old.free i (omega arith) m).1);
        });
        words_fit = λ i.
            ⊎_elim
            (λ c. subst⁻¹ (λ j. get_or (grown e P).words j 0 < 2 ^ 64) c (subst⁻¹ (λ w. w < 2 ^ 64) word_new (word_fits e v)))
            (λ n. subst⁻¹ (λ w. w < 2 ^ 64) (word_old i n) (k.words_fit i))
            (same_or_not i P.count);
      }
    where
      past : (i c : ℕ) → c + 1 ≤ i → i ≡ c → ⊥
      past i c l e = omega arith

-- the number that n appended nodes answer with
abbrev pub last_after : ℕ → Pool → ℕ
last_after zero P = P.count
last_after (suc n) P = P.count + n

-- n nodes appended where there is room
pub record Appended (n : ℕ) (q : ℕ → Node) (P Q : Pool) : Type 0 where
  pub answers : append_first n q P ≡ done (last_after n P) Q
  pub counted : Q.count ≡ P.count + n
  pub ended : Q.end ≡ P.end

next_answers : (n : ℕ) (q : ℕ → Node) (P Q : Pool) → HasRoom (suc n) P → Appended n q P Q → Appended (suc n) q P (grown (q n) Q)
unfolding append_first
next_answers n q P Q room a =
    let counted : Q.count ≡ P.count + n = a.counted in
    let ended : Q.end ≡ P.end = a.ended in
    let some : P.count + suc n ≤ P.end = room.0 in
    let few : P.count + suc n ≤ limit = room.1 in
    record {
      answers = ap (λ o. bind o (λ before. append (q n))) a.answers ∙ append_done (q n) Q (omega arith) (omega arith) ∙ ap (λ i. done i (grown (q n) Q)) counted;
      counted = omega arith;
      ended = ended;
    }

room_before : (n : ℕ) (P : Pool) → HasRoom (suc n) P → HasRoom n P
room_before n P room = let some : P.count + suc n ≤ P.end = room.0 in let few : P.count + suc n ≤ limit = room.1 in (omega arith, omega arith)

pub append_fits : (n : ℕ) (q : ℕ → Node) (P : Pool) → HasRoom n P → (Q : Pool) × Appended n q P Q
unfolding append_first
append_fits zero q P room = (P, record { answers = refl; counted = omega arith; ended = refl })
append_fits (suc n) q P room = let (Q, a) = append_fits n q P (room_before n P room) in (grown (q n) Q, next_answers n q P Q room a)

-- where there is none, 18
over : {a b : ℕ} → b < a → a ≤ b → ⊥
over l m = omega arith

pub room_or_none : (n : ℕ) (P : Pool) → HasRoom n P ⊎ (HasRoom n P → ⊥)
room_or_none n P =
    ⊎_elim
    (λ a. inr (λ room. over a room.0))
    (λ a. ⊎_elim (λ b. inr (λ room. over b room.1)) (λ b. inl (a, b)) (below_or_not limit (P.count + n)))
    (below_or_not P.end (P.count + n))

next_refused : (n : ℕ) (q : ℕ → Node) (P Q : Pool) → (HasRoom (suc n) P → ⊥) → Appended n q P Q → append_first (suc n) q P ≡ refused pool_full
unfolding append_first
next_refused n q P Q none a =
    ap (λ o. bind o (λ before. append (q n))) a.answers
    ∙ append_full (q n) Q (not_true_false (has_room Q) (λ h. none (room (and_left (ltb Q.count Q.end) (ltb Q.count limit) h) (and_right (ltb Q.count Q.end) (ltb Q.count limit) h))))
  where
    room : ltb Q.count Q.end ≡ true → ltb Q.count limit ≡ true → HasRoom (suc n) P
    room h m =
        let counted : Q.count ≡ P.count + n = a.counted in
        let ended : Q.end ≡ P.end = a.ended in
        let some : Q.count < Q.end = ltb-true Q.count Q.end h in
        let few : Q.count < limit = ltb-true Q.count limit m in
        (omega arith, omega arith)

pub append_refused : (n : ℕ) (q : ℕ → Node) (P : Pool) → (HasRoom (suc n) P → ⊥) → append_first (suc n) q P ≡ refused pool_full
unfolding append_first
append_refused zero q P none = next_refused zero q P P none (record { answers = refl; counted = omega arith; ended = refl })
append_refused (suc n) q P none =
    ⊎_elim
    (λ room. let (Q, a) = append_fits (suc n) q P room in next_refused (suc n) q P Q none a)
    (λ full. ap (λ o. bind o (λ before. append (q (suc n)))) (append_refused n q P full))
    (room_or_none (suc n) P)

-- nodes of the table, each with its parts below its own place: the pool keeps the rules, and nodes old and new stand where they should
pub record Holds (n : ℕ) (q : ℕ → Node) (P Q : Pool) : Type 0 where
  pub kept : KeepsRules Q
  pub olds : (i : ℕ) → i < P.count → node_at Q i ≡ node_at P i
  pub news : (i : ℕ) → i < n → node_at Q (P.count + i) ≡ q i

-- what may be appended to P
pub record Appendable (n : ℕ) (q : ℕ → Node) (P : Pool) : Type 0 where
  pub valid : (i : ℕ) → i < n → Valid (q i)
  pub lower : (i : ℕ) → i < n → All (λ j. j < P.count + i) (parts (q i))

next_holds : (n : ℕ) (q : ℕ → Node) (P Q : Pool) → HasRoom (suc n) P → Appendable (suc n) q P → Appended n q P Q → Holds n q P Q → Holds (suc n) q P (grown (q n) Q)
next_holds n q P Q room ok a h =
    record {
      kept = grown_keeps_rules (q n) Q h.kept valid lower fits;
      olds = λ i l. grown_old (q n) Q h.kept valid lower fits i (omega arith) ∙ h.olds i l;
      news = λ i l.
          ⊎_elim
          (λ e. ap (node_at (grown (q n) Q)) (ap (λ j. P.count + j) e ∙ sym counted) ∙ grown_new (q n) Q h.kept valid lower fits ∙ sym (ap q e))
          (λ d. grown_old (q n) Q h.kept valid lower fits (P.count + i) (omega arith) ∙ h.news i (omega arith))
          (same_or_not i n);
    }
  where
    counted : Q.count ≡ P.count + n
    counted = a.counted

    fits : Q.count < limit
    fits = let few : P.count + suc n ≤ limit = room.1 in omega (arith, counted)

    valid : Valid (q n)
    valid = ok.valid n (omega arith)

    lower : All (λ j. j < Q.count) (parts (q n))
    lower = subst⁻¹ (λ c. All (λ j. j < c) (parts (q n))) counted (ok.lower n (omega arith))

pub append_holds : (n : ℕ) (q : ℕ → Node) (P : Pool) → KeepsRules P → Appendable n q P → HasRoom n P → (Q : Pool) × Appended n q P Q × Holds n q P Q
unfolding append_first
append_holds zero q P k ok room =
    (P, record { answers = refl; counted = omega arith; ended = refl }, record { kept = k; olds = λ i l. refl; news = λ i l. absurd (not-suc-le-zero l) })
append_holds (suc n) q P k ok room =
    let (Q, a, h) = append_holds n q P k (record { valid = λ i l. ok.valid i (omega arith); lower = λ i l. ok.lower i (omega arith) }) (room_before n P room) in
    (grown (q n) Q, next_answers n q P Q room a, next_holds n q P Q room ok a h)
