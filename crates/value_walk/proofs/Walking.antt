-- The walk's loop over the parts of a node: what holds between two turns, and how it ends. A part that is refused ends the walk at the node, and values of
-- all parts in the table give the node's, which is kept.
-- Assumes nothing.
use Rattle.std.proofs.Common.{Bool, true, false, ◌≡◌, ℕ, zero, suc, ◌+◌, ◌<◌, ◌≤◌, List, [], ◌∷◌, length, get_or, take, Option, Some, Result, Ok, Err, refl, sym, ap, ◌∙◌, arith}
use mathlib.Core.List.Memᴰ
use mathlib.Core.List.{Memᴰ}
use native.Mathlib.Decide.{ℕ_discrete}
use lib.ListN.{set, replicate, length-set, length-replicate}
use lib.Seq.{take-length, get_or-set_same, get_or-set_other}
use Rattle.refusals.specs.Refusals.{broken_pool}
use Rattle.pool.specs.Pool.{limit, node_in}
use Rattle.pool.specs.Nodes.{parts}
use Rattle.pool.specs.Fold.{under}
use Rattle.pool.specs.Parts.{Counted}
use Rattle.pool.specs.declared.node.Node.{Node}
use Rattle.pool.specs.declared.parts.CountedParts.{CountedParts}
use Rattle.pool.proofs.Folds.{visits, below, above}
use Rattle.pool.proofs.PartsTold.{one_more}
use Rattle.walks.proofs.Tables.{limit_is_enough}
use Rattle.value_walk.specs.Walk.{in_turn, NodeLaws, value_of, told, nth, in_table, Has, Kept, Ready, Keeps, Walked}

ok_is_no_refusal : {A : Type 0} {x : A} {k : ℕ} → Ok x ≡ Err k → ⊥
ok_is_no_refusal e = let clash : ◌≡◌ {A = ℕ} 0 1 = cc in omega arith

same_refusal : {A B : Type 0} {k k' : ℕ} → ◌≡◌ {A = Result A ℕ} (Err k) (Err k') → ◌≡◌ {A = Result B ℕ} (Err k) (Err k')
same_refusal {B = B} {k} {k'} e = let same : k ≡ k' = cc in ap {B = Result B ℕ} Err same

same_value : {A : Type 0} {x y : A} → Some x ≡ Some y → x ≡ y
same_value e = cc

same_answer : {A : Type 0} {x y : A} {r : Result A ℕ} → r ≡ Ok x → r ≡ Ok y → x ≡ y
same_answer e f = let same = sym e ∙ f in cc

same_values : {A : Type 0} {o : Option A} {x y : A} → o ≡ Some x → o ≡ Some y → x ≡ y
same_values e f = same_value (sym e ∙ f)

-- the entry of a table within its length
pub nth_read : {A : Type 0} (l : List A) (i : ℕ) (d : A) → i < length l → nth l i ≡ Some (get_or l i d)
nth_read [] i d h = absurd (omega arith)
nth_read (x ∷ l) zero d h = refl
nth_read (x ∷ l) (suc i) d h = nth_read l i d (omega arith)

there_is_one : {A : Type 0} (l : List A) (i : ℕ) → i < length l → (x : A) × (nth l i ≡ Some x)
there_is_one [] i h = absurd (omega arith)
there_is_one (x ∷ l) zero h = (x, refl)
there_is_one (x ∷ l) (suc i) h = there_is_one l i (omega arith)

nth_set_same : {A : Type 0} (l : List A) (i : ℕ) (x : A) → i < length l → nth (set l i x) i ≡ Some x
nth_set_same [] i x h = absurd (omega arith)
nth_set_same (y ∷ l) zero x h = refl
nth_set_same (y ∷ l) (suc i) x h = nth_set_same l i x (omega arith)

nth_set_other : {A : Type 0} (l : List A) (i a : ℕ) (x : A) → (a ≡ i → ⊥) → nth (set l i x) a ≡ nth l a
nth_set_other [] i a x other = refl
nth_set_other (y ∷ l) zero zero x other = absurd (other refl)
nth_set_other (y ∷ l) zero (suc a) x other = refl
nth_set_other (y ∷ l) (suc i) zero x other = refl
nth_set_other (y ∷ l) (suc i) (suc a) x other = nth_set_other l i a x (λ e. other (ap suc e))

no_mark : (n j : ℕ) → get_or (replicate n false) j false ≡ false
no_mark zero j = refl
no_mark (suc n) zero = refl
no_mark (suc n) (suc j) = no_mark n j

false_is_not_true : false ≡ true → ⊥
false_is_not_true e = let clash : ◌≡◌ {A = ℕ} 0 1 = cc in omega arith

all_ready : {A : Type 0} {Fits : A → Type 0} {kept : List A} (its : List ℕ) → ((a : ℕ) → Memᴰ a its → Kept Fits kept a) → Ready Fits kept its
all_ready [] each = tt
all_ready (a ∷ more) each = (each a (Memᴰ.head refl), all_ready more (λ b m. each b (Memᴰ.tail m)))

-- the parts before the one that is refused have values
refused_in_turn :
    {A : Type 0} {k : ℕ} (down : ℕ → Result A ℕ) (last : Result A ℕ) (its : List ℕ) (j : ℕ) → j < length its → ((a : ℕ) → Memᴰ a (take j its) → (x : A) × (down a ≡ Ok x)) → down (get_or its j 0) ≡ Err k → in_turn down its last ≡ Err k
refused_in_turn down last [] j h done e = absurd (never j h)
  where
    never : (j : ℕ) → j < 0 → ⊥
    never j h = omega arith
refused_in_turn down last (a ∷ more) zero h done e = rw e
refused_in_turn down last (a ∷ more) (suc j) h done e =
    rw (done a (Memᴰ.head refl)).1
    (refused_in_turn down last more j (omega arith) (λ b m. done b (Memᴰ.tail m)) e)

module _ {A : Type 0} (node : (ℕ → Result A ℕ) → Node → Result A ℕ) (at : ℕ → Node) where
  -- the loop over the parts of node n at number i: j of them are done, and their values are in the table
  pub record Turned (i : ℕ) (n : Node) (before : List A) (marked : List Bool) (kept : List A) (seen : List Bool) (j part : ℕ) : Type 0 where
    pub keeps : Keeps node at kept seen
    pub stay : (a : ℕ) (x : A) → Has before marked a x → Has kept seen a x
    pub within : j ≤ length (parts n)
    pub done : (a : ℕ) → Memᴰ a (take j (parts n)) → (a < i) × ((x : A) × Has kept seen a x)
    pub next : j < length (parts n) → part ≡ get_or (parts n) j 0

  pub none_kept : {kept : List A} → length kept ≡ limit → Keeps node at kept (replicate limit false)
  none_kept long =
      record {
        long = long;
        marks = length-replicate {A = Bool} limit false;
        right = λ j x has. absurd (false_is_not_true (sym (no_mark limit j) ∙ has.mark));
      }

  -- a node that is marked was done before
  pub already_kept : {i : ℕ} {kept : List A} {seen : List Bool} → i < limit → Keeps node at kept seen → get_or seen i false ≡ true → Walked node at i (Ok tt) kept seen kept seen
  already_kept {i} {kept} h keeps mark =
      let entry = there_is_one kept i (omega (arith, keeps.long)) in
      record {
        found = λ _. (entry.0, record { mark = mark; value = entry.1 });
        refusal = λ k e. absurd (ok_is_no_refusal e);
        keeps = keeps;
        stay = λ a x has. has;
      }

  pub none_turned : {kept : List A} {seen : List Bool} {n : Node} {p : CountedParts} (i : ℕ) → Keeps node at kept seen → Counted (parts n) p → Turned i n kept seen kept seen 0 p.left
  none_turned i keeps c =
      record {
        keeps = keeps;
        stay = λ a x has. has;
        within = omega arith;
        done = λ a m. absurd (Memᴰ.not-nil m);
        next = λ h. c.first;
      }

  module _ {Fits : A → Type 0} (laws : NodeLaws node Fits) where
    pub value_fits : {x : A} (i : ℕ) → value_of node at i ≡ Ok x → Fits x
    value_fits {x} i e =
        laws.fit (under (Err broken_pool) (value_of node at) i) (at i) x (sym (visits (Err broken_pool) node at i) ∙ e)

    -- node n was read at number i
    module _ {i : ℕ} {n : Node} (read : n ≡ at i) where
      abbrev down : ℕ → Result A ℕ
      down = under (Err broken_pool) (value_of node at) i

      visited : value_of node at i ≡ node down n
      visited = visits (Err broken_pool) node at i ∙ ap (node down) (sym read)

      module _ {before : List A} {marked : List Bool} {kept : List A} {seen : List Bool} {j part : ℕ} (t : Turned i n before marked kept seen j part) where
        -- a part that is done has its value under node i
        part_is : (a : ℕ) → Memᴰ a (take j (parts n)) → (x : A) × ((nth kept a ≡ Some x) × (down a ≡ Ok x))
        part_is a m =
            let has = (t.done a m).1 in
            (has.0, (has.1.value, sym (below (Err broken_pool) (value_of node at) i a (t.done a m).0) ∙ t.keeps.right a has.0 has.1))

        -- a refusal of the part that is next is the node's
        part_refused : {k : ℕ} → j < length (parts n) → down part ≡ Err k → value_of node at i ≡ Err k
        part_refused h e =
            visited
            ∙ laws.parts_first down n
            ∙ refused_in_turn down _ (parts n) j h (λ a m. let is = part_is a m in (is.0, is.1.1)) (ap down (sym (t.next h)) ∙ e)

        -- the part that is next has no smaller number than the node
        pub part_past : j < length (parts n) → i ≤ part → Walked node at i (Err broken_pool) before marked kept seen
        part_past h l =
            record {
              found = λ e. absurd (ok_is_no_refusal (sym e));
              refusal = λ k e. part_refused h (sym (above (Err broken_pool) (value_of node at) i part l) ∙ same_refusal e);
              keeps = t.keeps;
              stay = t.stay;
            }

        -- the walk was at the part that is next
        module _ {r : Result Unit ℕ} {after : List A} {seen' : List Bool} (h : j < length (parts n)) (l : part < i) (w : Walked node at part r kept seen after seen') where
          stays : (a : ℕ) (x : A) → Has before marked a x → Has after seen' a x
          stays a x e = w.stay a x (t.stay a x e)

          pub part_stopped : {k : ℕ} → r ≡ Err k → Walked node at i (Err k) before marked after seen'
          part_stopped refused =
              record {
                found = λ e. absurd (ok_is_no_refusal (sym e));
                refusal = λ k e. part_refused h (sym (below (Err broken_pool) (value_of node at) i part l) ∙ w.refusal _ (refused ∙ e));
                keeps = w.keeps;
                stay = stays;
              }

          pub part_done : {p : CountedParts} → Counted (parts n) p → r ≡ Ok tt → Turned i n before marked after seen' (j + 1) p.right
          part_done c e =
              record {
                keeps = w.keeps;
                stay = stays;
                within = omega arith;
                done = one_more (parts n) j h (λ a m. let d = t.done a m in (d.0, (d.1.0, w.stay a d.1.0 d.1.1))) (t.next h) (l, w.found e);
                next = λ m. c.second ∙ ap (λ k. get_or (parts n) k 0) (last m);
              }
            where
              last : j + 1 < length (parts n) → 1 ≡ j + 1
              last m = omega (arith, c.many, c.few)

        -- every part is done
        module _ (all : length (parts n) ≤ j) where
          among : (a : ℕ) → Memᴰ a (parts n) → Memᴰ a (take j (parts n))
          among a m =
              let e : j ≡ length (parts n) = omega (arith, t.within) in
              rw (e, take-length) m

          pub parts_ready : i < limit → Ready Fits kept (parts n)
          parts_ready h =
              all_ready (parts n)
              (λ a m.
              let d = t.done a (among a m) in
              record { within = omega (arith, d.0, t.keeps.long); value = d.1.0; is = d.1.1.value; fit = value_fits a (t.keeps.right a d.1.0 d.1.1) })

          value_of_node : value_of node at i ≡ node (in_table kept) n
          value_of_node =
              visited
              ∙ laws.by_parts down (in_table kept) n
              (λ a m. let is = part_is a (among a m) in is.1.1 ∙ sym (ap told is.1.0))

          module _ {found : Result A ℕ} (joined : found ≡ node (in_table kept) n) where
            pub value_kept : {x : A} → i < limit → found ≡ Ok x → Walked node at i (Ok tt) before marked (set kept i x) (set seen i true)
            value_kept {x} h e =
                record {
                  found = λ _. (x, put);
                  refusal = λ k other. absurd (ok_is_no_refusal other);
                  keeps =
                      record {
                        long = length-set kept i x ∙ t.keeps.long;
                        marks = length-set seen i true ∙ t.keeps.marks;
                        right = λ a y has. rightly a y has (ℕ_discrete a i);
                      };
                  stay = λ a y has. still a y (t.stay a y has) (ℕ_discrete a i);
                }
              where
                right : value_of node at i ≡ Ok x
                right = value_of_node ∙ sym joined ∙ e

                put : Has (set kept i x) (set seen i true) i x
                put =
                    record {
                      mark = get_or-set_same seen i true false (omega (arith, t.keeps.marks));
                      value = nth_set_same kept i x (omega (arith, t.keeps.long));
                    }

                rightly : (a : ℕ) (y : A) → Has (set kept i x) (set seen i true) a y → Dec (a ≡ i) → value_of node at a ≡ Ok y
                rightly a y has (yes same) =
                    let x_is : x ≡ y = same_values put.value (ap (nth (set kept i x)) (sym same) ∙ has.value) in
                    ap (value_of node at) same ∙ right ∙ ap Ok x_is
                rightly a y has (no other) =
                    t.keeps.right a y
                    (record {
                      mark = sym (get_or-set_other seen i a true false other) ∙ has.mark;
                      value = sym (nth_set_other kept i a x other) ∙ has.value;
                    })

                still : (a : ℕ) (y : A) → Has kept seen a y → Dec (a ≡ i) → Has (set kept i x) (set seen i true) a y
                still a y has (yes same) =
                    let x_is : x ≡ y = same_answer right (ap (value_of node at) (sym same) ∙ t.keeps.right a y has) in
                    rw (same, ← x_is) put
                still a y has (no other) =
                    record {
                      mark = get_or-set_other seen i a true false other ∙ has.mark;
                      value = nth_set_other kept i a x other ∙ has.value;
                    }

            pub value_refused : {k : ℕ} → found ≡ Err k → Walked node at i (Err k) before marked kept seen
            value_refused e =
                record {
                  found = λ z. absurd (ok_is_no_refusal (sym z));
                  refusal = λ k z. value_of_node ∙ sym joined ∙ e ∙ same_refusal z;
                  keeps = t.keeps;
                  stay = t.stay;
                }

-- no node at or past the limit
pub past_the_limit : {A : Type 0} {node : (ℕ → Result A ℕ) → Node → Result A ℕ} {Fits : A → Type 0} → NodeLaws node Fits → (ks ws : List ℕ) (root : ℕ) → limit ≤ root → Err broken_pool ≡ value_of node (node_in ks ws) root
past_the_limit {node = node} laws ks ws root h =
    above (Err broken_pool) (value_of node (node_in ks ws)) limit root h ∙ limit_is_enough (Err broken_pool) node ks ws laws.empty root
