-- Reading: which bytes pass 7, 8 and 9, what reading them leaves in a pool with room, and that without room it is 18.
-- Assumes nothing.
use mathlib.Core.Path.{◌≡◌, refl, sym, ap, ◌∙◌, subst, subst⁻¹}
use mathlib.Core.Logic.{⊎_elim}
use mathlib.Core.Bool.{Bool, true, false}
use mathlib.Core.List.{List, [], ◌∷◌, map}
use Prim.Native.Nat.{ℕ, zero, suc, ◌+◌, ◌-◌, ◌*◌, ◌<◌, ◌≤◌}
use native.Mathlib.Nat.{not-suc-le-zero}
use native.Mathlib.Omega.{arith}
use lib.Dec.{leb}
use lib.ListN.{length}
use borrow.Author.Tests.{le-ltb, le-leb, leb-true, eq-eqb, eqb-true}
use Rattle.low_bytes.specs.LowBytes.{AreBytes}
use Rattle.refusals.specs.Refusals.{pool_full, wrong_length, wrong_entry, wrong_sequence}
use Rattle.pool.specs.Nodes.{parts, is_node, all_below, may_stand_at, half}
use Rattle.pool.specs.Pool.{limit, Pool, node_at, Out, done, refused, bind}
use Rattle.pool.specs.declared.node.Node.{Node}
use Rattle.pool.specs.declared.node.Node.TheVariants.{Empty}
use Rattle.shape.specs.Shape.{rename, Reach, root, part, OneShape}
use Rattle.shape.specs.Order.{written}
use Rattle.shape.specs.File.{append_shifted, passes, read_file, is_sized, are_nodes, is_in_order, size_of, entry_in, entry_of, file_of}
use Rattle.shape.specs.Demand.{KeepsRules, HasRoom, Below}
use Rattle.shape.specs.Walked.{Falls}
use Rattle.shape.proofs.Lists.{All, all_none, all_map, below_or_not, map_same}
use Rattle.shape.proofs.Tests.{and_left, and_right, and_both, each_holds, all_below_lem}
use Rattle.shape.proofs.Renaming.{parts_rename, rename_same}
use Rattle.shape.proofs.Shapes.{shape_of_lem}
use Rattle.shape.proofs.Entries.{only}
use Rattle.shape.proofs.InOrder.{in_order_written}
use Rattle.shape.proofs.TableOfKinds.{valid_rename}
use Rattle.shape.proofs.Files.{file_of_read, entry_valid}
use Rattle.shape.proofs.Appends.{last_after, Appendable, Holds, append_holds, append_refused, room_or_none}

-- bytes that 7, 8 and 9 let through
pub record Passes (bs : List ℕ) : Type 0 where
  pub sized : is_sized bs ≡ true
  pub nodes : are_nodes bs ≡ true
  pub ordered : is_in_order bs ≡ true

pub read_passes : (bs : List ℕ) (P : Pool) → Passes bs → read_file bs P ≡ append_shifted (size_of bs) (entry_of bs) P
unfolding read_file
read_passes bs P t = rw (t.sized, t.nodes, t.ordered)

abbrev IsDone : Out → Type 0
IsDone (done i Q) = Unit {0}
IsDone (refused k) = ⊥

-- an accepted file has passed
pub accepted_passes : (bs : List ℕ) (P : Pool) (i : ℕ) (Q : Pool) → read_file bs P ≡ done i Q → Passes bs
unfolding read_file
accepted_passes bs P i Q e =
    go (is_sized bs) (are_nodes bs) (is_in_order bs) refl refl refl
    (subst⁻¹ IsDone e tt)
  where
    go : (s n o : Bool) → is_sized bs ≡ s → are_nodes bs ≡ n → is_in_order bs ≡ o
        → IsDone (bind (passes s wrong_length P) (λ i P. bind (passes n wrong_entry P) (λ j P. bind (passes o wrong_sequence P) (λ k. append_shifted (size_of bs) (entry_of bs))))) → Passes bs
    go true true true s n o h = record { sized = s; nodes = n; ordered = o }
    go true true false s n o h = absurd h
    go true false o s n _ h = absurd h
    go false n o s _ _ h = absurd h

-- 7 as facts
pub record Sized (bs : List ℕ) : Type 0 where
  pub some : 1 ≤ size_of bs
  pub few : size_of bs ≤ limit
  pub long : length bs ≡ 4 + 9 * size_of bs

pub sized_facts : (bs : List ℕ) → is_sized bs ≡ true → Sized bs
unfolding is_sized
sized_facts bs h =
    let h₂ = and_right (leb 4 (length bs)) _ h in
    let h₃ = and_right (leb 1 (size_of bs)) _ h₂ in
    record {
      some = leb-true 1 (size_of bs) (and_left (leb 1 (size_of bs)) _ h₂);
      few = leb-true (size_of bs) limit (and_left (leb (size_of bs) limit) _ h₃);
      long = eqb-true (length bs) (4 + 9 * size_of bs) (and_right (leb (size_of bs) limit) _ h₃);
    }

pub facts_sized : (bs : List ℕ) → Sized bs → is_sized bs ≡ true
unfolding is_sized
facts_sized bs s =
    let long : length bs ≡ 4 + 9 * size_of bs = s.long in
    and_both (leb 4 (length bs)) _ (le-leb 4 (length bs) (omega arith))
    (and_both (leb 1 (size_of bs)) _ (le-leb 1 (size_of bs) s.some)
    (and_both (leb (size_of bs) limit) _ (le-leb (size_of bs) limit s.few) (eq-eqb (length bs) (4 + 9 * size_of bs) long)))

-- what is reached from below a bound is below it
pub reach_below : (p : ℕ → Node) → Falls p → (n : ℕ) (roots : List ℕ) → Below n roots → {i : ℕ} → Reach p roots i → i < n
reach_below p falls n roots b (root {i = i} h) = b i h
reach_below p falls n roots b (part {i = i} {j = j} r h) =
    let l : j < i = falls i j h in let m : i < n = reach_below p falls n roots b r in omega arith

-- entries shifted by a pool's count
abbrev pub shifted : ℕ → (ℕ → Node) → ℕ → Node
shifted c q i = rename (λ j. c + j) (q i)

-- what reading leaves in a pool with room
pub record ReadInto (bs : List ℕ) (P Q : Pool) : Type 0 where
  pub answers : read_file bs P ≡ done (P.count + (size_of bs - 1)) Q
  pub counted : Q.count ≡ P.count + size_of bs
  pub ended : Q.end ≡ P.end
  pub holds : Holds (size_of bs) (shifted P.count (entry_of bs)) P Q

module _ (bs : List ℕ) (t : Passes bs) where
  size : Sized bs
  size = sized_facts bs t.sized

  stands : (i : ℕ) → i < size_of bs → may_stand_at i (entry_of bs i) ≡ true
  unfolding are_nodes
  stands = each_holds (size_of bs) _ t.nodes

  node : (i : ℕ) → i < size_of bs → is_node (entry_of bs i) ≡ true
  unfolding may_stand_at
  node i l = and_left (is_node (entry_of bs i)) (all_below i (parts (entry_of bs i))) (stands i l)

  past_the_end : (i : ℕ) → size_of bs ≤ i → entry_of bs i ≡ Empty
  unfolding entry_in
  past_the_end i l = rw (le-ltb i (size_of bs) l)

  pub entries_fall : Falls (entry_of bs)
  unfolding may_stand_at
  entries_fall i =
      ⊎_elim
      (λ l. all_below_lem i (parts (entry_of bs i)) (and_right (is_node (entry_of bs i)) (all_below i (parts (entry_of bs i))) (stands i l)))
      (λ l. subst⁻¹ (λ e. All (λ j. j < i) (parts e)) (past_the_end i l) (all_none (λ j. j < i)))
      (below_or_not i (size_of bs))

  pub last_below : Below (size_of bs) ((size_of bs - 1) ∷ [])
  last_below = only (size_of bs - 1) (less (size_of bs) size.some)
    where
      less : (n : ℕ) → 1 ≤ n → n - 1 < n
      less n l = omega arith

  module _ (are : AreBytes bs) where
    -- writing its entries gives the file back
    pub passes_written : file_of (written (entry_of bs) ((size_of bs - 1) ∷ [])) ≡ bs
    unfolding is_in_order
    passes_written =
        ap file_of (in_order_written (entry_of bs) ((size_of bs - 1) ∷ []) (size_of bs) entries_fall size.few last_below t.ordered)
        ∙ file_of_read bs are size.long node

    appendable : (P : Pool) → HasRoom (size_of bs) P → Appendable (size_of bs) (shifted P.count (entry_of bs)) P
    appendable P room =
        record {
          valid = λ i l. valid_rename (λ j. P.count + j) (entry_of bs i) (entry_valid bs are size.long node i l) (λ j h. small P.count i j (size_of bs) l (entries_fall i j h) room.1);
          lower = λ i l.
              subst⁻¹ (λ js. All (λ j. j < P.count + i) js) (parts_rename (λ j. P.count + j) (entry_of bs i))
              (all_map (λ j. j < P.count + i) (λ j. P.count + j) (parts (entry_of bs i)) (λ j h. shift P.count i j (entries_fall i j h)));
        }
      where
        small : (c i j n : ℕ) → i < n → j < i → c + n ≤ limit → c + j < half
        small c i j n l m r = omega arith

        shift : (c i j : ℕ) → j < i → c + j < c + i
        shift c i j l = omega arith

    last : (n : ℕ) (P : Pool) → 1 ≤ n → last_after n P ≡ P.count + (n - 1)
    last zero P l = absurd (not-suc-le-zero l)
    last (suc n) P l = ap (λ m. P.count + m) (less n)
      where
        less : (n : ℕ) → n ≡ suc n - 1
        less n = omega arith

    pub read_into_lem : (P : Pool) → KeepsRules P → HasRoom (size_of bs) P → (Q : Pool) × ReadInto bs P Q
    read_into_lem P k room =
        let (Q, a, h) = append_holds (size_of bs) (shifted P.count (entry_of bs)) P k (appendable P room) room in (
          Q,
          record {
            answers = read_passes bs P t ∙ a.answers ∙ ap (λ i. done i Q) (last (size_of bs) P size.some);
            counted = a.counted;
            ended = a.ended;
            holds = h;
          },
        )

  -- without room, 18
  pub read_full : (P : Pool) → (HasRoom (size_of bs) P → ⊥) → read_file bs P ≡ refused pool_full
  read_full P none = read_passes bs P t ∙ go (size_of bs) size.some none
    where
      go : (n : ℕ) → 1 ≤ n → (HasRoom n P → ⊥) → append_shifted n (entry_of bs) P ≡ refused pool_full
      go zero l none = absurd (not-suc-le-zero l)
      go (suc n) l none = append_refused n (shifted P.count (entry_of bs)) P none

  pub accepted_room : (P : Pool) (i : ℕ) (Q : Pool) → read_file bs P ≡ done i Q → HasRoom (size_of bs) P
  accepted_room P i Q e = ⊎_elim (λ room. room) (λ none. absurd (subst IsDone (sym e ∙ read_full P none) tt)) (room_or_none (size_of bs) P)

  -- the file's expressions, and the old ones, in the pool that was read into
  module _ (P Q : Pool) (h : Holds (size_of bs) (shifted P.count (entry_of bs)) P Q) where
    pub new_shape : (roots : List ℕ) → Below (size_of bs) roots → OneShape (entry_of bs) roots (node_at Q) (map (λ j. P.count + j) roots)
    new_shape roots b =
        shape_of_lem (entry_of bs) (node_at Q) roots (λ j. P.count + j) (λ j. j - P.count)
        (λ i r. unshift P.count i)
        (λ i r. h.news i (reach_below (entry_of bs) entries_fall (size_of bs) roots b r))
      where
        unshift : (c i : ℕ) → c + i - c ≡ i
        unshift c i = omega arith

    pub old_shape : Falls (node_at P) → (roots : List ℕ) → Below P.count roots → OneShape (node_at P) roots (node_at Q) roots
    old_shape falls roots b =
        subst (OneShape (node_at P) roots (node_at Q)) (map_same (λ i. i) roots (λ i m. refl))
        (shape_of_lem (node_at P) (node_at Q) roots (λ i. i) (λ i. i)
        (λ i r. refl)
        (λ i r. h.olds i (reach_below (node_at P) falls P.count roots b r) ∙ sym (rename_same (λ j. j) (node_at P i) (λ j m. refl))))
