-- Reading and writing again: bytes that pass, read into a pool with room, are the file of the root that reading gives.
-- Assumes nothing.
use mathlib.Core.Path.{◌≡◌, sym, ap, ◌∙◌, subst}
use mathlib.Core.List.{List, [], ◌∷◌}
use Prim.Native.Nat.{ℕ, ◌+◌, ◌-◌, ◌<◌, ◌≤◌}
use native.Mathlib.Omega.{arith}
use Rattle.low_bytes.specs.LowBytes.{AreBytes}
use Rattle.pool.specs.Pool.{limit, Pool, empty, node_at, Out, done, refused}
use Rattle.shape.specs.Shape.{OneShape}
use Rattle.shape.specs.File.{file_of, file_from, written_file, read_file, size_of, entry_of}
use Rattle.shape.specs.Demand.{KeepsRules, HasRoom, IsNodeFile, Leaves}
use Rattle.shape.proofs.Entries.{only, same_written}
use Rattle.shape.proofs.Pools.{rules_of, falls_in, empty_keeps_rules}
use Rattle.shape.proofs.Reading.{Passes, ReadInto, sized_facts, accepted_passes, accepted_room, entries_fall, last_below, passes_written, read_into_lem, new_shape, old_shape}

module _ (bs : List ℕ) (are : AreBytes bs) (t : Passes bs) (P Q : Pool) (k : KeepsRules P) (h : ReadInto bs P Q) where
  -- the root that reading gives is the last node
  last_root : P.count + (size_of bs - 1) + 1 ≡ Q.count
  last_root = sum P.count (size_of bs) (sized_facts bs t.sized).some ∙ sym h.counted
    where
      sum : (c n : ℕ) → 1 ≤ n → c + (n - 1) + 1 ≡ c + n
      sum c n l = omega arith

  last_shape : OneShape (entry_of bs) ((size_of bs - 1) ∷ []) (node_at Q) ((P.count + (size_of bs - 1)) ∷ [])
  last_shape = new_shape bs t P Q h.holds ((size_of bs - 1) ∷ []) (last_below bs t)

  written_again : file_from Q (P.count + (size_of bs - 1)) ≡ bs
  unfolding written_file
  written_again =
      ap file_of
      (sym (same_written (entry_of bs) (node_at Q) (entries_fall bs t) (falls_in Q h.holds.kept) ((size_of bs - 1) ∷ []) ((P.count + (size_of bs - 1)) ∷ [])
      (only (size_of bs - 1) few) (only (P.count + (size_of bs - 1)) fits) last_shape))
      ∙ passes_written bs t are
    where
      fits : P.count + (size_of bs - 1) < limit
      fits = let e : P.count + (size_of bs - 1) + 1 ≡ Q.count = last_root in let m : Q.count ≤ limit = (rules_of Q h.holds.kept).count_fits in omega arith

      few : size_of bs - 1 < limit
      few = omega (arith, fits)

  pub read_leaves : Leaves bs P (P.count + (size_of bs - 1)) Q
  read_leaves =
      record {
        keeps_rules = h.holds.kept;
        grows = h.counted;
        end_kept = h.ended;
        root_last = last_root;
        old_shapes = old_shape bs t P Q h.holds (falls_in P k);
        same_bytes = written_again;
      }

-- one answer
root_of : Out → ℕ → ℕ
root_of (done r Q) other = r
root_of (refused k) other = other

left_by : Out → Pool → Pool
left_by (done r Q) other = Q
left_by (refused k) other = other

same_answer : (bs : List ℕ) (P : Pool) (r s : ℕ) (Q R : Pool) → done r Q ≡ done s R → Leaves bs P r Q → Leaves bs P s R
unfolding root_of left_by
same_answer bs P r s Q R e l = subst (λ x. Leaves bs P x R) (ap (λ o. root_of o 0) e) (subst (Leaves bs P r) (ap (λ o. left_by o Q) e) l)

pub accepted_leaves : (bs : List ℕ) → AreBytes bs → (P : Pool) → KeepsRules P → (r : ℕ) (Q : Pool) → read_file bs P ≡ done r Q → Leaves bs P r Q
accepted_leaves bs are P k r Q e =
    let t = accepted_passes bs P r Q e in
    let (R, h) = read_into_lem bs t are P k (accepted_room bs t P r Q e) in
    same_answer bs P (P.count + (size_of bs - 1)) r R Q (sym h.answers ∙ e) (read_leaves bs are t P R k h)

-- bytes that pass are the file of a root: of the one that reading into an empty pool gives
pub passes_is_node_file : (bs : List ℕ) → AreBytes bs → Passes bs → IsNodeFile bs
unfolding empty
passes_is_node_file bs are t =
    let (Q, h) = read_into_lem bs t are empty empty_keeps_rules room in
    let left = read_leaves bs are t empty Q empty_keeps_rules h in
    let last : 0 + (size_of bs - 1) + 1 ≡ Q.count = left.root_last in
    (Q, left.keeps_rules, 0 + (size_of bs - 1), omega arith, left.same_bytes)
  where
    room : HasRoom (size_of bs) empty
    room = let l : size_of bs ≤ limit = (sized_facts bs t.sized).few in (omega arith, omega arith)
