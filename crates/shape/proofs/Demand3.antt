-- Demand 3, and of demand 2 that "A node file reads back to the expression it came from, and written again gives the same bytes".
-- Its words are defined in specs/; the laws that carry it stand in the files named after their subject. Assumes nothing.
use mathlib.Core.Path.{◌≡◌, refl, sym, ap, ◌∙◌, subst, subst⁻¹}
use mathlib.Core.Logic.{◌↔◌}
use mathlib.Core.Bool.{true}
use mathlib.Core.List.{List, [], ◌∷◌}
use Prim.Native.Nat.{ℕ, ◌+◌, ◌-◌, ◌*◌, ◌<◌, ◌≤◌}
use native.Mathlib.Omega.{arith}
use lib.ListN.{length}
use Rattle.low_bytes.specs.LowBytes.{AreBytes}
use Rattle.refusals.specs.Refusals.{pool_full}
use Rattle.pool.specs.Pool.{limit, Pool, empty, node_at, done, refused}
use Rattle.shape.specs.Shape.{has, Reach, OneShape}
use Rattle.shape.specs.Order.{numbered, written, written_roots}
use Rattle.shape.specs.File.{file_of, file_from, written_file, read_file, size_of}
use Rattle.shape.specs.Demand.{KeepsRules, HasRoom, SameShape, IsNodeFile, Accepts, Leaves, Below, Distinct}
use Rattle.shape.proofs.Entries.{only, one_shape_is_same_entries, one_shape_is_same_entries_of_one, length_written_lem, numbered_distinct, numbered_reached, reached_numbered}
use Rattle.shape.proofs.Files.{same_file_same_entries, file_is_bytes, length_file}
use Rattle.shape.proofs.Pools.{rules_of, falls_in, empty_keeps_rules}
use Rattle.shape.proofs.Reading.{Passes, accepted_passes, sized_facts, read_into_lem, read_full, accepted_room}
use Rattle.shape.proofs.ReadBack.{passes_is_node_file, accepted_leaves}
use Rattle.shape.proofs.Writing.{below_limit, entries_fit, written_entries, size_written, written_passes}

-- (a) "the written node files are equal byte for byte exactly when the expressions have one shape"
-- of lists of roots, "paired in order, by one pairing of all nodes they reach": the bytes of the entries, and the roots' numbers
pub same_bytes_for_one_shape : (P Q : Pool) → KeepsRules P → KeepsRules Q → (roots others : List ℕ) → Below P.count roots → Below Q.count others
    → ((file_of (written (node_at P) roots) ≡ file_of (written (node_at Q) others)) × (written_roots (node_at P) roots ≡ written_roots (node_at Q) others))
    ↔ OneShape (node_at P) roots (node_at Q) others
same_bytes_for_one_shape P Q k m roots others b c =
    let both = one_shape_is_same_entries (node_at P) (node_at Q) (falls_in P k) (falls_in Q m) roots others (below_limit P k roots b) (below_limit Q m others c) in (
      λ same. both.0 (same_file_same_entries (written (node_at P) roots) (written (node_at Q) others) (written_entries P k roots b) (written_entries Q m others c) same.0, same.1),
      λ s. (ap file_of (both.1 s).0, (both.1 s).1),
    )

-- of one root each
pub same_file_for_one_shape : (P Q : Pool) → KeepsRules P → KeepsRules Q → (r s : ℕ) → r < P.count → s < Q.count → (file_from P r ≡ file_from Q s) ↔ SameShape P r Q s
unfolding written_file
same_file_for_one_shape P Q k m r s l n =
    let both = one_shape_is_same_entries_of_one (node_at P) (node_at Q) (falls_in P k) (falls_in Q m) r s (in_limit P k r l) (in_limit Q m s n) in (
      λ e. both.0 (same_file_same_entries (written (node_at P) (r ∷ [])) (written (node_at Q) (s ∷ [])) (written_entries P k (r ∷ []) (only r l)) (written_entries Q m (s ∷ []) (only s n)) e),
      λ shape. ap file_of (both.1 shape),
    )
  where
    in_limit : (P : Pool) → KeepsRules P → (r : ℕ) → r < P.count → r < limit
    in_limit P k r l = let m : P.count ≤ limit = (rules_of P k).count_fits in omega arith

-- the file has 4 + 9 × n bytes; "n is the number of reachable nodes": those numbered are the reachable ones, each once, and there are at most as many as the count
pub length_of_a_file : (P : Pool) → KeepsRules P → (r : ℕ) → r < P.count → length (file_from P r) ≡ 4 + 9 * size_of (file_from P r)
unfolding written_file
length_of_a_file P k r l = length_file (written (node_at P) (r ∷ [])) ∙ ap (λ n. 4 + 9 * n) (sym (size_written P k r l))

pub size_of_a_file : (P : Pool) → KeepsRules P → (r : ℕ) → r < P.count → (size_of (file_from P r) ≡ length (numbered (node_at P) (r ∷ []))) × (size_of (file_from P r) ≤ P.count)
size_of_a_file P k r l = (
  size_written P k r l ∙ length_written_lem (node_at P) (falls_in P k) (r ∷ []) (below_limit P k (r ∷ []) (only r l)),
  subst⁻¹ (λ n. n ≤ P.count) (size_written P k r l) (entries_fit P k (r ∷ []) (only r l)),
)

pub numbered_are_the_reachable : (P : Pool) → KeepsRules P → (r : ℕ) → r < P.count
    → Distinct (numbered (node_at P) (r ∷ [])) × ((i : ℕ) → (has (numbered (node_at P) (r ∷ [])) i ≡ true) ↔ Reach (node_at P) (r ∷ []) i)
numbered_are_the_reachable P k r l =
    let below = below_limit P k (r ∷ []) (only r l) in (
      numbered_distinct (node_at P) (falls_in P k) (r ∷ []) below,
      λ i. (numbered_reached (node_at P) (falls_in P k) (r ∷ []) below i, λ reached. reached_numbered (node_at P) (falls_in P k) (r ∷ []) below reached),
    )

-- (b) "Whatever bytes are handed in, reading into an empty pool that keeps these rules accepts them exactly when they are the node file of some root in some such pool."
-- into any pool that keeps the rules: exactly the node files that it has room for
pub accepts_node_files_with_room : (bs : List ℕ) → AreBytes bs → (P : Pool) → KeepsRules P → Accepts bs P ↔ (IsNodeFile bs × HasRoom (size_of bs) P)
accepts_node_files_with_room bs are P k = (
  λ accepted.
      let t = accepted_passes bs P accepted.0 accepted.1 accepted.2 in
      (passes_is_node_file bs are t, accepted_room bs t P accepted.0 accepted.1 accepted.2),
  λ file.
      let (Q, m, r, l, e) = file.0 in
      let (R, h) = read_into_lem bs (subst Passes e (written_passes Q m r l)) are P k file.1 in
      (P.count + (size_of bs - 1), R, h.answers),
)

-- into an empty one: all of them
pub accepts_node_files : (bs : List ℕ) → AreBytes bs → (P : Pool) → KeepsRules P → P.count ≡ 0 → P.end ≡ limit → Accepts bs P ↔ IsNodeFile bs
accepts_node_files bs are P k none whole =
    let both = accepts_node_files_with_room bs are P k in
    (λ accepted. (both.0 accepted).0, λ file. both.1 (file, room file))
  where
    room : IsNodeFile bs → HasRoom (size_of bs) P
    room file =
        let (Q, m, r, l, e) = file in
        let few : size_of bs ≤ limit = (sized_facts bs (subst Passes e (written_passes Q m r l)).sized).few in
        (omega (arith, none, whole), omega (arith, none, whole))

-- "An empty pool has count 0": the one whose tables are all 0 keeps the rules
pub accepts_node_files_into_zeros : (bs : List ℕ) → AreBytes bs → Accepts bs empty ↔ IsNodeFile bs
unfolding empty
accepts_node_files_into_zeros bs are = accepts_node_files bs are empty empty_keeps_rules refl refl

-- (c) what an accepted file leaves, whatever the bytes and whatever the pool that keeps the rules: it keeps them again, old expressions keep their shape, and writing the root again gives the same bytes
pub accepted_leaves_the_rules : (bs : List ℕ) → AreBytes bs → (P : Pool) → KeepsRules P → (r : ℕ) (Q : Pool) → read_file bs P ≡ done r Q → Leaves bs P r Q
accepted_leaves_the_rules = accepted_leaves

-- "A node file reads back to the expression it came from, and written again gives the same bytes."
pub reads_back : (P Q : Pool) → KeepsRules P → KeepsRules Q → (r : ℕ) → r < P.count → HasRoom (size_of (file_from P r)) Q
    → (s : ℕ) × (R : Pool) × (read_file (file_from P r) Q ≡ done s R) × SameShape P r R s × Leaves (file_from P r) Q s R
unfolding written_file
reads_back P Q k m r l room =
    let bs = file_from P r in
    let are : AreBytes bs = file_is_bytes (written (node_at P) (r ∷ [])) in
    let (s, R, e) = (accepts_node_files_with_room bs are Q m).1 ((P, k, r, l, refl), room) in
    let left = accepted_leaves bs are Q m s R e in
    let last : s + 1 ≡ R.count = left.root_last in
    (s, R, e, (same_file_for_one_shape P R k left.keeps_rules r s l (omega arith)).0 (sym left.same_bytes), left)

-- without room, 18
pub reads_into_no_full_pool : (P Q : Pool) → KeepsRules P → (r : ℕ) → r < P.count → (HasRoom (size_of (file_from P r)) Q → ⊥) → read_file (file_from P r) Q ≡ refused pool_full
reads_into_no_full_pool P Q k r l none = read_full (file_from P r) (written_passes P k r l) Q none
