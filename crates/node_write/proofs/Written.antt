-- The entries that the code writes are those of the definition, and its bytes are the file.
-- Assumes nothing.
use mathlib.Core.Path.{◌≡◌, sym, ap, ap₂, ◌∙◌, subst, subst⁻¹}
use mathlib.Core.Bool.{true}
use Rattle.std.specs.Prelude.{Ok, Err}
use mathlib.Core.List.{List, [], ◌∷◌, ◌++◌}
use Prim.Native.Nat.{ℕ, suc, ◌+◌, ◌-◌, ◌*◌, ◌≤◌, ◌<◌}
use native.Mathlib.Omega.{arith}
use lib.ListN.{length, get_or, drop}
use lib.Seq.{sets, sets-eq, ext_get_or}
use borrow.Author.Tests.{le-leb, lt-leb}
use Rattle.low_bytes.specs.LowBytes.{low_bytes}
use Rattle.pool.specs.Nodes.{parts}
use Rattle.pool.specs.Pool.{limit, node_in}
use Rattle.pool.specs.declared.node.Node.{Node}
use Rattle.pool.specs.declared.node.Node.TheVariants.{Empty}
use Rattle.shape.specs.Shape.{rename, has}
use Rattle.shape.specs.Table.{up_to}
use Rattle.shape.specs.Demand.{Below}
use Rattle.shape.specs.Order.{numbered, num, entries, written}
use Rattle.shape.specs.File.{file_of, written_file}
use Rattle.shape.specs.Walked.{Falls, node_numbered}
use Rattle.shape.proofs.Lists.{All}
use Rattle.shape.proofs.Tables.{length_up_to, up_to_at}
use Rattle.shape.proofs.Renaming.{rename_alike}
use Rattle.shape.proofs.Numbers.{built_distinct, built_closed, num_of_node, length_entries, entry_numbered}
use Rattle.shape.proofs.Pigeonhole.{distinct_fit}
use Rattle.low_bytes.proofs.Bytes.{length_bytes}
use Rattle.shape.proofs.Files.{length_file}
use Rattle.shape.proofs.Pools.{rules_of_test, node_falls}
use Rattle.shape.proofs.Walked.{walked_number}
use Rattle.refusals.specs.Refusals.{no_room}
use Rattle.node_walk.specs.Visits.{StandsFor}
use Rattle.node_walk.specs.declared.Numbering.{Numbering}
use Rattle.node_write.specs.Entries.{number_in, entry_by, bytes_of, Listed}
use Rattle.node_write.specs.Output.{HasRoots, file_output, file_into}
use Rattle.node_write.proofs.Putting.{put_behind}

-- the tables of a pool with roots
module _ {ks ws roots : List ℕ} (h : HasRoots ks ws roots) where
  pub roots_fit : Below limit roots
  roots_fit i m = let given : i < h.count = h.given i m in let few : h.count ≤ limit = (rules_of_test ks ws h.count h.rules).count_fits in omega arith

  pub pool_falls : Falls (node_in ks ws)
  pool_falls = node_falls ks ws h.count (rules_of_test ks ws h.count h.rules)

module _ (p : ℕ → Node) (o : List ℕ) (N : Numbering) (w : StandsFor p o N) where
  -- parts of a node done are done
  parts_done_lem : (m : ℕ) → m < N.done → All (λ j. has o j ≡ true) (parts (p (get_or N.order m 0)))
  parts_done_lem m l =
      subst⁻¹ (λ i. All (λ j. has o j ≡ true) (parts (p i))) (w.placed m l)
      (built_closed p o w.built (node_numbered o m) (num_of_node o (built_distinct p o w.built) m (subst⁻¹ (λ k. m < k) w.counted l)).0)

  pub all_listed : Listed p N
  all_listed =
      record {
        few = subst (λ k. k ≤ limit) w.counted (distinct_fit limit o (built_distinct p o w.built) w.below);
        parts_marked = λ m l j h.
            let j_done = parts_done_lem m l j h in
            let number_is : get_or N.number j 0 ≡ suc (num o j) = walked_number p o N.number N.order N.done w j j_done in
            record { below = w.below j j_done; some = omega arith };
      }

  entry_is : (m : ℕ) → m < N.done → entry_by p N m ≡ get_or (entries p o) m Empty
  entry_is m l =
      rename_alike (number_in N.number) (num o) (p (get_or N.order m 0)) (λ j h. ap (λ k. k - 1) (walked_number p o N.number N.order N.done w j (parts_done_lem m l j h)) ∙ one_less (num o j))
      ∙ ap (λ i. rename (num o) (p i)) (w.placed m l)
      ∙ sym (entry_numbered p o m (subst⁻¹ (λ k. m < k) w.counted l))
    where
      one_less : (k : ℕ) → suc k - 1 ≡ k
      one_less k = omega arith

  pub entries_are : up_to N.done (entry_by p N) ≡ entries p o
  entries_are =
      ext_get_or Empty (up_to N.done (entry_by p N)) (entries p o) (length_up_to N.done (entry_by p N) ∙ sym (length_entries p o ∙ w.counted))
      (λ m l. let k : m < N.done = subst (λ j. m < j) (length_up_to N.done (entry_by p N)) l in up_to_at N.done (entry_by p N) Empty m k ∙ entry_is m k)

-- bytes put from the front on, and others behind them
two_runs : (old xs ys : List ℕ) → length (xs ++ ys) ≤ length old → sets (sets old 0 xs) (length xs) ys ≡ (xs ++ ys) ++ drop (length (xs ++ ys)) old
two_runs old xs ys l =
    put_behind xs ys old 0 (length xs) (omega arith)
    ∙ sets-eq (xs ++ ys) old 0 (omega arith)
    ∙ ap (λ k. (xs ++ ys) ++ drop k old) (from_zero (length (xs ++ ys)))
  where
    from_zero : (k : ℕ) → 0 + k ≡ k
    from_zero k = omega arith

module _ (ks ws : List ℕ) (root : ℕ) {N : Numbering} (w : StandsFor (node_in ks ws) (numbered (node_in ks ws) (root ∷ [])) N) where
  file_is : written_file ks ws root ≡ file_of (up_to N.done (entry_by (node_in ks ws) N))
  unfolding written_file written
  file_is = ap file_of (sym (entries_are (node_in ks ws) (numbered (node_in ks ws) (root ∷ [])) N w))

  file_long : length (written_file ks ws root) ≡ 4 + 9 * N.done
  file_long =
      let q = entry_by (node_in ks ws) N in
      ap length file_is ∙ length_file (up_to N.done q) ∙ ap (λ k. 4 + 9 * k) (length_up_to N.done q)

  pub has_no_room : (old : List ℕ) → length old < 4 + 9 * N.done → file_output (Err no_room) old ≡ file_into old (written_file ks ws root)
  unfolding file_into
  has_no_room old l = rw (lt-leb (length (written_file ks ws root)) (length old) (subst⁻¹ (λ k. length old < k) file_long l))

  pub is_written : (old : List ℕ) {out₁ out₂ : List ℕ} → 4 + 9 * N.done ≤ length old
      → out₁ ≡ sets old 0 (low_bytes 4 N.done)
      → out₂ ≡ sets out₁ 4 (bytes_of (up_to N.done (entry_by (node_in ks ws) N)))
      → file_output (Ok (4 + 9 * N.done)) out₂ ≡ file_into old (written_file ks ws root)
  unfolding file_into file_of
  is_written old {out₁} {out₂} l a b =
      let f = written_file ks ws root in
      let es = up_to N.done (entry_by (node_in ks ws) N) in
      let long_enough : length f ≤ length old = subst⁻¹ (λ k. k ≤ length old) file_long l in
      let many : length es ≡ N.done = length_up_to N.done (entry_by (node_in ks ws) N) in
      let e : out₂ ≡ file_of es ++ drop (length (file_of es)) old =
      b ∙ ap (λ x. sets x 4 (bytes_of es)) (a ∙ ap (λ k. sets old 0 (low_bytes 4 k)) (sym many))
      ∙ ap (λ k. sets (sets old 0 (low_bytes 4 (length es))) k (bytes_of es)) (sym (length_bytes 4 (length es)))
      ∙ two_runs old (low_bytes 4 (length es)) (bytes_of es) (subst (λ x. length x ≤ length old) file_is long_enough) in
      rw (le-leb (length f) (length old) long_enough) (ap₂ (λ k x. file_output (Ok k) x) (sym file_long) (e ∙ ap (λ x. x ++ drop (length x) old) (sym file_is)))
