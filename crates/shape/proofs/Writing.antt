-- Written files: their entries are in the table of kinds, there are at most as many as the pool has nodes, and they pass 7, 8 and 9.
-- Assumes nothing.
use mathlib.Core.Path.{◌≡◌, sym, ap, ap₂, ◌∙◌, subst, subst⁻¹}
use mathlib.Core.Bool.{true}
use mathlib.Core.List.{List, [], ◌∷◌}
use Prim.Native.Nat.{ℕ, ◌+◌, ◌-◌, ◌*◌, ◌<◌, ◌≤◌}
use native.Mathlib.Omega.{arith}
use lib.ListN.{length}
use Rattle.pool.specs.Nodes.{parts, is_node, all_below, may_stand_at, half}
use Rattle.pool.specs.Pool.{limit, Pool, node_at}
use Rattle.pool.specs.declared.node.Node.{Node}
use Rattle.shape.specs.Shape.{has}
use Rattle.shape.specs.Order.{num, numbered, written, written_roots}
use Rattle.shape.specs.File.{file_from, written_file, size_of, entry_of, are_nodes, is_in_order}
use Rattle.shape.specs.Demand.{KeepsRules, Below}
use Rattle.shape.specs.Walked.{node_numbered}
use Rattle.shape.proofs.Lists.{all_first}
use Rattle.shape.proofs.Tests.{and_both, each_of, below_all}
use Rattle.shape.proofs.Numbers.{num_of_node, num_below, built_closed, down}
use Rattle.shape.proofs.Entries.{only, table_of, numbered_built, numbered_distinct, numbered_below, numbered_fit, length_written_lem, entry_written, written_falls, written_roots_below, written_in_order, last_root}
use Rattle.shape.proofs.InOrder.{order_passes}
use Rattle.shape.proofs.TableOfKinds.{Valid, valid_rename, valid_is_node}
use Rattle.shape.proofs.Files.{Entries, length_file, size_of_file, entries_of_file}
use Rattle.shape.proofs.Pools.{rules_of, falls_in, valid_in}
use Rattle.shape.proofs.Reading.{Passes, facts_sized}

module _ (P : Pool) (k : KeepsRules P) (roots : List ℕ) (b : Below P.count roots) where
  pub below_limit : Below limit roots
  below_limit i h = let l : i < P.count = b i h in let m : P.count ≤ limit = (rules_of P k).count_fits in omega arith

  -- "n is the number of reachable nodes", so at most the count
  pub entries_fit : length (written (node_at P) roots) ≤ P.count
  entries_fit = rw (length_written_lem (node_at P) (falls_in P k) roots below_limit) (numbered_fit (node_at P) (falls_in P k) roots below_limit P.count b)

  pub written_entries : Entries (written (node_at P) roots)
  written_entries =
      record {
        few = let l : length (written (node_at P) roots) ≤ P.count = entries_fit in let m : P.count ≤ limit = (rules_of P k).count_fits in omega arith;
        valid = λ i l.
            let m : i < length o = subst (λ n. i < n) (length_written_lem (node_at P) (falls_in P k) roots below_limit) l in
            let x = node_numbered o i in
            let (there, its-num) = num_of_node o (numbered_distinct (node_at P) (falls_in P k) roots below_limit) i m in
            subst⁻¹ Valid (entry_written (node_at P) (falls_in P k) roots below_limit i m)
            (valid_rename (num o) (node_at P x) (valid_in P k x (numbered_below (node_at P) (falls_in P k) roots below_limit P.count b x there))
            (λ j h. small j (built_closed (node_at P) o (numbered_built (node_at P) (falls_in P k) roots below_limit) x there j h)));
      }
    where
      o : List ℕ
      o = numbered (node_at P) roots

      small : (j : ℕ) → has o j ≡ true → num o j < half
      small j h =
          let l : num o j < length o = num_below o (numbered_distinct (node_at P) (falls_in P k) roots below_limit) j h in
          let m : length o ≤ limit = numbered_fit (node_at P) (falls_in P k) roots below_limit limit below_limit in
          omega arith

module _ (P : Pool) (k : KeepsRules P) (r : ℕ) (l : r < P.count) where
  es : List Node
  es = written (node_at P) (r ∷ [])

  in_limit : r < limit
  in_limit = let m : P.count ≤ limit = (rules_of P k).count_fits in omega arith

  ok : Entries es
  unfolding es
  ok = written_entries P k (r ∷ []) (only r l)

  pub size_written : size_of (file_from P r) ≡ length (written (node_at P) (r ∷ []))
  unfolding written_file es
  size_written = size_of_file es ok.few

  pub entries_written : entry_of (file_from P r) ≡ table_of (written (node_at P) (r ∷ []))
  unfolding written_file es
  entries_written = entries_of_file es ok

  pub root_written : written_roots (node_at P) (r ∷ []) ≡ (size_of (file_from P r) - 1) ∷ []
  root_written = last_root (node_at P) (falls_in P k) r in_limit ∙ ap (λ n. (n - 1) ∷ []) (sym size_written)

  some_written : 1 ≤ length es
  unfolding es written_roots
  some_written =
      let o = numbered (node_at P) (r ∷ []) in
      let m : num o r < length o = all_first (λ i. i < length o) (num o r) [] (written_roots_below (node_at P) (falls_in P k) (r ∷ []) (only r in_limit)) in
      let e : length es ≡ length o = length_written_lem (node_at P) (falls_in P k) (r ∷ []) (only r in_limit) in
      omega arith

  few_written : length es ≤ limit
  unfolding es
  few_written = let m : length es ≤ P.count = entries_fit P k (r ∷ []) (only r l) in let n : P.count ≤ limit = (rules_of P k).count_fits in omega arith

  pub written_passes : Passes (file_from P r)
  unfolding written_file es are_nodes may_stand_at is_in_order
  written_passes =
      record {
        sized = facts_sized (file_from P r) (record {
          some = subst⁻¹ (λ n. 1 ≤ n) size_written some_written;
          few = subst⁻¹ (λ n. n ≤ limit) size_written few_written;
          long = length_file es ∙ ap (λ n. 4 + 9 * n) (sym size_written);
        });
        nodes = each_of (size_of (file_from P r)) _ (λ i m.
            subst⁻¹ (λ q. may_stand_at i (q i) ≡ true) entries_written
            (and_both (is_node (table_of es i)) (all_below i (parts (table_of es i)))
            (valid_is_node (table_of es i) (ok.valid i (subst (λ n. i < n) size_written m)))
            (below_all i (parts (table_of es i)) (written_falls (node_at P) (falls_in P k) (r ∷ []) (only r in_limit) i))));
        ordered = order_passes (entry_of (file_from P r)) ((size_of (file_from P r) - 1) ∷ []) (size_of (file_from P r))
            (ap₂ numbered entries_written (sym root_written) ∙ written_in_order (node_at P) (falls_in P k) (r ∷ []) (only r in_limit) ∙ ap down (sym size_written));
      }
