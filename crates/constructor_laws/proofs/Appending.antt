-- Appending one fine node keeps the rules of the pool: entries before the count and behind the new one stay, and the new one reads back as the node.
-- Assumes nothing.
use mathlib.Core.Path.{◌≡◌, refl, ◌∙◌}
use mathlib.Core.Logic.{◌≢◌}
use mathlib.Core.Bool.{Bool, true, false}
use mathlib.Core.List.{List}
use Prim.Native.Nat.{ℕ, ◌+◌, ◌<◌}
use native.Mathlib.Omega.{arith}
use native.Mathlib.Decide.{ℕ_discrete}
use lib.Dec.{ltb}
use borrow.Author.Tests.{ltb-true, ltb-false, lt-ltb, le-ltb}
use lib.ListN.{get_or, set, length-set}
use lib.Seq.{get_or-set_same, get_or-set_other}
use Rattle.pool.specs.declared.node.Node.{Node}
use Rattle.pool.specs.Nodes.{kind_of, word_of}
use Rattle.pool.specs.Pool.{Pool, limit, append}
use Rattle.constructor_laws.specs.Keeps.{Keeps, Kept, KeptBy}
use Rattle.constructor_laws.proofs.Growth.{appended, append_comes_to, appended_grown}
use Rattle.constructor_laws.proofs.Rules.{Rules, rules_kept, kept_rules, entry_at, entry_before}
use Rattle.constructor_laws.proofs.Coding.{Fine, fine_stands, fine_is_read}

-- one node more puts no other number on the other side of the count
same_side : (i n : ℕ) → i ≢ n → ltb i (n + 1) ≡ ltb i n
same_side i n other = go (ltb i n) refl
  where
    go : (t : Bool) → ltb i n ≡ t → ltb i (n + 1) ≡ t
    go true e = lt-ltb i (n + 1) (omega (arith, ltb-true i n e))
    go false e = le-ltb i (n + 1) (omega (arith, ltb-false i n e))

module _ {ks ws : List ℕ} {n : ℕ} (node : Node) (rules : Rules ks ws n) (fine : Fine n node) (room : n < limit) where
  -- the tables with the node in them
  abbrev ks' : List ℕ
  ks' = set ks n (kind_of node)

  abbrev ws' : List ℕ
  ws' = set ws n (word_of node)

  other_entry : (i : ℕ) → i ≢ n → entry_at ks' ws' (n + 1) i ≡ entry_at ks ws n i
  other_entry i other = rw (get_or-set_other ks n i (kind_of node) 0 other, get_or-set_other ws n i (word_of node) 0 other, same_side i n other)

  new_entry : entry_at ks' ws' (n + 1) n ≡ true
  new_entry =
      let k : get_or ks' n 0 ≡ kind_of node = get_or-set_same ks n (kind_of node) 0 (omega (arith, rules.kinds_long)) in
      let w : get_or ws' n 0 ≡ word_of node = get_or-set_same ws n (word_of node) 0 (omega (arith, rules.words_long)) in
      entry_before ks' ws' (n + 1) n (omega arith) ∙ rw (k, w, fine_is_read (omega arith) fine) (fine_stands fine)

  pub one_more_keeps_rules : Rules ks' ws' (n + 1)
  one_more_keeps_rules =
      record {
        kinds_long = length-set ks n (kind_of node) ∙ rules.kinds_long;
        words_long = length-set ws n (word_of node) ∙ rules.words_long;
        within = omega arith;
        entries = λ i l. entry i l (ℕ_discrete i n);
      }
    where
      entry : (i : ℕ) → i < limit → Dec (i ≡ n) → entry_at ks' ws' (n + 1) i ≡ true
      entry i l (yes same) = rw same new_entry
      entry i l (no other) = other_entry i other ∙ rules.entries i l

-- the whole of document 01's "appends one node"
pub append_kept : (node : Node) (P : Pool) → Keeps P → Fine P.count node → KeptBy P (append node P)
append_kept node P k fine = append_comes_to (KeptBy P) node P (λ room below. kept below) tt
  where
    kept : P.count < limit → Kept P P.count (appended node P)
    kept below =
        record {
          grown = appended_grown node P below;
          keeps =
              record {
                rules = kept_rules _ _ _ (one_more_keeps_rules node (rules_kept P.kinds P.words P.count k.rules) fine below);
                end = k.end;
              };
          there = omega arith;
        }
