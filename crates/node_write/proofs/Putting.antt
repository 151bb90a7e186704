-- Bytes of entries put over an output, entry after entry: a kind, and behind all kinds a word.
-- Assumes nothing.
use mathlib.Core.Path.{◌≡◌, refl, sym, ap, ap₂, ◌∙◌}
use mathlib.Core.List.{List, [], ◌∷◌, ◌++◌, map}
use Prim.Native.Nat.{ℕ, suc, ◌+◌, ◌*◌, ◌≤◌, ◌<◌}
use native.Mathlib.Numerals.{add-one}
use native.Mathlib.Omega.{arith}
use lib.ListN.{length, set, length-map, length-set}
use lib.Seq.{sets, length-sets}
use Rattle.std.proofs.lemmas.List.{set_comm}
use Rattle.pool.specs.Nodes.{kind_of, word_of}
use Rattle.pool.specs.declared.node.Node.{Node}
use Rattle.low_bytes.specs.LowBytes.{low_bytes}
use Rattle.low_bytes.proofs.Writing.{sets_joined}
use Rattle.shape.specs.File.{word_bytes}
use Rattle.shape.specs.Table.{up_to}
use Rattle.shape.proofs.Lists.{map_append}
use Rattle.shape.proofs.Tables.{length_up_to}
use Rattle.shape.proofs.Files.{length_words, words_append}
use Rattle.node_write.specs.Entries.{bytes_of}

-- the first m of n entries are put
pub record EntriesPut (q : ℕ → Node) (n at : ℕ) (old : List ℕ) (m : ℕ) (out : List ℕ) : Type 0 where
  pub few : m ≤ n
  pub long : length out ≡ length old
  pub is : out ≡ sets (sets old at (map kind_of (up_to m q))) (at + n) (word_bytes (up_to m q))

pub no_entries_put : (q : ℕ → Node) (n at : ℕ) (old : List ℕ) → EntriesPut q n at old 0 old
unfolding up_to
no_entries_put q n at old = record { few = omega arith; long = refl; is = refl }

-- a byte in front of others that are put
set_in_front : (xs l : List ℕ) (i j x : ℕ) → i < j → set (sets l j xs) i x ≡ sets (set l i x) j xs
set_in_front [] l i j x h = refl
set_in_front (y ∷ xs) l i j x h = set_in_front xs (set l j y) i (suc j) x (omega arith) ∙ ap (λ k. sets k (suc j) xs) (set_comm l j i y x other)
  where
    other : j ≡ i → ⊥
    other e = omega arith

-- bytes behind others
pub put_behind : (xs ys l : List ℕ) (i j : ℕ) → j ≡ i + length xs → sets (sets l i xs) j ys ≡ sets l i (xs ++ ys)
put_behind xs ys l i j e = rw e (sym (sets_joined xs ys l i))

module _ (q : ℕ → Node) (old : List ℕ) (at m : ℕ) where
  kinds_then : set (sets old at (map kind_of (up_to m q))) (at + m) (kind_of (q m)) ≡ sets old at (map kind_of (up_to (suc m) q))
  unfolding up_to
  kinds_then =
      put_behind (map kind_of (up_to m q)) (kind_of (q m) ∷ []) old at (at + m) (ap (λ k. at + k) (sym (length-map (up_to m q) kind_of ∙ length_up_to m q)))
      ∙ ap (sets old at) (sym (map_append kind_of (up_to m q) (q m ∷ [])))

  words_then : sets (sets old at (word_bytes (up_to m q))) (at + 8 * m) (low_bytes 8 (word_of (q m))) ≡ sets old at (word_bytes (up_to (suc m) q))
  unfolding up_to
  words_then =
      put_behind (word_bytes (up_to m q)) (low_bytes 8 (word_of (q m))) old at (at + 8 * m) (ap (λ k. at + k) (sym (length_words (up_to m q) ∙ ap (λ k. 8 * k) (length_up_to m q))))
      ∙ ap (sets old at) (sym (words_append (up_to m q) (q m)))

pub entry_put : {q : ℕ → Node} {n at : ℕ} {old : List ℕ} {m : ℕ} {out : List ℕ} {e : Node} {kind word : ℕ} → EntriesPut q n at old m out → m < n
    → e ≡ q m
    → kind ≡ kind_of e
    → word ≡ word_of e
    → {out' : List ℕ} → out' ≡ sets (set out (at + m) kind) (at + n + 8 * m) (low_bytes 8 word)
    → EntriesPut q n at old (m + 1) out'
entry_put {q} {n} {at} {old} {m} {out} {e} {kind} {word} h l is k w {out'} put =
    record {
      few = omega arith;
      long = ap length put ∙ length-sets (set out (at + m) kind) (at + n + 8 * m) (low_bytes 8 word) ∙ length-set out (at + m) kind ∙ h.long;
      is =
          put
          ∙ ap₂ (λ x y. sets (set out (at + m) x) (at + n + 8 * m) (low_bytes 8 y)) (k ∙ ap kind_of is) (w ∙ ap word_of is)
          ∙ ap (λ o. sets (set o (at + m) (kind_of (q m))) (at + n + 8 * m) (low_bytes 8 (word_of (q m)))) h.is
          ∙ ap (λ o. sets o (at + n + 8 * m) (low_bytes 8 (word_of (q m))))
          (set_in_front (word_bytes (up_to m q)) (sets old at (map kind_of (up_to m q))) (at + m) (at + n) (kind_of (q m)) (omega arith))
          ∙ ap (λ o. sets (sets o (at + n) (word_bytes (up_to m q))) (at + n + 8 * m) (low_bytes 8 (word_of (q m)))) (kinds_then q old at m)
          ∙ words_then q (sets old at (map kind_of (up_to (suc m) q))) (at + n) m
          ∙ ap (λ j. sets (sets old at (map kind_of (up_to j q))) (at + n) (word_bytes (up_to j q))) (sym (add-one m));
    }

pub all_entries_put : {q : ℕ → Node} {n at : ℕ} {old : List ℕ} {m : ℕ} {out : List ℕ} → EntriesPut q n at old m out → n ≤ m → out ≡ sets old at (bytes_of (up_to n q))
all_entries_put {q} {n} {at} {old} {m} h l =
    h.is
    ∙ ap (λ k. sets (sets old at (map kind_of (up_to k q))) (at + n) (word_bytes (up_to k q))) (same m n h.few l)
    ∙ put_behind (map kind_of (up_to n q)) (word_bytes (up_to n q)) old at (at + n) (ap (λ k. at + k) (sym (length-map (up_to n q) kind_of ∙ length_up_to n q)))
  where
    same : (m n : ℕ) → m ≤ n → n ≤ m → m ≡ n
    same m n a b = omega arith
