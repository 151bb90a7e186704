-- The bytes of a list of entries: their length, the entries read back from them, and the bytes of the entries that were read.
-- Assumes nothing.
use mathlib.Core.Path.{◌≡◌, refl, sym, ap, ap₂, ◌∙◌, subst, subst⁻¹, fun_ext}
use mathlib.Core.Logic.{⊎_elim}
use mathlib.Core.Bool.{true, cond}
use mathlib.Core.List.{List, [], ◌∷◌, ◌++◌, map, append_assoc, append-nil}
use Prim.Native.Nat.{ℕ, zero, suc, ◌+◌, ◌*◌, ◌^◌, ◌<◌, ◌≤◌}
use native.Mathlib.Nat.{not-suc-le-zero}
use native.Mathlib.Omega.{arith}
use lib.Dec.{ltb}
use lib.ListN.{length, get_or, take, drop, length-append, length-map, get_or-append, get_or-map, get_or-eq_default, take-append-drop, length-drop}
use lib.Seq.{get_or-append-add, ext_get_or, take-suc, take-add, drop-drop, get_or-drop, take_all}
use borrow.Author.Tests.{lt-ltb, le-ltb}
use Rattle.low_bytes.specs.LowBytes.{low_bytes, number_at, AreBytes}
use Rattle.pool.specs.Nodes.{decode, kind_of, word_of, is_node}
use Rattle.pool.specs.declared.node.Node.{Node}
use Rattle.pool.specs.declared.node.Node.TheVariants.{Empty}
use Rattle.shape.specs.Table.{up_to}
use Rattle.shape.specs.File.{word_bytes, file_of, size_of, entry_in, entry_of}
use Rattle.shape.proofs.Lists.{map_append, below_or_not}
use Rattle.shape.proofs.Tables.{length_up_to}
use Rattle.shape.proofs.Entries.{table_of}
use Rattle.shape.proofs.TableOfKinds.{Valid, decoded, decode_own, word_fits, kind_fits}
use Rattle.low_bytes.proofs.Bytes.{number_after_lem, number_of_bytes, number_fits, bytes_of_number, bytes_append, bytes_are_bytes}

-- "its length is .. 4 + 9 × n"
pub length_words : (es : List Node) → length (word_bytes es) ≡ 8 * length es
length_words [] = refl
length_words (e ∷ es) = let rest : length (word_bytes es) ≡ 8 * length es = length_words es in omega arith

pub length_file : (es : List Node) → length (file_of es) ≡ 4 + 9 * length es
unfolding file_of
length_file es =
    let kinds : length (map kind_of es) ≡ length es = length-map es kind_of in
    let words : length (word_bytes es) ≡ 8 * length es = length_words es in
    let both : length (map kind_of es ++ word_bytes es) ≡ length (map kind_of es) + length (word_bytes es) = length-append (map kind_of es) (word_bytes es) in
    omega arith

kinds_are_bytes : (es : List Node) → AreBytes (map kind_of es)
kinds_are_bytes [] i = omega arith
kinds_are_bytes (e ∷ es) zero = kind_fits e
kinds_are_bytes (e ∷ es) (suc i) = kinds_are_bytes es i

words_are_bytes : (es : List Node) → AreBytes (word_bytes es)
words_are_bytes [] i = omega arith
words_are_bytes (e ∷ es) i = bytes_append (low_bytes 8 (word_of e)) (word_bytes es) (bytes_are_bytes 8 (word_of e)) (words_are_bytes es) i

pub file_is_bytes : (es : List Node) → AreBytes (file_of es)
unfolding file_of
file_is_bytes es =
    bytes_append (low_bytes 4 (length es)) (map kind_of es ++ word_bytes es) (bytes_are_bytes 4 (length es)) (bytes_append (map kind_of es) (word_bytes es) (kinds_are_bytes es) (words_are_bytes es))

-- entries that the table of kinds has, few enough for 32 bits
pub record Entries (es : List Node) : Type 0 where
  pub few : length es < 2 ^ 32
  pub valid : (i : ℕ) → i < length es → Valid (table_of es i)

pub size_of_file : (es : List Node) → length es < 2 ^ 32 → size_of (file_of es) ≡ length es
unfolding file_of
size_of_file es few = number_of_bytes 4 (length es) (map kind_of es ++ word_bytes es) few

kind_in_file : (es : List Node) (i : ℕ) → i < length es → get_or (file_of es) (4 + i) 0 ≡ kind_of (table_of es i)
unfolding file_of
kind_in_file es i l =
    get_or-append-add (low_bytes 4 (length es)) (map kind_of es ++ word_bytes es) i 0
    ∙ get_or-append (map kind_of es) (word_bytes es) 0 i (rw (length-map es kind_of) l)
    ∙ get_or-map kind_of es i Empty

word_in_words : (es : List Node) (i : ℕ) → i < length es → Valid (table_of es i) → number_at 8 (word_bytes es) (8 * i) ≡ word_of (table_of es i)
word_in_words [] i l v = absurd (not-suc-le-zero l)
word_in_words (e ∷ es) zero l v = number_of_bytes 8 (word_of e) (word_bytes es) (word_fits e v)
word_in_words (e ∷ es) (suc i) l v =
    ap (number_at 8 (word_bytes (e ∷ es))) (next i) ∙ number_after_lem 8 (low_bytes 8 (word_of e)) (word_bytes es) (8 * i) ∙ word_in_words es i (omega arith) v
  where
    next : (i : ℕ) → 8 * suc i ≡ 8 + 8 * i
    next i = omega arith

word_in_file : (es : List Node) (i : ℕ) → i < length es → Valid (table_of es i) → number_at 8 (file_of es) (4 + length es + 8 * i) ≡ word_of (table_of es i)
unfolding file_of
word_in_file es i l v =
    ap (number_at 8 (low_bytes 4 (length es) ++ (map kind_of es ++ word_bytes es))) (place (length es) (length (map kind_of es)) i (length-map es kind_of))
    ∙ number_after_lem 8 (low_bytes 4 (length es)) (map kind_of es ++ word_bytes es) (length (map kind_of es) + 8 * i)
    ∙ number_after_lem 8 (map kind_of es) (word_bytes es) (8 * i)
    ∙ word_in_words es i l v
  where
    place : (n m i : ℕ) → m ≡ n → 4 + n + 8 * i ≡ 4 + (m + 8 * i)
    place n m i e = omega arith

-- a file's entries are those that it was written from
pub entry_of_file : (es : List Node) → Entries es → (i : ℕ) → entry_of (file_of es) i ≡ table_of es i
unfolding entry_in
entry_of_file es ok i =
    ap (λ n. cond (ltb i n) (decode (get_or (file_of es) (4 + i) 0) (number_at 8 (file_of es) (4 + n + 8 * i))) Empty) (size_of_file es ok.few)
    ∙ ⊎_elim
    (λ l.
    ap (λ t. cond t (decode (get_or (file_of es) (4 + i) 0) (number_at 8 (file_of es) (4 + length es + 8 * i))) Empty) (lt-ltb i (length es) l)
    ∙ ap₂ decode (kind_in_file es i l) (word_in_file es i l (ok.valid i l))
    ∙ decode_own (table_of es i) (ok.valid i l))
    (λ l.
    ap (λ t. cond t (decode (get_or (file_of es) (4 + i) 0) (number_at 8 (file_of es) (4 + length es + 8 * i))) Empty) (le-ltb i (length es) l)
    ∙ sym (get_or-eq_default es Empty l))
    (below_or_not i (length es))

pub entries_of_file : (es : List Node) → Entries es → entry_of (file_of es) ≡ table_of es
entries_of_file es ok = fun_ext (entry_of_file es ok)

-- equal files have equal entries
pub same_file_same_entries : (es fs : List Node) → Entries es → Entries fs → file_of es ≡ file_of fs → es ≡ fs
same_file_same_entries es fs ok too e =
    ext_get_or Empty es fs
    (sym (size_of_file es ok.few) ∙ ap size_of e ∙ size_of_file fs too.few)
    (λ i l. sym (entry_of_file es ok i) ∙ ap (λ bs. entry_of bs i) e ∙ entry_of_file fs too i)

-- the words of one entry more
pub words_append : (es : List Node) (e : Node) → word_bytes (es ++ (e ∷ [])) ≡ word_bytes es ++ low_bytes 8 (word_of e)
words_append [] e = append-nil (low_bytes 8 (word_of e))
words_append (x ∷ es) e = ap (λ r. low_bytes 8 (word_of x) ++ r) (words_append es e) ∙ sym (append_assoc (low_bytes 8 (word_of x)) (word_bytes es) (low_bytes 8 (word_of e)))

-- bytes of the right length whose entries are nodes are those of their entries
module _ (bs : List ℕ) (are : AreBytes bs) (long : length bs ≡ 4 + 9 * size_of bs) (nodes : (i : ℕ) → i < size_of bs → is_node (entry_of bs i) ≡ true) where
  Read : ℕ → Node → Type 0
  Read i e = Valid e × (kind_of e ≡ get_or bs (4 + i) 0) × (word_of e ≡ number_at 8 bs (4 + size_of bs + 8 * i))

  read : (i : ℕ) → i < size_of bs → Read i (entry_of bs i)
  unfolding entry_in Read
  read i l =
      subst⁻¹ (Read i) found
      (decoded (get_or bs (4 + i) 0) (number_at 8 bs (4 + size_of bs + 8 * i)) (number_fits 8 bs are (4 + size_of bs + 8 * i)) (subst (λ e. is_node e ≡ true) found (nodes i l)))
    where
      found : entry_of bs i ≡ decode (get_or bs (4 + i) 0) (number_at 8 bs (4 + size_of bs + 8 * i))
      found = rw (lt-ltb i (size_of bs) l)

  pub entry_valid : (i : ℕ) → i < size_of bs → Valid (entry_of bs i)
  unfolding Read
  entry_valid i l = (read i l).0

  kinds_read : (m : ℕ) → m ≤ size_of bs → map kind_of (up_to m (entry_of bs)) ≡ take m (drop 4 bs)
  unfolding Read up_to
  kinds_read zero l = refl
  kinds_read (suc m) l =
      map_append kind_of (up_to m (entry_of bs)) (entry_of bs m ∷ [])
      ∙ ap₂ (λ ks k. ks ++ (k ∷ [])) (kinds_read m (omega arith)) ((read m l).1 ∙ sym (get_or-drop 4 bs m 0))
      ∙ sym (take-suc (drop 4 bs) m 0 (rw (length-drop 4 bs) (omega arith)))

  words_read : (m : ℕ) → m ≤ size_of bs → word_bytes (up_to m (entry_of bs)) ≡ take (8 * m) (drop (4 + size_of bs) bs)
  unfolding Read up_to
  words_read zero l = refl
  words_read (suc m) l =
      words_append (up_to m (entry_of bs)) (entry_of bs m)
      ∙ ap₂ (λ xs ys. xs ++ ys) (words_read m (omega arith))
      (ap (low_bytes 8) (read m l).2 ∙ bytes_of_number 8 bs are (4 + size_of bs + 8 * m) (omega arith) ∙ ap (take 8) (sym (drop-drop (8 * m) (4 + size_of bs) bs)))
      ∙ sym (take-add (8 * m) 8 (drop (4 + size_of bs) bs))
      ∙ ap (λ k. take k (drop (4 + size_of bs) bs)) (next m)
    where
      next : (m : ℕ) → 8 * m + 8 ≡ 8 * suc m
      next m = omega arith

  pub file_of_read : file_of (up_to (size_of bs) (entry_of bs)) ≡ bs
  unfolding file_of
  file_of_read =
      ap₂ (λ xs ys. xs ++ ys)
      (ap (low_bytes 4) (length_up_to (size_of bs) (entry_of bs)) ∙ bytes_of_number 4 bs are 0 (omega arith))
      (ap₂ (λ xs ys. xs ++ ys)
      (kinds_read (size_of bs) (omega arith))
      (words_read (size_of bs) (omega arith) ∙ take_all (8 * size_of bs) (drop (4 + size_of bs) bs) (rw (length-drop (4 + size_of bs) bs) (omega arith)) ∙ sym (drop-drop (size_of bs) 4 bs))
      ∙ take-append-drop (size_of bs) (drop 4 bs))
      ∙ take-append-drop 4 bs
