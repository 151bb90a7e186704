-- The entries of a file, tested and copied one after the other into two tables of zeros: then these tables are a pool that holds them.
-- Assumes nothing.
use mathlib.Core.Path.{◌≡◌, sym, ap, ap₂, ◌∙◌, subst⁻¹, fun_ext}
use mathlib.Core.Logic.{◌⊎◌, ⊎_elim}
use mathlib.Core.Bool.{true, false, false≢true, cond}
use mathlib.Core.List.{List}
use Prim.Native.Nat.{ℕ, ◌+◌, ◌*◌, ◌<◌, ◌≤◌}
use native.Mathlib.Nat.{not-suc-le-zero}
use native.Mathlib.Omega.{arith}
use lib.ListN.{length, get_or, replicate, length-replicate, get_or-replicate, get_or-eq_default}
use borrow.Author.Tests.{lt-ltb, le-ltb}
use Rattle.low_bytes.specs.LowBytes.{number_at}
use Rattle.pool.specs.Nodes.{decode, may_stand_at}
use Rattle.pool.specs.Pool.{limit, Pool, empty, node_in}
use Rattle.pool.specs.declared.node.Node.{Node}
use Rattle.pool.specs.declared.node.Node.TheVariants.{Empty}
use Rattle.shape.specs.File.{entry_in}
use Rattle.shape.proofs.Lists.{below_or_not}
use Rattle.shape.proofs.Pools.{Rules, node_free, node_falls}
use Rattle.node_read.specs.Reads.{Entered}
use Rattle.node_read.proofs.Testing.{all_pass, one_fails}

-- a table of zeros
record Zeros (t : List ℕ) : Type 0 where
  long : length t ≡ limit
  zero : (j : ℕ) → get_or t j 0 ≡ 0

zeros_are_zeros : {t : List ℕ} → t ≡ replicate {A = ℕ} limit 0 → Zeros t
zeros_are_zeros e = record { long = ap length e ∙ length-replicate {A = ℕ} limit 0; zero = λ j. ap (λ t. get_or t j 0) e ∙ of_zeros j (below_or_not j limit) }
  where
    of_zeros : (j : ℕ) → (j < limit) ⊎ (limit ≤ j) → get_or {A = ℕ} (replicate limit 0) j 0 ≡ 0
    of_zeros j d = ⊎_elim (λ l. get_or-replicate limit j 0 0 l) (λ l. get_or-eq_default (replicate limit 0) 0 (subst⁻¹ (λ k. k ≤ j) (length-replicate {A = ℕ} limit 0) l)) d

-- a table of zeros with its first i places filled by f
pub record Filled (i : ℕ) (f : ℕ → ℕ) (t : List ℕ) : Type 0 where
  pub long : length t ≡ limit
  pub filled : (j : ℕ) → j < i → get_or t j 0 ≡ f j
  pub free : (j : ℕ) → i ≤ j → get_or t j 0 ≡ 0

none_filled : (f : ℕ → ℕ) {t : List ℕ} → Zeros t → Filled 0 f t
none_filled f z = record { long = z.long; filled = λ j l. absurd (not-suc-le-zero l); free = λ j l. z.zero j }

-- an entry's kind byte and word
abbrev pub kind_in : ℕ → List ℕ → ℕ → ℕ
kind_in first bs i = get_or bs (first + i) 0

abbrev pub word_in : ℕ → ℕ → List ℕ → ℕ → ℕ
word_in first n bs i = number_at 8 bs (first + n + 8 * i)

-- the first i entries have passed and stand in the tables
pub record Entering (first n : ℕ) (bs : List ℕ) (i : ℕ) (E : Pool) : Type 0 where
  pub few : i ≤ n
  pub passed : (j : ℕ) → j < i → may_stand_at j (decode (kind_in first bs j) (word_in first n bs j)) ≡ true
  pub kinds : Filled i (kind_in first bs) E.kinds
  pub words : Filled i (word_in first n bs) E.words

pub none_entered : (first n : ℕ) (bs : List ℕ) {E : Pool} → (E.kinds ≡ empty.kinds) × (E.words ≡ empty.words) → Entering first n bs 0 E
unfolding empty
none_entered first n bs e =
    record {
      few = omega arith;
      passed = λ j l. absurd (not-suc-le-zero l);
      kinds = none_filled (kind_in first bs) (zeros_are_zeros e.0);
      words = none_filled (word_in first n bs) (zeros_are_zeros e.1);
    }

module _ (first n : ℕ) (bs : List ℕ) (few_entries : n ≤ limit) where
  entry_is : (j : ℕ) → j < n → entry_in first n bs j ≡ decode (kind_in first bs j) (word_in first n bs j)
  unfolding entry_in
  entry_is j l = rw (lt-ltb j n l)

  past_the_last : (j : ℕ) → n ≤ j → entry_in first n bs j ≡ Empty
  unfolding entry_in
  past_the_last j l = rw (le-ltb j n l)

  -- what the code has found of entry i: its word, its node and the test
  module _ {i : ℕ} {E : Pool} (h : Entering first n bs i E) (l : i < n) {word : ℕ} {node : Node} (e : word ≡ word_in first n bs i) (d : node ≡ decode (kind_in first bs i) word) where
    node_is : node ≡ decode (kind_in first bs i) (word_in first n bs i)
    node_is = d ∙ ap (decode (kind_in first bs i)) e

    pub not_entered : may_stand_at i node ≡ false → Entered false first n bs E
    not_entered f =
        record {
          tested = one_fails n (λ j. may_stand_at j (entry_in first n bs j)) i l (ap (may_stand_at i) (entry_is i l ∙ sym node_is) ∙ f);
          copied = λ t. absurd (false≢true t);
          falls = λ t. absurd (false≢true t);
        }

  module _ {i : ℕ} {E : Pool} (h : Entering first n bs i E) (l : n ≤ i) where
    decoded_is : (j : ℕ) → j < n → decode (get_or E.kinds j 0) (get_or E.words j 0) ≡ decode (kind_in first bs j) (word_in first n bs j)
    decoded_is j m = ap₂ decode (h.kinds.filled j (omega arith)) (h.words.filled j (omega arith))

    is_a_pool : Rules E.kinds E.words n
    is_a_pool =
        record {
          kinds_long = h.kinds.long;
          words_long = h.words.long;
          count_fits = few_entries;
          stands = λ j m. ap (may_stand_at j) (decoded_is j m) ∙ h.passed j (omega arith);
          free = λ j m below. let few : i ≤ n = h.few in (h.kinds.free j (omega arith), h.words.free j (omega arith));
        }

    holds_the_entries : (j : ℕ) → node_in E.kinds E.words j ≡ entry_in first n bs j
    unfolding node_in
    holds_the_entries j =
        ⊎_elim
        (λ m. ap (λ t. cond t (decode (get_or E.kinds j 0) (get_or E.words j 0)) Empty) (lt-ltb j limit (omega arith)) ∙ decoded_is j m ∙ sym (entry_is j m))
        (λ m. node_free E.kinds E.words n is_a_pool j m ∙ sym (past_the_last j m))
        (below_or_not j n)

    pub all_entered : Entered true first n bs E
    all_entered =
        record {
          tested = all_pass n (λ j. may_stand_at j (entry_in first n bs j)) i l (λ j m. let few : i ≤ n = h.few in ap (may_stand_at j) (entry_is j (omega arith)) ∙ h.passed j m);
          copied = λ t. fun_ext holds_the_entries;
          falls = λ t. node_falls E.kinds E.words n is_a_pool;
        }
