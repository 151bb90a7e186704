-- The pools of the statement keep the rules: a pool of few entries by a test of these alone, and the two full ones by the law of their entries.
-- Assumes nothing.
use mathlib.Core.Path.{◌≡◌, refl, ap, ◌∙◌}
use mathlib.Core.Bool.{Bool, true, false, ◌&&◌, and-eq-true_iff}
use mathlib.Core.List.{List, ◌∷◌, map}
use Prim.Native.Nat.{ℕ, zero, suc, ◌+◌, ◌-◌, ◌<◌, ◌≤◌}
use native.Mathlib.Nat.{zero-add}
use native.Mathlib.Omega.{arith}
use lib.Dec.{leb, ltb, lit≤}
use lib.ListN.{length, get_or, replicate, length-append, length-map, length-replicate, get_or-replicate}
use lib.Seq.{get_or-append-add}
use borrow.Author.Tests.{leb-true, ltb-true, ltb-false, lt-ltb}
use Rattle.pool.specs.declared.node.Node.TheVariants.{Exp}
use Rattle.pool.specs.Nodes.{decode, half, may_stand_at}
use Rattle.pool.specs.Pool.{limit, is_pool, each}
use Rattle.constructor_laws.proofs.Rules.{kept_rules, each_at, entry_at, entry_before, entry_behind}
use Rattle.limits.specs.Lent.{Entry, Lent, lent, table, kind_in, word_in, kinds_of, words_of, from, full, chain}

-- a lent pool passes the test of 1
abbrev pub Passes : Lent → Type 0
Passes P = is_pool P.kinds P.words P.count ≡ true

-- entry i of two tables may stand there
abbrev pub stands_at : List ℕ → List ℕ → ℕ → Bool
stands_at ks ws i = may_stand_at i (decode (get_or ks i 0) (get_or ws i 0))

-- the test of the entries alone
abbrev pub fits : List Entry → Bool
fits es = leb (length es) 4096 && each (length es) (stands_at (kinds_of es) (words_of es))

-- ---- tables
table_long : (xs : List ℕ) → length xs ≤ 4096 → length (table xs) ≡ 4096
table_long xs h = simp (length-append, length-replicate) (omega arith)

zero_behind : (xs : List ℕ) (i : ℕ) → length xs ≤ i → i < 4096 → get_or (table xs) i 0 ≡ 0
zero_behind xs i h l =
    let back : i ≡ length xs + (i - length xs) = omega arith in
    rw back (get_or-append-add xs (replicate (4096 - length xs) 0) (i - length xs) 0 ∙ get_or-replicate {A = ℕ} (4096 - length xs) (i - length xs) 0 0 (omega arith))

-- ---- a pool of few entries
pub by_rules : (es : List Entry) → fits es ≡ true → Passes (lent es)
unfolding lent
by_rules es e =
    let both = (and-eq-true_iff (leb (length es) 4096) (each (length es) (stands_at ks ws))).0 e in
    let short : length es ≤ 4096 = leb-true (length es) 4096 both.0 in
    let kinds_short : length (map kind_in es) ≤ 4096 = rw (length-map es kind_in) short in
    let words_short : length (map word_in es) ≤ 4096 = rw (length-map es word_in) short in
    kept_rules ks ws (length es) (record {
      kinds_long = table_long (map kind_in es) kinds_short;
      words_long = table_long (map word_in es) words_short;
      within = short;
      entries = λ i l. entry i l both.1 (ltb i (length es)) refl;
    })
  where
    ks : List ℕ
    ks = kinds_of es

    ws : List ℕ
    ws = words_of es

    entry : (i : ℕ) → i < limit → each (length es) (stands_at ks ws) ≡ true → (t : Bool) → ltb i (length es) ≡ t → entry_at ks ws (length es) i ≡ true
    entry i l all true t =
        let h : i < length es = ltb-true i (length es) t in
        entry_before ks ws (length es) i h ∙ each_at (length es) (stands_at ks ws) i h all
    entry i l all false t =
        let h : length es ≤ i = ltb-false i (length es) t in
        entry_behind ks ws (length es) i h
        ∙ rw (zero_behind (map kind_in es) i (rw (length-map es kind_in) h) l, zero_behind (map word_in es) i (rw (length-map es word_in) h) l)

-- ---- the full pools
a_variable : (i k w : ℕ) → k ≡ 1 → w ≡ 0 → may_stand_at i (decode k w) ≡ true
unfolding may_stand_at decode
a_variable i k w e f = rw (e, f)

the_literal : may_stand_at 1 (decode 2 0) ≡ true
unfolding may_stand_at decode
the_literal = refl

pub full_by_rules : Passes full
unfolding full
full_by_rules = kept_rules ks ws 4096 (record { kinds_long = refl; words_long = refl; within = lit≤ tt; entries = entry })
  where
    ks : List ℕ
    ks = 1 ∷ 2 ∷ replicate 4094 1

    ws : List ℕ
    ws = replicate 4096 0

    entry : (i : ℕ) → i < limit → entry_at ks ws 4096 i ≡ true
    entry zero h = entry_before ks ws 4096 0 h ∙ a_variable 0 1 0 refl refl
    entry (suc zero) h = entry_before ks ws 4096 1 h ∙ the_literal
    entry (suc (suc j)) h =
        entry_before ks ws 4096 (suc (suc j)) h
        ∙ a_variable (suc (suc j)) (get_or ks (suc (suc j)) 0) (get_or ws (suc (suc j)) 0) (get_or-replicate {A = ℕ} 4094 j 1 0 (omega arith)) (get_or-replicate {A = ℕ} 4096 (suc (suc j)) 0 0 h)

pub from_at : (i n j : ℕ) → j < n → get_or (from i n) j 0 ≡ i + j
from_at i zero j h = absurd (none j h)
  where
    none : (j : ℕ) → j < 0 → ⊥
    none j h = omega arith
from_at i (suc n) zero h = omega arith
from_at i (suc n) (suc j) h = from_at (suc i) n j (omega arith) ∙ omega arith

-- no number of them, and no default 0, reaches a bound above them
pub from_below : (i n j m : ℕ) → i + n ≤ m → 0 < m → get_or (from i n) j 0 < m
from_below i zero j m h l = l
from_below i (suc n) zero m h l = omega arith
from_below i (suc n) (suc j) m h l = from_below (suc i) n j m (omega arith) l

an_exp : (j k w : ℕ) → k ≡ 6 → w ≡ j → j < half → decode k w ≡ Exp j
unfolding decode
an_exp j k w e f h = rw (e, f, lt-ltb j half h)

abbrev pub chain_kinds : List ℕ
chain_kinds = 1 ∷ replicate 4095 6

abbrev pub chain_words : List ℕ
chain_words = 0 ∷ from 0 4095

pub chain_entry : (j : ℕ) → suc j < 4096 → decode (get_or chain_kinds (suc j) 0) (get_or chain_words (suc j) 0) ≡ Exp j
chain_entry j h =
    let small : 4096 ≤ half = lit≤ tt in
    an_exp j (get_or (replicate 4095 6) j 0) (get_or (from 0 4095) j 0) (get_or-replicate {A = ℕ} 4095 j 6 0 (omega arith)) (from_at 0 4095 j (omega arith) ∙ zero-add j) (omega arith)

exp_stands : (j : ℕ) → may_stand_at (suc j) (Exp j) ≡ true
unfolding may_stand_at
exp_stands j = rw (lt-ltb j (suc j) (omega arith))

pub chain_by_rules : Passes chain
unfolding chain
chain_by_rules = kept_rules chain_kinds chain_words 4096 (record { kinds_long = refl; words_long = refl; within = lit≤ tt; entries = entry })
  where
    entry : (i : ℕ) → i < limit → entry_at chain_kinds chain_words 4096 i ≡ true
    entry zero h = entry_before chain_kinds chain_words 4096 0 h ∙ a_variable 0 1 0 refl refl
    entry (suc j) h = entry_before chain_kinds chain_words 4096 (suc j) h ∙ ap (may_stand_at (suc j)) (chain_entry j h) ∙ exp_stands j
