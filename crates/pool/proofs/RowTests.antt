-- The comparisons with the numbers of a kind's row are the rules of the table of kinds.
-- Assumes nothing.
use Rattle.std.proofs.Common.{◌≡◌, ℕ, zero, suc, ◌+◌, ◌-◌, ◌*◌, ◌%◌, ◌^◌, ◌<◌, ◌≤◌, Bool, true, false, cond, ◌&&◌, ltb, leb, List, get_or, sym, refl, ap, ◌∙◌, arith, w64, ltb-false, ltb-true, le-ltb, lt-ltb, le-leb, leb-false, leb-true}
use mir.Val.{hbits}
use borrow.Author.Tests.{lt-leb}
use Rattle.literal.specs.Literal.{is_literal, signed, greatest}
use Rattle.pool.specs.Nodes.{decode, may_stand_at, half, low_of, high_of, least_exponent, greatest_variable}
use Rattle.pool.specs.Rows.{row_numbers}
use Rattle.pool.specs.declared.node.Node.{Node}
use Rattle.pool.specs.declared.node.Node.TheVariants.{Empty, Variable, Lit, Exp, Log, Pow}
use Rattle.pool.proofs.KindTable.{and_true, no_kind}

-- the three comparisons with the numbers of a row, as the code makes them
unfoldable row_test : ℕ → ℕ → ℕ → ℕ → ℕ → ℕ → Bool
row_test i w shift span low high = (leb ((w + shift) % 2 ^ 64) span && ltb (low_of w) (low + i)) && ltb (high_of w) (high + i)

-- two tests that say the same
agree : (a b c d : ℕ) → (a ≤ b → c ≤ d) → (b < a → d < c) → leb a b ≡ leb c d
agree a b c d f g = go (leb a b) refl
  where
    go : (t : Bool) → leb a b ≡ t → leb a b ≡ leb c d
    go true e = e ∙ sym (le-leb c d (f (leb-true a b e)))
    go false e = e ∙ sym (lt-leb c d (g (leb-false a b e)))

agree_lt : (a b c d : ℕ) → (a ≤ b → c < d) → (b < a → d ≤ c) → leb a b ≡ ltb c d
agree_lt a b c d f g = go (leb a b) refl
  where
    go : (t : Bool) → leb a b ≡ t → leb a b ≡ ltb c d
    go true e = e ∙ sym (lt-ltb c d (f (leb-true a b e)))
    go false e = e ∙ sym (le-ltb c d (g (leb-false a b e)))

three : {a b c d e f : Bool} → a ≡ d → b ≡ e → c ≡ f → ((a && b) && c) ≡ (d && (e && f))
three {d = d} {e = e} {f = f} p q r = rw (p, q, r) (in_turn_lem d e f)
  where
    in_turn_lem : (a b c : Bool) → ((a && b) && c) ≡ (a && (b && c))
    in_turn_lem true b c = refl
    in_turn_lem false b c = refl

-- a node that is there only where a test of its word holds
picked : (i : ℕ) (n : Node) (t b : Bool) → (t ≡ true → b ≡ may_stand_at i n) → (t && b) ≡ may_stand_at i (cond t n Empty)
unfolding may_stand_at
picked i n true b e = e refl
picked i n false b e = refl

-- what a kind's row says, where its numbers are added to a node's number and to a word
record RowSays (i w k : ℕ) : Type 0 where
  low_small : get_or row_numbers (4 * k + 2) 0 ≤ half
  high_small : get_or row_numbers (4 * k + 3) 0 ≤ half
  tests :
      row_test i w (get_or row_numbers (4 * k) 0) (get_or row_numbers (4 * k + 1) 0) (get_or row_numbers (4 * k + 2) 0) (get_or row_numbers (4 * k + 3) 0) ≡ may_stand_at i (decode k w)

module _ (i w : ℕ) (number : i < half) (wide : w < 2 ^ 64) where
  same : (w + 0) % 2 ^ 64 ≡ w
  same = omega arith

  low_any : ltb (low_of w) (half + i) ≡ true
  low_any = lt-ltb (low_of w) (half + i) (omega arith)

  high_any : ltb (high_of w) (half + i) ≡ true
  high_any = lt-ltb (high_of w) (half + i) (omega arith)

  word_any : leb ((w + 0) % 2 ^ 64) (2 ^ 64 - 1) ≡ true
  word_any = le-leb ((w + 0) % 2 ^ 64) (2 ^ 64 - 1) (omega arith)

  low_own : ltb (low_of w) (0 + i) ≡ ltb (low_of w) i
  low_own = ap (ltb (low_of w)) (omega arith)

  high_own : ltb (high_of w) (0 + i) ≡ ltb (high_of w) i
  high_own = ap (ltb (high_of w)) (omega arith)

  -- the one word that is allowed has a low half that is below no node's number
  row_none : row_test i w 1 0 0 0 ≡ may_stand_at i (decode 0 w)
  unfolding row_test decode may_stand_at
  row_none = go (leb ((w + 1) % 2 ^ 64) 0) refl
    where
      go : (t : Bool) → leb ((w + 1) % 2 ^ 64) 0 ≡ t → ((t && ltb (low_of w) (0 + i)) && ltb (high_of w) (0 + i)) ≡ false
      go true e = rw (le-ltb (low_of w) (0 + i) (omega (arith, leb-true ((w + 1) % 2 ^ 64) 0 e)))
      go false e = refl

  row_variable : row_test i w 0 greatest_variable half half ≡ may_stand_at i (decode 1 w)
  unfolding row_test decode may_stand_at
  row_variable =
      three (ap (λ (n : ℕ). leb n greatest_variable) same) low_any high_any ∙ picked i (Variable w) (leb w greatest_variable) true (λ _. refl)

  literal_span : leb ((w + greatest) % 2 ^ 64) (2 * greatest) ≡ is_literal (signed w)
  literal_span = go (ltb w (2 ^ hbits w64)) refl
    where
      go : (t : Bool) → ltb w (2 ^ hbits w64) ≡ t → leb ((w + greatest) % 2 ^ 64) (2 * greatest) ≡ is_literal (signed w)
      go true e =
          let small = ltb-true w (2 ^ hbits w64) e in
          rw e (agree ((w + greatest) % 2 ^ 64) (2 * greatest) w greatest (λ h. omega (arith, h, small)) (λ h. omega (arith, h, small)))
      go false e =
          let large = ltb-false w (2 ^ hbits w64) e in
          rw e (agree ((w + greatest) % 2 ^ 64) (2 * greatest) (suc (2 ^ 64 - suc w)) greatest (λ h. omega (arith, h, large)) (λ h. omega (arith, h, large)))

  row_literal : row_test i w greatest (2 * greatest) half half ≡ may_stand_at i (decode 2 w)
  unfolding row_test decode may_stand_at
  row_literal = three literal_span low_any high_any ∙ picked i (Lit (signed w)) (is_literal (signed w)) true (λ _. refl)

  -- Add, Mul, Div and Max
  two_parts : row_test i w 0 (2 ^ 64 - 1) 0 0 ≡ (ltb (low_of w) i && (ltb (high_of w) i && true))
  unfolding row_test
  two_parts = three word_any low_own (high_own ∙ and_true _)

  -- Exp and Log
  module _ (k : ℕ) (n : Node) (one : may_stand_at i n ≡ (ltb w i && true)) (read : decode k w ≡ cond (ltb w half) n Empty) where
    one_span : leb ((w + 0) % 2 ^ 64) (half - 1) ≡ ltb w half
    one_span = agree_lt ((w + 0) % 2 ^ 64) (half - 1) w half (λ h. omega (arith, h)) (λ h. omega (arith, h))

    one_part : ltb w half ≡ true → (ltb (low_of w) i && true) ≡ may_stand_at i n
    one_part h =
        let e : low_of w ≡ w = omega (arith, ltb-true w half h) in
        rw e (sym one)

    row_one : row_test i w 0 (half - 1) 0 half ≡ may_stand_at i (decode k w)
    unfolding row_test
    row_one = three one_span low_own high_any ∙ picked i n (ltb w half) _ one_part ∙ ap (may_stand_at i) (sym read)

  power_span : leb ((w + (2 ^ 64 - half * least_exponent)) % 2 ^ 64) (2 ^ 64 - half * least_exponent - 1) ≡ leb least_exponent (high_of w)
  power_span =
      agree ((w + (2 ^ 64 - half * least_exponent)) % 2 ^ 64) (2 ^ 64 - half * least_exponent - 1) least_exponent (high_of w) (λ h. omega (arith, h)) (λ h. omega (arith, h))

  row_pow : row_test i w (2 ^ 64 - half * least_exponent) (2 ^ 64 - half * least_exponent - 1) 0 half ≡ may_stand_at i (decode 8 w)
  unfolding row_test decode may_stand_at
  row_pow = three power_span low_own high_any ∙ picked i (Pow (low_of w) (high_of w)) (leb least_exponent (high_of w)) _ (λ _. refl)

  rows : (k : ℕ) → k < 10 → RowSays i w k
  unfolding decode may_stand_at
  rows zero h = record { low_small = omega arith; high_small = omega arith; tests = row_none }
  rows (suc zero) h = record { low_small = omega arith; high_small = omega arith; tests = row_variable }
  rows (suc (suc zero)) h = record { low_small = omega arith; high_small = omega arith; tests = row_literal }
  rows (suc (suc (suc zero))) h = record { low_small = omega arith; high_small = omega arith; tests = two_parts }
  rows (suc (suc (suc (suc zero)))) h = record { low_small = omega arith; high_small = omega arith; tests = two_parts }
  rows (suc (suc (suc (suc (suc zero))))) h = record { low_small = omega arith; high_small = omega arith; tests = two_parts }
  rows (suc (suc (suc (suc (suc (suc zero)))))) h =
      record { low_small = omega arith; high_small = omega arith; tests = row_one 6 (Exp w) refl refl }
  rows (suc (suc (suc (suc (suc (suc (suc zero))))))) h =
      record { low_small = omega arith; high_small = omega arith; tests = row_one 7 (Log w) refl refl }
  rows (suc (suc (suc (suc (suc (suc (suc (suc zero)))))))) h = record { low_small = omega arith; high_small = omega arith; tests = row_pow }
  rows (suc (suc (suc (suc (suc (suc (suc (suc (suc zero))))))))) h =
      record { low_small = omega arith; high_small = omega arith; tests = two_parts }
  rows (suc (suc (suc (suc (suc (suc (suc (suc (suc (suc k)))))))))) h = absurd (none k h)
    where
      none : (k : ℕ) → suc (suc (suc (suc (suc (suc (suc (suc (suc (suc k))))))))) < 10 → ⊥
      none k h = omega arith

-- no row: kinds that are none
pub kind_beyond : (i k w : ℕ) → 10 ≤ k → false ≡ may_stand_at i (decode k w)
unfolding may_stand_at
kind_beyond i k w h =
    ap (may_stand_at i) (no_kind k w (λ e. omega (arith, e, h)) (λ e. omega (arith, e, h)) (λ e. omega (arith, e, h)) (λ e. omega (arith, e, h)) (λ e. omega (arith, e, h)) (λ e. omega (arith, e, h)) (λ e. omega (arith, e, h)) (λ e. omega (arith, e, h)) (λ e. omega (arith, e, h)))

-- the same, of a table that holds the rows
module _ (T : List ℕ) (e : T ≡ row_numbers) (i w k : ℕ) (number : i < half) (wide : w < 2 ^ 64) (h : k < 10) where
  pub low_fits : get_or T (4 * k + 2) 0 ≤ half
  low_fits = rw e (rows i w number wide k h).low_small

  pub high_fits : get_or T (4 * k + 3) 0 ≤ half
  high_fits = rw e (rows i w number wide k h).high_small

  pub table_tests :
      (r : ℕ) → r ≡ (w + get_or T (4 * k) 0) % 2 ^ 64 → ((leb r (get_or T (4 * k + 1) 0) && ltb (low_of w) (get_or T (4 * k + 2) 0 + i)) && ltb (high_of w) (get_or T (4 * k + 3) 0 + i)) ≡ may_stand_at i (decode k w)
  unfolding row_test
  table_tests r s = rw (s, e) (rows i w number wide k h).tests
