-- The run of one key in the code gives what the definition gives: the value of the key as a node, put where its parts stood.
-- Assumes nothing.
use Rattle.std.specs.Prelude.{Result, Ok, Err}
use mathlib.Core.Path.{◌≡◌, refl, sym, ap, ap₂, ◌∙◌}
use mathlib.Core.Bool.{Bool, true, false, false≢true}
use mathlib.Core.List.{List, ◌∷◌}
use Prim.Native.Nat.{ℕ, ◌+◌, ◌-◌, ◌≤◌, ◌<◌}
use native.Mathlib.Omega.{arith}
use lib.Dec.{leb, ltb, eqb}
use lib.Ieee.{Float, nan, binary64, add, mul, div}
use lib.ListN.{length, get_or, set, drop, length-set, drop_of_length-le}
use borrow.Author.Tests.{leb-true, leb-false, ltb-true, ltb-false, eqb-true, eqb-false}
use Rattle.low_bytes.specs.LowBytes.{number_at, AreBytes}
use Rattle.literal.specs.Literal.{is_literal, signed}
use Rattle.double.specs.Double.{double_of, pow_of, max_of}
use Rattle.double.specs.Double.{Valued}
use Rattle.pool.specs.Nodes.{decode, is_node, least_exponent}
use Rattle.pool.specs.declared.node.Node.{Node}
use Rattle.pool.specs.declared.node.Node.TheVariants.{Empty, Variable, Lit, Add, Mul, Div, Pow, Max}
use Rattle.walks.specs.Evaluate.{one, value_of_variable, evaluate_node}
use Rattle.key_strip.specs.Strip.{most_places}
use Rattle.key_strip.specs.Machine.{following, key_of, keys_within, keys_of, taken, accepts, in_place, run_from, run_strip}
use Rattle.strip_run.specs.Held.{in_use}
use Rattle.strip_run.specs.Running.{machine, RunningAt, ran, RanTo}
use Rattle.strip_run.specs.declared.running.Machine.{Machine}
use Rattle.strip_run.proofs.Codes.{literal_key, no_literal_key, power_key, no_power_key}
use Rattle.strip_run.proofs.Cut.{key_of_code, code_cut, code_alone, variable_first, unknown_first}
use Rattle.strip_run.proofs.Accepting.{is_a_key, enough_there, place_there, rest_accepted}
use Rattle.strip_run.proofs.Held.{one_pushed, topmost, below_topmost, two_replaced, one_replaced}

-- the codes that combine, with the key of each and what it does with two values
pub data Combining : Type 0 where
  adds : Combining
  multiplies : Combining
  divides : Combining
  compares : Combining

abbrev pub applied : Combining → Float → Float → Float
applied adds x y = add binary64 x y
applied multiplies x y = mul binary64 x y
applied divides x y = div binary64 x y
applied compares x y = max_of x y

abbrev pub code_of : Combining → ℕ
code_of adds = 3
code_of multiplies = 4
code_of divides = 5
code_of compares = 9

abbrev pair_of : Combining → Node
pair_of adds = Add 1 0
pair_of multiplies = Mul 1 0
pair_of divides = Div 1 0
pair_of compares = Max 1 0

nothing_follows : (op : Combining) → following (code_of op) ≡ 0
unfolding following
nothing_follows adds = refl
nothing_follows multiplies = refl
nothing_follows divides = refl
nothing_follows compares = refl

pair_key : (op : Combining) → key_of (code_of op) 0 ≡ pair_of op
unfolding key_of decode
pair_key adds = refl
pair_key multiplies = refl
pair_key divides = refl
pair_key compares = refl

pair_takes : (op : Combining) → taken (pair_of op) ≡ 2
pair_takes adds = refl
pair_takes multiplies = refl
pair_takes divides = refl
pair_takes compares = refl

pair_value : (values : List Float) (places : List Float) (op : Combining) → evaluate_node values (in_place places) (pair_of op) ≡ Ok (applied op (get_or places 1 nan) (get_or places 0 nan))
pair_value values places adds = refl
pair_value values places multiplies = refl
pair_value values places divides = refl
pair_value values places compares = refl

module _ {s : List ℕ} {values held : List Float} {at d : ℕ} {top below : Float} (t : RunningAt s values held at d top below) where
  -- a key stands at the place, and the rest of the strip after it
  module _ (key : Node) (next : ℕ) (first : keys_of (drop at s) ≡ key ∷ keys_of (drop next s)) where
    tested : accepts d (key ∷ keys_of (drop next s)) ≡ true
    tested = sym (ap (accepts d) first) ∙ t.takes

    key_runs : run_strip values s ≡ one (evaluate_node values (in_place (in_use top below held d)) key) (λ x. run_from values (x ∷ drop (taken key) (in_use top below held d)) (keys_of (drop next s)))
    unfolding run_from
    key_runs = t.so_far ∙ ap (run_from values (in_use top below held d)) first

    key_ran : at < next → next ≤ length s → (found : Valued) → found ≡ evaluate_node values (in_place (in_use top below held d)) key
        → (held' : List Float) (below' : Float) (d' : ℕ) → length held' ≡ most_places → d' ≡ d - taken key + 1 → ((x : Float) → in_use x below' held' d' ≡ x ∷ drop (taken key) (in_use top below held d))
        → RanTo s values at held' (ran next d' found below')
    key_ran later within (Ok x) e held' below' d' long after put = (
      later,
      record {
        within = within;
        small = rw after (place_there d key (keys_of (drop next s)) tested);
        long = long;
        takes = rw after (rest_accepted d key (keys_of (drop next s)) tested);
        so_far =
            key_runs
            ∙ ap (λ v. one v (λ y. run_from values (y ∷ drop (taken key) (in_use top below held d)) (keys_of (drop next s)))) (sym e)
            ∙ ap (λ ps. run_from values ps (keys_of (drop next s))) (sym (put x));
      },
    )
    key_ran later within (Err k) e held' below' d' long after put =
        key_runs ∙ ap (λ v. one v (λ y. run_from values (y ∷ drop (taken key) (in_use top below held d)) (keys_of (drop next s)))) (sym e)

    no_key_runs : is_node key ≡ false → ⊥
    no_key_runs e = false≢true (sym e ∙ is_a_key d key (keys_of (drop next s)) tested)

    -- a key that takes none is pushed
    leaf_room : taken key ≡ 0 → d < most_places
    leaf_room none = omega (arith, place_there d key (keys_of (drop next s)) tested)

    leaf_ran : taken key ≡ 0 → at < next → next ≤ length s → (found : Valued) → found ≡ evaluate_node values (in_place (in_use top below held d)) key → RanTo s values at (set held d below) (ran next (d + 1) found top)
    leaf_ran none later within found e =
        key_ran later within found e (set held d below) top (d + 1) (length-set held d below ∙ t.long) (omega arith)
        (λ x. one_pushed top below held d (omega (arith, t.long, leaf_room none)) x ∙ ap (λ k. x ∷ drop k (in_use top below held d)) (sym none))

  module _ (l : at < length s) where
    -- what follows a code is there
    operand_there : {m : ℕ} → get_or s at 0 ≡ m → following m ≤ length s - (at + 1)
    operand_there {m} is = go (leb (following m) (length s - (at + 1))) refl
      where
        go : (b : Bool) → leb (following m) (length s - (at + 1)) ≡ b → following m ≤ length s - (at + 1)
        go true e = leb-true (following m) (length s - (at + 1)) e
        go false e = absurd (no_key_runs Empty (length s) (code_cut s at l is (leb-false (following m) (length s - (at + 1)) e)) refl)

    module _ (is : get_or s at 0 ≡ 1) where
      pub variable_there : at + 1 + 2 ≤ length s
      unfolding following
      variable_there = omega (arith, operand_there is)

      module _ (bytes : AreBytes s) where
        first : keys_of (drop at s) ≡ Variable (number_at 2 s (at + 1)) ∷ keys_of (drop (at + 1 + 2) s)
        first = variable_first s at l is bytes (omega (arith, variable_there))

        pub variable_room : d < most_places
        variable_room = leaf_room (Variable (number_at 2 s (at + 1))) (at + 1 + 2) first refl

        pub variable_ran : {v : ℕ} → v ≡ number_at 2 s (at + 1) → {found : Valued} → found ≡ value_of_variable values v → RanTo s values at (set held d below) (ran (at + 1 + 2) (d + 1) found top)
        variable_ran {v} read {found} e =
            leaf_ran (Variable (number_at 2 s (at + 1))) (at + 1 + 2) first refl (omega arith) variable_there found (e ∙ ap (value_of_variable values) read)

    module _ (is : get_or s at 0 ≡ 2) where
      pub literal_there : at + 1 + 8 ≤ length s
      unfolding following
      literal_there = omega (arith, operand_there is)

      first_as : (key : Node) → key_of 2 (number_at 8 s (at + 1)) ≡ key → keys_of (drop at s) ≡ key ∷ keys_of (drop (at + 1 + 8) s)
      unfolding following
      first_as key k = key_of_code s at l is (operand_there is) ∙ ap (λ n. n ∷ keys_of (drop (at + 1 + 8) s)) k

      pub literal_in_range : is_literal (signed (number_at 8 s (at + 1))) ≡ true
      literal_in_range = go (is_literal (signed (number_at 8 s (at + 1)))) refl
        where
          go : (b : Bool) → is_literal (signed (number_at 8 s (at + 1))) ≡ b → is_literal (signed (number_at 8 s (at + 1))) ≡ true
          go true e = e
          go false e = absurd (no_key_runs Empty (at + 1 + 8) (first_as Empty (no_literal_key (number_at 8 s (at + 1)) e)) refl)

      literal_first : keys_of (drop at s) ≡ Lit (signed (number_at 8 s (at + 1))) ∷ keys_of (drop (at + 1 + 8) s)
      literal_first = first_as (Lit (signed (number_at 8 s (at + 1)))) (literal_key (number_at 8 s (at + 1)) literal_in_range)

      pub literal_room : d < most_places
      literal_room = leaf_room (Lit (signed (number_at 8 s (at + 1)))) (at + 1 + 8) literal_first refl

      pub literal_ran : {found : Valued} → found ≡ double_of (signed (number_at 8 s (at + 1))) → RanTo s values at (set held d below) (ran (at + 1 + 8) (d + 1) found top)
      literal_ran {found} e = leaf_ran (Lit (signed (number_at 8 s (at + 1)))) (at + 1 + 8) literal_first refl (omega arith) literal_there found e

    module _ (op : Combining) (is : get_or s at 0 ≡ code_of op) where
      pair_first : keys_of (drop at s) ≡ pair_of op ∷ keys_of (drop (at + 1) s)
      pair_first = code_alone s at l is (nothing_follows op) ∙ ap (λ key. key ∷ keys_of (drop (at + 1) s)) (pair_key op)

      pub pair_there : (2 ≤ d) × (d ≤ most_places)
      pair_there = (rw (pair_takes op) at (enough_there d (pair_of op) (keys_of (drop (at + 1) s)) (tested (pair_of op) (at + 1) pair_first)), t.small)

      pub pair_ran : {x : Float} → x ≡ applied op below top → RanTo s values at held (Ok (machine (at + 1) (d - 1) x (get_or held (d - 1) nan)))
      pair_ran {x} e =
          let two = pair_there.0 in
          key_ran (pair_of op) (at + 1) pair_first (omega arith) (omega arith) (Ok x)
          (ap Ok e ∙ sym (pair_value values (in_use top below held d) op ∙ ap Ok (ap₂ (applied op) (below_topmost top below held d two) (topmost top below held d (omega arith)))))
          held (get_or held (d - 1) nan) (d - 1) t.long (omega (arith, pair_takes op))
          (λ x. two_replaced top below held d two x ∙ ap (λ k. x ∷ drop k (in_use top below held d)) (sym (pair_takes op)))

    module _ (is : get_or s at 0 ≡ 8) where
      pub exponent_there : at + 1 + 4 ≤ length s
      unfolding following
      exponent_there = omega (arith, operand_there is)

      raised_as : (key : Node) → key_of 8 (number_at 4 s (at + 1)) ≡ key → keys_of (drop at s) ≡ key ∷ keys_of (drop (at + 1 + 4) s)
      unfolding following
      raised_as key k = key_of_code s at l is (operand_there is) ∙ ap (λ n. n ∷ keys_of (drop (at + 1 + 4) s)) k

      power_first : keys_of (drop at s) ≡ Pow 0 (number_at 4 s (at + 1)) ∷ keys_of (drop (at + 1 + 4) s)
      power_first = go (ltb (number_at 4 s (at + 1)) least_exponent) refl
        where
          go : (b : Bool) → ltb (number_at 4 s (at + 1)) least_exponent ≡ b → keys_of (drop at s) ≡ Pow 0 (number_at 4 s (at + 1)) ∷ keys_of (drop (at + 1 + 4) s)
          go true e = absurd (no_key_runs Empty (at + 1 + 4) (raised_as Empty (no_power_key (number_at 4 s (at + 1)) (ltb-true (number_at 4 s (at + 1)) least_exponent e))) refl)
          go false e = raised_as (Pow 0 (number_at 4 s (at + 1))) (power_key (number_at 4 s (at + 1)) (ltb-false (number_at 4 s (at + 1)) least_exponent e))

      pub power_ran : {x : ℕ} → x ≡ number_at 4 s (at + 1) → {y : Float} → y ≡ pow_of top x → RanTo s values at held (ran (at + 1 + 4) d (Ok y) below)
      power_ran {x} read {y} e =
          let some : 1 ≤ d = enough_there d (Pow 0 (number_at 4 s (at + 1))) (keys_of (drop (at + 1 + 4) s)) (tested (Pow 0 (number_at 4 s (at + 1))) (at + 1 + 4) power_first) in
          key_ran (Pow 0 (number_at 4 s (at + 1))) (at + 1 + 4) power_first (omega arith) exponent_there (Ok y)
          (ap Ok (e ∙ ap₂ pow_of (sym (topmost top below held d some)) read))
          held below d t.long (omega arith) (one_replaced top below held d some)

    unknown_ran : (get_or s at 0 ≡ 1 → ⊥) → (get_or s at 0 ≡ 2 → ⊥) → (get_or s at 0 ≡ 8 → ⊥) → (get_or s at 0 ≡ 3 → ⊥) → (get_or s at 0 ≡ 4 → ⊥) → (get_or s at 0 ≡ 5 → ⊥) → (get_or s at 0 ≡ 9 → ⊥) → ⊥
    unknown_ran a b c p q f g = no_key_runs Empty (at + 1 + following (get_or s at 0)) (unknown_first s at l a b c p q f g) refl

    -- so a code is known by what it is not
    pub two_is_left : get_or s at 0 < 3 → (get_or s at 0 ≡ 1 → ⊥) → get_or s at 0 ≡ 2
    two_is_left low no_one = go (eqb (get_or s at 0) 2) refl
      where
        go : (b : Bool) → eqb (get_or s at 0) 2 ≡ b → get_or s at 0 ≡ 2
        go true e = eqb-true (get_or s at 0) 2 e
        go false e = absurd (unknown_ran no_one (eqb-false (get_or s at 0) 2 e) (λ h. omega arith) (λ h. omega arith) (λ h. omega arith) (λ h. omega arith) (λ h. omega arith))

    pub nine_is_left : 6 ≤ get_or s at 0 → (get_or s at 0 ≡ 8 → ⊥) → get_or s at 0 ≡ 9
    nine_is_left high no_eight = go (eqb (get_or s at 0) 9) refl
      where
        go : (b : Bool) → eqb (get_or s at 0) 9 ≡ b → get_or s at 0 ≡ 9
        go true e = eqb-true (get_or s at 0) 9 e
        go false e = absurd (unknown_ran (λ h. omega arith) (λ h. omega arith) no_eight (λ h. omega arith) (λ h. omega arith) (λ h. omega arith) (eqb-false (get_or s at 0) 9 e))

-- the answer as the code gives it
pub ran_as : (s : List ℕ) (values : List Float) (at : ℕ) {held held' : List Float} {r r' : Result Machine ℕ} → r' ≡ r → held' ≡ held → RanTo s values at held r → RanTo s values at held' r'
ran_as s values at e h ran = rw (e, h) ran

pub all_run : {s : List ℕ} {values held : List Float} {at d : ℕ} {top below : Float} → RunningAt s values held at d top below → length s ≤ at → Ok top ≡ run_strip values s
unfolding accepts run_from keys_within
all_run {s} {values} {held} {at} {d} {top} {below} t l =
    let one_left : d ≡ 1 = eqb-true d 1 (sym (ap (λ bs. accepts d (keys_of bs)) (drop_of_length-le s l)) ∙ t.takes) in
    ap Ok (sym (topmost top below held d (omega arith))) ∙ sym (t.so_far ∙ ap (λ bs. run_from values (in_use top below held d) (keys_of bs)) (drop_of_length-le s l))
