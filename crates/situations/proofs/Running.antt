-- The machine refuses a strip that it accepts by 15 alone: each key is a node of the table, a literal is in the range, and none is Exp or Log.
-- Assumes nothing.
use Rattle.std.specs.Prelude.{Ok, Err}
use mathlib.Core.Path.{◌≡◌, refl, subst⁻¹}
use mathlib.Core.Logic.{inl}
use mathlib.Core.Bool.{Bool, true, false, ◌&&◌, cond, false≢true}
use mathlib.Core.List.{List, [], ◌∷◌}
use Prim.Native.Nat.{ℕ, zero, suc, ◌+◌, ◌-◌}
use native.Mathlib.Decide.{ℕ_discrete}
use lib.Dec.{leb, ltb}
use lib.ListN.{length, get_or, drop}
use lib.Ieee.{Float, nan}
use borrow.Author.Tests.{ne_eqb}
use Rattle.refusals.specs.Refusals.{no_value}
use Rattle.literal.specs.Literal.{is_literal, signed}
use Rattle.double.specs.Double.{double_of}
use Rattle.double.specs.Double.{Valued}
use Rattle.low_bytes.specs.LowBytes.{number_at}
use Rattle.pool.specs.declared.node.Node.{Node}
use Rattle.pool.specs.declared.node.Node.TheVariants.{Empty, Variable, Lit, Add, Mul, Div, Exp, Log, Pow, Max}
use Rattle.pool.specs.Nodes.{greatest_variable, least_exponent, high_of, pair, decode, is_node}
use Rattle.walks.specs.Evaluate.{one, evaluate_node}
use Rattle.key_strip.specs.Strip.{most_places}
use Rattle.key_strip.specs.Machine.{following, key_of, keys_within, keys_of, taken, accepts, is_strip, in_place, run_from}
use Rattle.situations.specs.Refusal.{Among, of_answer}
use Rattle.situations.specs.Situations.{of_running, OfStrips}

-- what may be a key
abbrev MayRun : Node → Type 0
MayRun Empty = Unit {0}
MayRun (Variable v) = Unit {0}
MayRun (Lit z) = is_literal z ≡ true
MayRun (Add a b) = Unit {0}
MayRun (Mul a b) = Unit {0}
MayRun (Div a b) = Unit {0}
MayRun (Exp a) = ⊥
MayRun (Log a) = ⊥
MayRun (Pow a e) = Unit {0}
MayRun (Max a b) = Unit {0}

chosen : (t : Bool) (n : Node) → (t ≡ true → MayRun n) → MayRun (cond t n Empty)
chosen true n h = h refl
chosen false n h = tt

variable_key : (x : ℕ) → MayRun (key_of 1 x)
unfolding key_of decode
variable_key x = chosen (leb x greatest_variable) (Variable x) (λ e. tt)

literal_key : (x : ℕ) → MayRun (key_of 2 x)
unfolding key_of decode
literal_key x = chosen (is_literal (signed x)) (Lit (signed x)) (λ e. e)

power_key : (x : ℕ) → MayRun (key_of 8 x)
unfolding key_of decode
power_key x = chosen (leb least_exponent (high_of (pair 0 x))) (Pow _ _) (λ e. tt)

combining_keys : (x : ℕ) → MayRun (key_of 3 x) × MayRun (key_of 4 x) × MayRun (key_of 5 x) × MayRun (key_of 9 x)
unfolding key_of decode
combining_keys x = (tt, tt, tt, tt)

module _ (code x : ℕ) where
  no_key : (code ≡ 1 → ⊥) → (code ≡ 2 → ⊥) → (code ≡ 8 → ⊥) → (code ≡ 3 → ⊥) → (code ≡ 4 → ⊥) → (code ≡ 5 → ⊥) → (code ≡ 9 → ⊥) → key_of code x ≡ Empty
  unfolding key_of
  no_key a b c d e f g = simp (ne_eqb code 1 a, ne_eqb code 2 b, ne_eqb code 8 c, ne_eqb code 3 d, ne_eqb code 4 e, ne_eqb code 5 f, ne_eqb code 9 g)

  is : (m : ℕ) → code ≡ m → MayRun (key_of m x) → MayRun (key_of code x)
  is m e h = subst⁻¹ (λ (c : ℕ). MayRun (key_of c x)) e h

  may_run : MayRun (key_of code x)
  may_run = go (ℕ_discrete code 1) (ℕ_discrete code 2) (ℕ_discrete code 8) (ℕ_discrete code 3) (ℕ_discrete code 4) (ℕ_discrete code 5) (ℕ_discrete code 9)
    where
      go : Dec (code ≡ 1) → Dec (code ≡ 2) → Dec (code ≡ 8) → Dec (code ≡ 3) → Dec (code ≡ 4) → Dec (code ≡ 5) → Dec (code ≡ 9) → MayRun (key_of code x)
      go (yes e) b c d f g h = is 1 e (variable_key x)
      go (no a) (yes e) c d f g h = is 2 e (literal_key x)
      go (no a) (no b) (yes e) d f g h = is 8 e (power_key x)
      go (no a) (no b) (no c) (yes e) f g h = is 3 e (combining_keys x).0
      go (no a) (no b) (no c) (no d) (yes e) g h = is 4 e (combining_keys x).1
      go (no a) (no b) (no c) (no d) (no f) (yes e) h = is 5 e (combining_keys x).2
      go (no a) (no b) (no c) (no d) (no f) (no g) (yes e) = is 9 e (combining_keys x).3
      go (no a) (no b) (no c) (no d) (no f) (no g) (no h) = subst⁻¹ MayRun (no_key a b c d f g h) tt

abbrev AllMayRun : List Node → Type 0
AllMayRun [] = Unit {0}
AllMayRun (key ∷ more) = MayRun key × AllMayRun more

keys_may_run : (k : ℕ) (bs : List ℕ) → AllMayRun (keys_within k bs)
unfolding keys_within
keys_may_run zero bs = tt
keys_may_run (suc k) [] = tt
keys_may_run (suc k) (code ∷ bs) = go (leb (following code) (length bs)) (keys_may_run k (drop (following code) bs))
  where
    go : (t : Bool) → AllMayRun (keys_within k (drop (following code) bs))
        → AllMayRun (cond t (key_of code (number_at (following code) bs 0) ∷ keys_within k (drop (following code) bs)) (Empty ∷ []))
    go true rest = (may_run code (number_at (following code) bs 0), rest)
    go false rest = (tt, tt)

-- one key: a double, or 15
key_answers : (values places : List Float) (key : Node) → is_node key ≡ true → MayRun key → Among (of_running) (of_answer (evaluate_node values (in_place places) key))
unfolding double_of
key_answers values places Empty is may = absurd (false≢true is)
key_answers values places (Variable v) is may = go (ltb v (length values)) (get_or values v nan)
  where
    go : (t : Bool) (x : Float) → Among (of_running) (of_answer (cond t (Ok x) (Err no_value)))
    go true x = tt
    go false x = inl refl
key_answers values places (Lit z) is may = rw may tt
key_answers values places (Add a b) is may = tt
key_answers values places (Mul a b) is may = tt
key_answers values places (Div a b) is may = tt
key_answers values places (Pow a e) is may = tt
key_answers values places (Max a b) is may = tt
key_answers values places (Exp a) is may = elim may [ ]
key_answers values places (Log a) is may = elim may [ ]

-- of the four tests of a key the first, and the test of the rest
first_and_rest : (a b c t : Bool) → (a && (b && (c && t))) ≡ true → (a ≡ true) × (t ≡ true)
first_and_rest true true true t e = (refl, e)
first_and_rest true true false t e = absurd (false≢true e)
first_and_rest true false c t e = absurd (false≢true e)
first_and_rest false b c t e = absurd (false≢true e)

keys_answer : (values places : List Float) (d : ℕ) (keys : List Node) → accepts d keys ≡ true → AllMayRun keys → Among (of_running) (of_answer (run_from values places keys))
unfolding accepts run_from
keys_answer values places d [] is may = tt
keys_answer values places d (key ∷ more) is (may, rest) =
    let tests = first_and_rest (is_node key) (leb (taken key) d) (leb (d - taken key + 1) most_places) (accepts (d - taken key + 1) more) is in
    go (evaluate_node values (in_place places) key) (key_answers values places key tests.0 may) (λ x. keys_answer values (x ∷ drop (taken key) places) (d - taken key + 1) more tests.1 rest)
  where
    go : (v : Valued) → Among (of_running) (of_answer v) → ((x : Float) → Among (of_running) (of_answer (run_from values (x ∷ drop (taken key) places) more)))
        → Among (of_running) (of_answer (one v (λ x. run_from values (x ∷ drop (taken key) places) more)))
    go (Ok x) h then = then x
    go (Err k) h then = h

pub of_strips : (bs : List ℕ) → is_strip bs ≡ true → OfStrips bs
of_strips bs is = record { running = λ values. keys_answer values [] 0 (keys_of bs) is (keys_may_run (length bs) bs) }
