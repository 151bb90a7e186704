-- C-20 of the calls: a strip that was made runs as the expression is evaluated, one shape has one strip, and the machine refuses by 28 exactly what is no tree's strip.
-- Assumes nothing.
use Rattle.std.specs.Prelude.{Err}
use mathlib.Core.Path.{◌≡◌, sym, ap, ◌∙◌, subst}
use mathlib.Core.Logic.{◌↔◌, inl, inr}
use mathlib.Core.Bool.{true, false}
use mathlib.Core.List.{List}
use Prim.Native.Nat.{ℕ, ◌^◌, ◌<◌, ◌≤◌}
use native.Mathlib.Omega.{arith}
use lib.Dec.{leb}
use lib.ListN.{length, get_or}
use lib.Ieee.{Float}
use borrow.Author.Tests.{le-leb, lt-ltb}
use Rattle.refusals.specs.Refusals.{wrong_values, wrong_strip}
use Rattle.low_bytes.specs.LowBytes.{AreBytes}
use Rattle.pool.specs.Pool.{Pool, node_at}
use Rattle.walks.specs.Evaluate.{evaluate}
use Rattle.shape.specs.Demand.{KeepsRules, SameShape}
use Rattle.shape.proofs.Lists.{not_true_false}
use Rattle.key_strip.specs.Strip.{places_of, most_places}
use Rattle.key_strip.specs.Machine.{is_strip, run_strip}
use Rattle.key_strip.specs.Trees.{IsTreesStrip}
use Rattle.key_strip.proofs.Theorems.{strip_is_tested, strip_runs}
use Rattle.key_strip.proofs.Accepted.{accepted_exactly}
use Rattle.key_strip.proofs.SameStrip.{same_shape_same_strip, same_shape_same_places, same_shape_same_exp_or_log}
use Rattle.situations.specs.Refusal.{by, Among, of_answer}
use Rattle.situations.specs.Situations.{of_running}
use Rattle.situations.proofs.Running.{of_strips}
use Rattle.lent.specs.Call.{demand}
use Rattle.lent.specs.Writing.{Accepted, bytes_written}
use Rattle.engine_values.specs.Values.{most_values, evaluate_call}
use Rattle.engine_strip.specs.Strips.{strip_call, run_strip_call}
use Rattle.engine_strip.specs.Outcome.{strip_from}
use Rattle.engine_strip.proofs.Accepting.{Strips, accepted_strips, strip_is_there}

-- the machine's call on a strip that it accepts
run_is : (bs : List ℕ) (values : List Float) → is_strip bs ≡ true → run_strip_call bs values ≡ demand Err (leb (length values) most_values) wrong_values (run_strip values bs)
unfolding run_strip_call
run_is bs values e = rw e

-- wherever `strip` answers bytes; words have 64 bits
module _ (P : Pool) (fit : (i : ℕ) → get_or P.words i 0 < 2 ^ 64) (r : ℕ) (old : List ℕ) (a : Accepted (strip_from P r old)) where
  abbrev made : Strips P r old
  made = accepted_strips P r old a

  keeps : KeepsRules P
  keeps = record { rules = made.rules; words_fit = fit }

  -- the machine takes what was made
  pub made_is_accepted : is_strip (bytes_written (strip_from P r old)) ≡ true
  made_is_accepted =
      ap is_strip (strip_is_there P r old a)
      ∙ strip_is_tested P keeps r made.given made.reaches_no_exp_or_log
      ∙ le-leb (places_of (node_at P) r) most_places made.few_places

  -- evaluation's call on the same root
  evaluation_is : (values : List Float) → evaluate_call P.kinds P.words P.count r values ≡ demand Err (leb (length values) most_values) wrong_values (evaluate (node_at P) values r)
  unfolding evaluate_call
  evaluation_is values = rw (made.rules, lt-ltb r P.count made.given)

  -- "Running a strip .. gives the bits of the double evaluation, for every table of values that evaluation accepts", and the refusals 6 and 15 for the others
  pub strip_runs_as_evaluated : (values : List Float) → run_strip_call (bytes_written (strip_from P r old)) values ≡ evaluate_call P.kinds P.words P.count r values
  strip_runs_as_evaluated values =
      run_is (bytes_written (strip_from P r old)) values made_is_accepted
      ∙ ap (demand Err (leb (length values) most_values) wrong_values) (ap (run_strip values) (strip_is_there P r old a) ∙ strip_runs P keeps r made.given made.reaches_no_exp_or_log values)
      ∙ sym (evaluation_is values)

-- two roots of one shape, in one pool or in two: one answer, refusals included
pub one_shape_one_answer :
    (P Q : Pool) → KeepsRules P → KeepsRules Q → (r s : ℕ) → r < P.count → s < Q.count → SameShape P r Q s → (old : List ℕ) → strip_from P r old ≡ strip_from Q s old
unfolding strip_call
one_shape_one_answer P Q k m r s l h shape old =
    rw (k.rules, m.rules, lt-ltb r P.count l, lt-ltb s Q.count h, same_shape_same_exp_or_log P Q k m r s shape, same_shape_same_places P Q k m r s shape, same_shape_same_strip P Q k m r s shape)

-- and one strip, whatever the outputs
pub one_shape_one_strip :
    (P Q : Pool) → KeepsRules P → KeepsRules Q → (r s : ℕ) (old other : List ℕ) → Accepted (strip_from P r old) → Accepted (strip_from Q s other)
    → SameShape P r Q s → bytes_written (strip_from P r old) ≡ bytes_written (strip_from Q s other)
one_shape_one_strip P Q k m r s old other a b shape =
    strip_is_there P r old a ∙ same_shape_same_strip P Q k m r s shape ∙ sym (strip_is_there Q s other b)

-- 15 is not 28
not_by_28 : Among of_running (by wrong_strip) → ⊥
not_by_28 (inl e) = omega arith
not_by_28 (inr n) = n

module _ (bs : List ℕ) (are : AreBytes bs) (values : List Float) (few : length values ≤ most_values) where
  accepted_is_not_28 : is_strip bs ≡ true → run_strip_call bs values ≡ Err wrong_strip → ⊥
  accepted_is_not_28 is e =
      let ran : run_strip values bs ≡ Err wrong_strip = sym (run_is bs values is ∙ ap (λ t. demand Err t wrong_values (run_strip values bs)) (le-leb (length values) most_values few)) ∙ e in
      not_by_28 (subst (λ v. Among of_running (of_answer v)) ran ((of_strips bs is).running values))

  refused_is_28 : is_strip bs ≡ false → run_strip_call bs values ≡ Err wrong_strip
  unfolding run_strip_call
  refused_is_28 e = rw (le-leb (length values) most_values few, e)

  -- "28 .. when a code is unknown, what follows a code is cut off or breaks document 01's table or literal range, values are missing, more than 128 places are
  -- needed, or not exactly one value is left": exactly the bytes that are the strip of no tree within 128 places
  pub refused_by_28_exactly : (run_strip_call bs values ≡ Err wrong_strip) ↔ (IsTreesStrip bs → ⊥)
  refused_by_28_exactly = (
    λ e tree. accepted_is_not_28 ((accepted_exactly bs are).1 tree) e,
    λ none. refused_is_28 (not_true_false (is_strip bs) (λ is. none ((accepted_exactly bs are).0 is))),
  )
