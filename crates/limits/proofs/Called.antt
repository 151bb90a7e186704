-- What a call answers on a pool that keeps the rules: what its work gives, since 1 is passed.
-- Assumes nothing.
use Rattle.std.specs.Prelude.{Ok, Err}
use mathlib.Core.Path.{◌≡◌, ◌∙◌}
use mathlib.Core.Bool.{true, false, not}
use mathlib.Core.List.{List, [], ◌∷◌}
use Prim.Native.Nat.{ℕ}
use lib.Dec.{leb}
use lib.Ieee.{Float}
use lib.ListN.{length}
use Rattle.refusals.specs.Refusals.{unknown_node, wrong_order, wrong_values, max_reached, no_room}
use Rattle.residue.specs.Residue.{fixed_modulus}
use Rattle.pool.specs.Nodes.{all_below}
use Rattle.pool.specs.Pool.{Run, node_in, is_pool}
use Rattle.walks.specs.Evaluate.{evaluate}
use Rattle.walks.specs.EvaluateResidue.{evaluate_residue}
use Rattle.walks.specs.Print.{text_of, has_max}
use Rattle.taylor.specs.Work.{Work}
use Rattle.taylor.specs.Expansion.{Expansion}
use Rattle.shape.specs.File.{written_file}
use Rattle.lent.specs.Call.{leaves, lent_pool, demand}
use Rattle.lent_series.specs.declared.series.Series.{Series}
use Rattle.lent_series.specs.Series.{nodes_of, length_ok, given}
use Rattle.lent_series.specs.Call.{accepted, refused_outcome}
use Rattle.engine_values.specs.Values.{most_values, evaluate_call, are_residues, evaluate_residue_call}
use Rattle.lent.specs.Writing.{Put, unwritten, writes}
use Rattle.low_bytes.specs.Output.{text_fits}
use Rattle.engine_print.specs.Printing.{print_call}
use Rattle.engine_file.specs.Write.{file_over, write_call}
use Rattle.limits.specs.Lent.{Entry, Lent, lent, kinds_of, words_of}
use Rattle.limits.specs.Calls.{Answer, refuses, node_given, called, order_given, expanded, listed, bits_given, evaluated, residue_given, evaluated_by_residues, output, printed, length_written, written, bytes_in, text, file}
use Rattle.limits.proofs.Pools.{Passes, fits, by_rules}

-- each call with 1 passed, on two tables and a count
abbrev pub worked : Run → List ℕ → List ℕ → ℕ → Answer
worked work ks ws n = node_given (leaves Ok Err ks ws n (work (lent_pool ks ws n))).answer

abbrev pub expansion_worked : Work Expansion → List ℕ → List ℕ → ℕ → Answer
expansion_worked work ks ws n = order_given (leaves accepted refused_outcome ks ws n (work (lent_pool ks ws n))).answer

abbrev pub list_worked : Series → ℕ → Answer
list_worked s n = order_given (demand refused_outcome (all_below n (nodes_of s)) unknown_node (demand refused_outcome (length_ok s) wrong_order (accepted (given s))))

abbrev pub value_worked : List Float → ℕ → List ℕ → List ℕ → ℕ → Answer
value_worked values root ks ws n =
    bits_given (demand Err (all_below n (root ∷ [])) unknown_node (demand Err (leb (length values) most_values) wrong_values (evaluate (node_in ks ws) values root)))

abbrev pub residue_worked : List ℕ → ℕ → List ℕ → List ℕ → ℕ → Answer
residue_worked values root ks ws n =
    residue_given (demand Err (all_below n (root ∷ [])) unknown_node (demand Err (are_residues values) wrong_values (evaluate_residue fixed_modulus (node_in ks ws) values root)))

abbrev pub print_worked : ℕ → List ℕ → List ℕ → List ℕ → ℕ → Put
print_worked root out ks ws n =
    demand (unwritten out) (all_below n (root ∷ [])) unknown_node
    (demand (unwritten out) (not (has_max (node_in ks ws) root)) max_reached
    (demand (unwritten out) (text_fits (text_of (node_in ks ws) root) out) no_room
    (writes (text_of (node_in ks ws) root) out)))

abbrev pub write_worked : ℕ → List ℕ → List ℕ → List ℕ → ℕ → Put
write_worked root old ks ws n = demand (unwritten old) (all_below n (root ∷ [])) unknown_node (file_over old (written_file ks ws root))

-- the file in the output
abbrev pub file_in : Put → List ℕ
file_in o = bytes_in (length_written o.answer) o.out

-- ---- on any pool that keeps the rules
module _ (P : Lent) (passes : Passes P) where
  pub called_by : (work : Run) → called work P ≡ worked work P.kinds P.words P.count
  unfolding called
  called_by work = rw passes

  pub expanded_by : (work : Work Expansion) → expanded work P ≡ expansion_worked work P.kinds P.words P.count
  unfolding expanded
  expanded_by work = rw passes

  pub listed_by : (s : Series) → listed s P ≡ list_worked s P.count
  unfolding listed
  listed_by s = rw passes

  pub evaluated_by : (values : List Float) (root : ℕ) → evaluated values root P ≡ value_worked values root P.kinds P.words P.count
  unfolding evaluated evaluate_call
  evaluated_by values root = rw passes

  pub residue_by : (values : List ℕ) (root : ℕ) → evaluated_by_residues values root P ≡ residue_worked values root P.kinds P.words P.count
  unfolding evaluated_by_residues evaluate_residue_call
  residue_by values root = rw passes

  pub printed_by : (room root : ℕ) → printed room root P ≡ length_written (print_worked root (output room) P.kinds P.words P.count).answer
  unfolding printed print_call
  printed_by room root = rw passes

  pub text_by : (root : ℕ)
      → text root P ≡ bytes_in (length_written (print_worked root (output 64) P.kinds P.words P.count).answer) (print_worked root (output 64) P.kinds P.words P.count).out
  unfolding text print_call
  text_by root = rw passes

  pub written_by : (room root : ℕ) → written room root P ≡ length_written (write_worked root (output room) P.kinds P.words P.count).answer
  unfolding written write_call
  written_by room root = rw passes

  pub file_by : (room root : ℕ) → file room root P ≡ file_in (write_worked root (output room) P.kinds P.words P.count)
  unfolding file write_call
  file_by room root = rw passes

-- ---- on a pool that breaks a rule
pub refused_by : (P : Lent) → is_pool P.kinds P.words P.count ≡ false → (work : Run) → called work P ≡ refuses 1
unfolding called
refused_by P broken work = rw broken

pub refused_on : (es : List Entry) → is_pool (kinds_of es) (words_of es) (length es) ≡ false → (work : Run) → called work (lent es) ≡ refuses 1
unfolding lent
refused_on es broken work = refused_by (lent es) broken work

-- ---- on a pool of few entries
module _ (es : List Entry) (ok : fits es ≡ true) where
  pub called_on : (work : Run) → called work (lent es) ≡ worked work (kinds_of es) (words_of es) (length es)
  unfolding lent
  called_on work = called_by (lent es) (by_rules es ok) work

  pub expanded_on : (work : Work Expansion) → expanded work (lent es) ≡ expansion_worked work (kinds_of es) (words_of es) (length es)
  unfolding lent
  expanded_on work = expanded_by (lent es) (by_rules es ok) work

  pub listed_on : (s : Series) → listed s (lent es) ≡ list_worked s (length es)
  unfolding lent
  listed_on s = listed_by (lent es) (by_rules es ok) s

  pub evaluated_on : (values : List Float) (root : ℕ) → evaluated values root (lent es) ≡ value_worked values root (kinds_of es) (words_of es) (length es)
  unfolding lent
  evaluated_on values root = evaluated_by (lent es) (by_rules es ok) values root

  pub residue_on : (values : List ℕ) (root : ℕ) → evaluated_by_residues values root (lent es) ≡ residue_worked values root (kinds_of es) (words_of es) (length es)
  unfolding lent
  residue_on values root = residue_by (lent es) (by_rules es ok) values root

  pub residue_with : (values : List ℕ) (root : ℕ) → are_residues values ≡ true
      → evaluated_by_residues values root (lent es)
      ≡ residue_given (demand Err (all_below (length es) (root ∷ [])) unknown_node (evaluate_residue fixed_modulus (node_in (kinds_of es) (words_of es)) values root))
  residue_with values root all = residue_on values root ∙ rw all

  pub printed_on : (room root : ℕ) → printed room root (lent es) ≡ length_written (print_worked root (output room) (kinds_of es) (words_of es) (length es)).answer
  unfolding lent
  printed_on room root = printed_by (lent es) (by_rules es ok) room root

  pub text_on : (root : ℕ)
      → text root (lent es) ≡ bytes_in (length_written (print_worked root (output 64) (kinds_of es) (words_of es) (length es)).answer) (print_worked root (output 64) (kinds_of es) (words_of es) (length es)).out
  unfolding lent
  text_on root = text_by (lent es) (by_rules es ok) root

  pub written_on : (room root : ℕ) → written room root (lent es) ≡ length_written (write_worked root (output room) (kinds_of es) (words_of es) (length es)).answer
  unfolding lent
  written_on room root = written_by (lent es) (by_rules es ok) room root

  pub file_on : (room root : ℕ) → file room root (lent es) ≡ file_in (write_worked root (output room) (kinds_of es) (words_of es) (length es))
  unfolding lent
  file_on room root = file_by (lent es) (by_rules es ok) room root
