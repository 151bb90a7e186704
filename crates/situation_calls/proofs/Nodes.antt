-- The calls on expressions: checks in their order, then the work, whose numbers the crate situations has.
-- Assumes nothing.
use Rattle.std.specs.Prelude.{Ok, Err}
use mathlib.Core.Path.{◌≡◌, refl}
use mathlib.Core.Logic.{inl, inr}
use mathlib.Core.Bool.{Bool, true, false, not}
use mathlib.Core.List.{List, [], ◌∷◌}
use Prim.Native.Nat.{ℕ, zero, suc, ◌+◌, ◌^◌, ◌<◌}
use lib.Dec.{leb}
use lib.Ieee.{Float}
use lib.ListN.{length, get_or}
use Rattle.refusals.specs.Refusals.{broken_pool, unknown_node, unknown_variable, not_literal, wrong_values, wrong_length, wrong_entry, wrong_sequence, max_reached, not_evaluated, no_room, too_many_places, wrong_strip}
use Rattle.literal.specs.Literal.{is_literal}
use Rattle.double.specs.Double.{Valued}
use Rattle.residue.specs.Residue.{fixed_modulus}
use Rattle.residue.specs.Residue.{Divided}
use Rattle.pool.specs.declared.node.Node.{Node}
use Rattle.pool.specs.declared.node.Node.TheVariants as node
use Rattle.pool.specs.Nodes.{all_below, greatest_variable}
use Rattle.pool.specs.Pool.{Pool, Out, done, refused, Run, bind, append, node_in, is_pool}
use Rattle.constructors.specs.Build.{calls, depth}
use Rattle.constructor_laws.proofs.Rules.{below_by_test}
use Rattle.walks.specs.Evaluate.{evaluate}
use Rattle.walks.specs.EvaluateResidue.{evaluate_residue}
use Rattle.walks.specs.Substitute.{substitute_var}
use Rattle.walks.specs.Derive.{derive}
use Rattle.walks.specs.Print.{text_of, has_max}
use Rattle.shape.specs.Demand.{KeepsRules}
use Rattle.shape.specs.Shape.{rename}
use Rattle.shape.specs.File.{size_of, entry_of, is_sized, are_nodes, is_in_order, passes, append_first, append_shifted, written_file, read_file}
use Rattle.lent.specs.Call.{demand, leaves, lent_pool, on_pool, given_nodes, given_variable}
use Rattle.engine_values.specs.Values.{most_values, are_residues, evaluate_call, evaluate_residue_call}
use Rattle.lent.specs.Writing.{Put, unwritten, writes}
use Rattle.low_bytes.specs.Output.{text_fits}
use Rattle.engine_print.specs.Printing.{print_call}
use Rattle.engine_file.specs.Write.{write_call}
use Rattle.key_strip.specs.Strip.{strip_of, places_of, most_places, has_exp_or_log}
use Rattle.key_strip.specs.Machine.{is_strip, run_strip}
use Rattle.engine_strip.specs.Strips.{strip_call, run_strip_call}
use Rattle.situations.specs.Refusal.{Among, of_out, of_answer}
use Rattle.situations.proofs.Steps.{Refusing, ◌>>=◌, append_refuses}
use Rattle.situations.proofs.Situations.{constructors_refuse, of_walks}
use Rattle.situations.proofs.Running.{of_strips}
use Rattle.situation_calls.specs.Table as table
use Rattle.situation_calls.specs.Table.{met}
use Rattle.situation_calls.specs.Answers.{Situated, ByTable, OfCalls}
use Rattle.situation_calls.proofs.Laws.{working, passing, failing, demanded}

-- ---- checks of calls that give a node
module _ {checks meets : List ℕ} {tests : List Bool} where
  pub asked : (t : Bool) (k : ℕ) (o : Out) → (t ≡ true → Situated checks meets tests (of_out o)) → Situated (k ∷ checks) meets (t ∷ tests) (of_out (demand refused t k o))
  asked = demanded of_out refused (λ k. refl)

  -- a test of the file
  passed : (t : Bool) (k : ℕ) (next : ℕ → Run) (P : Pool) → (t ≡ true → Situated checks meets tests (of_out (next 0 P))) → Situated (k ∷ checks) meets (t ∷ tests) (of_out (bind (passes t k P) next))
  passed true k next P h = passing k (h refl)
  passed false k next P h = failing k

  answered : (ks ws : List ℕ) (n : ℕ) (o : Out) → Situated checks meets tests (of_out o) → Situated checks meets tests (of_answer (leaves Ok Err ks ws n o).answer)
  answered ks ws n (done i P) s = s
  answered ks ws n (refused k) s = s

appends : (n : ℕ) (p : ℕ → Node) → Refusing (met table.read) (append_first n p)
unfolding append_first
appends zero p = record { refuses = λ P. tt }
appends (suc n) p = record { refuses = (appends n p >>= (λ before. append_refuses (inl refl) (p n))).refuses }

-- ---- the calls
module _ (ks ws : List ℕ) (n : ℕ) (fit : (i : ℕ) → get_or ws i 0 < 2 ^ 64) where
  abbrev P : Pool
  P = lent_pool ks ws n

  pub rules : is_pool ks ws n ≡ true → KeepsRules P
  rules e = record { rules = e; words_fit = fit }

  pub root_below : (root : ℕ) (more : List ℕ) → all_below n (root ∷ more) ≡ true → root < n
  root_below root more e = (below_by_test n (root ∷ more) e).0

  -- 1, then the rest
  pub node_call : {checks meets : List ℕ} {tests : List Bool} (work : Run) → (KeepsRules P → Situated checks meets tests (of_out (work P))) → Situated (broken_pool ∷ checks) meets (is_pool ks ws n ∷ tests) (of_answer (on_pool work ks ws n).answer)
  node_call work h = answered ks ws n (demand refused (is_pool ks ws n) broken_pool (work P)) (asked (is_pool ks ws n) broken_pool (work P) (λ e. h (rules e)))

  leaf_call : {meets : List ℕ} (allowed : Bool) (k : ℕ) (x : Node) → Among meets (of_out (append x P)) → Situated (broken_pool ∷ k ∷ []) meets (is_pool ks ws n ∷ allowed ∷ []) (of_answer (on_pool (λ Q. demand refused allowed k (append x Q)) ks ws n).answer)
  leaf_call allowed k x h = node_call (λ Q. demand refused allowed k (append x Q)) (λ r. asked allowed k (append x P) (λ e. working h))

  -- a constructor: 1, 2, then the work
  constructor_call : {meets : List ℕ} (nodes : List ℕ) (run : Run) → (KeepsRules P → Among meets (of_out (run P))) → Situated (broken_pool ∷ unknown_node ∷ []) meets (is_pool ks ws n ∷ all_below n nodes ∷ []) (of_answer (on_pool (given_nodes nodes run) ks ws n).answer)
  constructor_call nodes run h = node_call (given_nodes nodes run) (λ r. asked (all_below n nodes) unknown_node (run P) (λ e. working (h r)))

  -- a walk: 1, 2, 3, then the work
  walk_call : {meets : List ℕ} (nodes : List ℕ) (v : ℕ) (run : Run) → (KeepsRules P → all_below n nodes ≡ true → Among meets (of_out (run P))) → Situated (broken_pool ∷ unknown_node ∷ unknown_variable ∷ []) meets (is_pool ks ws n ∷ all_below n nodes ∷ leb v greatest_variable ∷ []) (of_answer (on_pool (given_nodes nodes (given_variable v run)) ks ws n).answer)
  walk_call nodes v run h =
      node_call (given_nodes nodes (given_variable v run)) (λ r.
      asked (all_below n nodes) unknown_node (given_variable v run P) (λ e.
      asked (leb v greatest_variable) unknown_variable (run P) (λ f. working (h r e))))

  -- a call that gives a double
  valued : {checks meets : List ℕ} {tests : List Bool} (t : Bool) (k : ℕ) (v : Valued) → (t ≡ true → Situated checks meets tests (of_answer v)) → Situated (k ∷ checks) meets (t ∷ tests) (of_answer (demand Err t k v))
  valued = demanded of_answer Err (λ k. refl)

  evaluate_answers : (root : ℕ) (values : List Float) → ByTable table.evaluate (is_pool ks ws n ∷ all_below n (root ∷ []) ∷ leb (length values) most_values ∷ []) (of_answer (evaluate_call ks ws n root values))
  unfolding evaluate_call
  evaluate_answers root values =
      let value = evaluate (node_in ks ws) values root in
      valued (is_pool ks ws n) broken_pool _ (λ r.
      valued (all_below n (root ∷ [])) unknown_node _ (λ e.
      valued (leb (length values) most_values) wrong_values value (λ f. working ((of_walks P (rules r) root (root_below root [] e)).evaluation values))))

  residue_answers : (root : ℕ) (values : List ℕ) → ByTable table.evaluate_residue (is_pool ks ws n ∷ all_below n (root ∷ []) ∷ are_residues values ∷ []) (of_answer (evaluate_residue_call ks ws n root values))
  unfolding evaluate_residue_call
  residue_answers root values =
      let value = evaluate_residue fixed_modulus (node_in ks ws) values root in
      divided (is_pool ks ws n) broken_pool _ (λ r.
      divided (all_below n (root ∷ [])) unknown_node _ (λ e.
      divided (are_residues values) wrong_values value (λ f. working ((of_walks P (rules r) root (root_below root [] e)).residues fixed_modulus values))))
    where
      divided : {checks meets : List ℕ} {tests : List Bool} (t : Bool) (k : ℕ) (v : Divided) → (t ≡ true → Situated checks meets tests (of_answer v)) → Situated (k ∷ checks) meets (t ∷ tests) (of_answer (demand Err t k v))
      divided = demanded of_answer Err (λ k. refl)

  -- a call that fills an output
  written_to : {checks meets : List ℕ} {tests : List Bool} (out : List ℕ) (t : Bool) (k : ℕ) (p : Put) → (t ≡ true → Situated checks meets tests (of_answer p.answer)) → Situated (k ∷ checks) meets (t ∷ tests) (of_answer (demand (unwritten out) t k p).answer)
  written_to out = demanded (λ p. of_answer p.answer) (unwritten out) (λ k. refl)

  print_answers : (root : ℕ) (out : List ℕ) → ByTable table.print (is_pool ks ws n ∷ all_below n (root ∷ []) ∷ []) (of_answer (print_call ks ws n root out).answer)
  unfolding print_call
  print_answers root out =
      let text = text_of (node_in ks ws) root in
      written_to out (is_pool ks ws n) broken_pool _ (λ r.
      written_to out (all_below n (root ∷ [])) unknown_node _ (λ e.
      working (work (not (has_max (node_in ks ws) root)) (text_fits text out) text)))
    where
      work : (max fits : Bool) (bytes : List ℕ) → Among (met table.print) (of_answer (demand (unwritten out) max max_reached (demand (unwritten out) fits no_room (writes bytes out))).answer)
      work true true bytes = tt
      work true false bytes = inr (inl refl)
      work false fits bytes = inl refl

  write_answers : (root : ℕ) (out : List ℕ) → ByTable table.write (is_pool ks ws n ∷ all_below n (root ∷ []) ∷ []) (of_answer (write_call ks ws n root out).answer)
  unfolding write_call
  write_answers root out =
      let file = written_file ks ws root in
      written_to out (is_pool ks ws n) broken_pool _ (λ r.
      written_to out (all_below n (root ∷ [])) unknown_node _ (λ e.
      working (work (leb (length file) (length out)) file)))
    where
      work : (fits : Bool) (bytes : List ℕ) → Among (met table.write) (of_answer (demand (unwritten out) fits no_room (writes bytes out)).answer)
      work true bytes = tt
      work false bytes = inl refl

  read_answers : (bs : List ℕ) → ByTable table.read (is_pool ks ws n ∷ is_sized bs ∷ are_nodes bs ∷ is_in_order bs ∷ []) (of_answer (on_pool (read_file bs) ks ws n).answer)
  unfolding read_file
  read_answers bs =
      let append_all : ℕ → Run = λ i. append_shifted (size_of bs) (entry_of bs) in
      let third : ℕ → Run = λ i Q. bind (passes (is_in_order bs) wrong_sequence Q) append_all in
      let second : ℕ → Run = λ i Q. bind (passes (are_nodes bs) wrong_entry Q) third in
      node_call (read_file bs) (λ r.
      passed (is_sized bs) wrong_length second P (λ e.
      passed (are_nodes bs) wrong_entry third P (λ f.
      passed (is_in_order bs) wrong_sequence append_all P (λ g. working ((appends (size_of bs) (λ i. rename (λ j. n + j) (entry_of bs i))).refuses P)))))

  strip_answers : (root : ℕ) (out : List ℕ) → ByTable table.strip (is_pool ks ws n ∷ all_below n (root ∷ []) ∷ []) (of_answer (strip_call ks ws n root out).answer)
  unfolding strip_call
  strip_answers root out =
      let at = node_in ks ws in
      written_to out (is_pool ks ws n) broken_pool _ (λ r.
      written_to out (all_below n (root ∷ [])) unknown_node _ (λ e.
      working (work (not (has_exp_or_log at root)) (leb (places_of at root) most_places) (text_fits (strip_of at root) out) (strip_of at root))))
    where
      work : (codes places fits : Bool) (bytes : List ℕ) → Among (met table.strip) (of_answer (demand (unwritten out) codes not_evaluated (demand (unwritten out) places too_many_places (demand (unwritten out) fits no_room (writes bytes out)))).answer)
      work true true true bytes = tt
      work true true false bytes = inr (inl refl)
      work true false fits bytes = inr (inr (inl refl))
      work false places fits bytes = inl refl

  run_strip_answers : (bs : List ℕ) (values : List Float) → ByTable table.run_strip (leb (length values) most_values ∷ is_strip bs ∷ []) (of_answer (run_strip_call bs values))
  unfolding run_strip_call
  run_strip_answers bs values =
      valued (leb (length values) most_values) wrong_values _ (λ f.
      valued (is_strip bs) wrong_strip (run_strip values bs) (λ e. working ((of_strips bs e).running values)))

  pub of_calls : OfCalls ks ws n
  of_calls =
      record {
        lit_by_table = λ z. leaf_call (is_literal z) not_literal (node.Lit z) ((append_refuses {ks = met table.lit} (inl refl) (node.Lit z)).refuses P);
        var_by_table = λ v. leaf_call (leb v greatest_variable) unknown_variable (node.Variable v) ((append_refuses {ks = met table.var} (inl refl) (node.Variable v)).refuses P);
        add_by_table = λ a b. constructor_call (a ∷ b ∷ []) ((calls depth).add_at a b) (λ r. (constructors_refuse P r).add_meets a b);
        mul_by_table = λ a b. constructor_call (a ∷ b ∷ []) ((calls depth).mul_at a b) (λ r. (constructors_refuse P r).mul_meets a b);
        div_by_table = λ a b. constructor_call (a ∷ b ∷ []) ((calls depth).div_at a b) (λ r. (constructors_refuse P r).div_meets a b);
        max_by_table = λ a b. constructor_call (a ∷ b ∷ []) ((calls depth).max_at a b) (λ r. (constructors_refuse P r).max_meets a b);
        neg_by_table = λ a. constructor_call (a ∷ []) ((calls depth).neg_at a) (λ r. (constructors_refuse P r).neg_meets a);
        exp_by_table = λ a. constructor_call (a ∷ []) ((calls depth).exp_at a) (λ r. (constructors_refuse P r).exp_meets a);
        log_by_table = λ a. constructor_call (a ∷ []) ((calls depth).log_at a) (λ r. (constructors_refuse P r).log_meets a);
        pow_by_table = λ a e. constructor_call (a ∷ []) ((calls depth).pow_at a e) (λ r. (constructors_refuse P r).pow_meets a e);
        substitute_var_by_table = λ root v value. walk_call (root ∷ value ∷ []) v (substitute_var root v value) (λ r e. (of_walks P r root (root_below root (value ∷ []) e)).substitution v value);
        derive_by_table = λ root v. walk_call (root ∷ []) v (derive root v) (λ r e. (of_walks P r root (root_below root [] e)).derivation v);
        evaluate_by_table = evaluate_answers;
        evaluate_residue_by_table = residue_answers;
        print_by_table = print_answers;
        write_by_table = write_answers;
        read_by_table = read_answers;
        strip_by_table = strip_answers;
        run_strip_by_table = run_strip_answers;
      }
