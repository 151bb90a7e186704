-- Demand 3 of the entry points: what `write` and `read` give is what their contracts say, so the theorems about files hold of the calls.
-- Assumes nothing.
use Rattle.std.specs.Prelude.{Ok, Err}
use mathlib.Core.Path.{◌≡◌, sym, ap, ◌∙◌, subst, subst⁻¹}
use mathlib.Core.Logic.{◌↔◌}
use mathlib.Core.List.{List}
use Prim.Native.Nat.{ℕ, ◌+◌, ◌≤◌}
use native.Mathlib.Omega.{arith}
use lib.ListN.{length}
use Rattle.low_bytes.specs.LowBytes.{AreBytes}
use Rattle.pool.specs.Pool.{limit, Pool, pool, Out, done, refused}
use Rattle.shape.specs.File.{file_from, size_of, read_file}
use Rattle.shape.specs.Demand.{KeepsRules, HasRoom, SameShape, IsNodeFile, Leaves}
use Rattle.shape.proofs.Demand3.{same_file_for_one_shape, accepts_node_files, accepted_leaves_the_rules, reads_back}
use Rattle.lent.specs.Call.{leaves}
use Rattle.lent.specs.Answer.{Answer}
use Rattle.lent.specs.Writing.{Accepted, bytes_written}
use Rattle.engine_file.specs.Outcome.{written_from, read_into, pool_returned, Gives}
use Rattle.engine_file.proofs.Accepting.{accepted_writes, file_is_there, accepted_where_the_file_fits}

-- (a) "the written node files are equal byte for byte exactly when the expressions have one shape": of any two accepted calls, whatever their outputs' lengths and earlier contents
pub same_bytes_written_for_one_shape :
    (P Q : Pool) → KeepsRules P → KeepsRules Q → (r s : ℕ) (old other : List ℕ) → Accepted (written_from P r old) → Accepted (written_from Q s other)
    → (bytes_written (written_from P r old) ≡ bytes_written (written_from Q s other)) ↔ SameShape P r Q s
same_bytes_written_for_one_shape P Q k m r s old other a b =
    let both = same_file_for_one_shape P Q k m r s (accepted_writes P r old a).given (accepted_writes Q s other b).given in
    let f = file_is_there P r old a in
    let g = file_is_there Q s other b in
    (λ e. both.0 (sym f ∙ e ∙ g), λ shape. f ∙ both.1 shape ∙ sym g)

-- a call of reading is accepted exactly where the definition accepts
IsNode : Answer → Type 0
IsNode (Ok i) = Unit {0}
IsNode (Err k) = ⊥

accepted_out : (ks ws : List ℕ) (n : ℕ) (out : Out) {i : ℕ} → Gives (leaves Ok Err ks ws n out) i → (Q : Pool) × (out ≡ done i Q)
unfolding IsNode
accepted_out ks ws n (done j Q) e = (Q, cc)
accepted_out ks ws n (refused m) e = absurd (subst⁻¹ IsNode e tt)

module _ (P : Pool) (k : KeepsRules P) (whole : P.end ≡ limit) (bs : List ℕ) where
  returned_is : read_into P bs ≡ leaves Ok Err P.kinds P.words P.count (read_file bs P)
  returned_is = rw k.rules (ap (λ m. leaves Ok Err P.kinds P.words P.count (read_file bs (pool P.kinds P.words P.count m))) (sym whole))

  accepted_gives : {i : ℕ} {Q : Pool} → read_file bs P ≡ done i Q → Gives (read_into P bs) i
  accepted_gives e = ap (λ L. L.answer) (returned_is ∙ ap (leaves Ok Err P.kinds P.words P.count) e)

  given_accepted : {i : ℕ} → Gives (read_into P bs) i → (Q : Pool) × (read_file bs P ≡ done i Q)
  given_accepted {i} e = accepted_out P.kinds P.words P.count (read_file bs P) (subst (λ L. Gives L i) returned_is e)

  returned_pool_is : {i : ℕ} {Q : Pool} → read_file bs P ≡ done i Q → Q.end ≡ P.end → pool_returned (read_into P bs) ≡ Q
  returned_pool_is {i} {Q} e same = ap pool_returned (returned_is ∙ ap (leaves Ok Err P.kinds P.words P.count) e) ∙ ap (pool Q.kinds Q.words Q.count) (sym (same ∙ whole))

-- (b) "Whatever bytes are handed in, reading into an empty pool that keeps these rules accepts them exactly when they are the node file of some root in some such pool."
pub reading_accepts_node_files : (bs : List ℕ) → AreBytes bs → (P : Pool) → KeepsRules P → P.count ≡ 0 → P.end ≡ limit → ((i : ℕ) × Gives (read_into P bs) i) ↔ IsNodeFile bs
reading_accepts_node_files bs are P k none whole =
    let both = accepts_node_files bs are P k none whole in (
      λ given. let (Q, e) = given_accepted P k whole bs given.1 in both.0 (given.0, Q, e),
      λ file. let (i, Q, e) = both.1 file in (i, accepted_gives P k whole bs e),
    )

-- (c) what an accepted call of reading leaves: the rules, the shapes of old expressions, and a root that is written again with the same bytes
pub reading_leaves_the_rules : (bs : List ℕ) → AreBytes bs → (P : Pool) → KeepsRules P → P.end ≡ limit → (i : ℕ) → Gives (read_into P bs) i → Leaves bs P i (pool_returned (read_into P bs))
reading_leaves_the_rules bs are P k whole i given =
    let (Q, e) = given_accepted P k whole bs given in
    let after = accepted_leaves_the_rules bs are P k i Q e in
    subst⁻¹ (Leaves bs P i) (returned_pool_is P k whole bs e after.end_kept) after

module _ (bs : List ℕ) (are : AreBytes bs) (P : Pool) (k : KeepsRules P) (whole : P.end ≡ limit) (i : ℕ) (given : Gives (read_into P bs) i) (old : List ℕ) where
  pub written_again_the_same : Accepted (written_from (pool_returned (read_into P bs)) i old) → bytes_written (written_from (pool_returned (read_into P bs)) i old) ≡ bs
  written_again_the_same a = file_is_there (pool_returned (read_into P bs)) i old a ∙ (reading_leaves_the_rules bs are P k whole i given).same_bytes

  pub written_again_where_it_fits : Accepted (written_from (pool_returned (read_into P bs)) i old) ↔ (length bs ≤ length old)
  written_again_where_it_fits =
      let after = reading_leaves_the_rules bs are P k whole i given in
      let last : i + 1 ≡ (pool_returned (read_into P bs)).count = after.root_last in
      subst (λ file. Accepted (written_from (pool_returned (read_into P bs)) i old) ↔ (length file ≤ length old)) after.same_bytes
      (accepted_where_the_file_fits (pool_returned (read_into P bs)) i old after.keeps_rules (omega arith))

-- "A node file reads back to the expression it came from": what an accepted `write` has written, `read` accepts into any pool with room, and the shape is the same
pub written_reads_back :
    (P Q : Pool) → KeepsRules P → KeepsRules Q → (r : ℕ) → Q.end ≡ limit → (old : List ℕ) → Accepted (written_from P r old) → HasRoom (size_of (bytes_written (written_from P r old))) Q
    → (s : ℕ) × Gives (read_into Q (bytes_written (written_from P r old))) s × SameShape P r (pool_returned (read_into Q (bytes_written (written_from P r old)))) s
written_reads_back P Q k m r whole old a room =
    let there = file_is_there P r old a in
    let (s, R, e, shape, after) = reads_back P Q k m r (accepted_writes P r old a).given (subst (λ bs. HasRoom (size_of bs) Q) there room) in
    let same = returned_pool_is Q m whole (file_from P r) e after.end_kept in
    subst⁻¹ (λ bs. (s : ℕ) × Gives (read_into Q bs) s × SameShape P r (pool_returned (read_into Q bs)) s) there
    (s, accepted_gives Q m whole (file_from P r) e, subst⁻¹ (λ T. SameShape P r T s) same shape)
