-- The facts on making strips: short ones are computed, and of long ones the length.
-- Assumes nothing.
use Rattle.std.specs.Prelude.{Ok}
use mathlib.Core.Path.{◌≡◌, refl, ◌∙◌}
use mathlib.Core.Bool.{Bool, true, false, not, ◌&&◌, cond}
use mathlib.Core.List.{◌++◌}
use Prim.Native.Nat.{ℕ, ◌+◌, max}
use native.Mathlib.Omega.{arith}
use lib.Dec.{leb}
use lib.ListN.{drop, length-replicate}
use Rattle.refusals.specs.Refusals.{not_evaluated, no_room, too_many_places}
use Rattle.low_bytes.specs.Output.{longest_text, text_fits}
use Rattle.pool.specs.declared.node.Node.{Node}
use Rattle.pool.specs.declared.node.Node.TheVariants.{Mul}
use Rattle.pool.specs.Nodes.{decode, may_stand_at}
use Rattle.pool.specs.Fold.{under, fold_nodes_within, fold_nodes}
use Rattle.pool.specs.Pool.{node_in, each}
use Rattle.key_strip.specs.Strip.{strip_of, places_of, most_places, has_exp_or_log}
use Rattle.lent.specs.Call.{demand}
use Rattle.lent.specs.Writing.{put, unwritten, writes}
use Rattle.limits.specs.Lent.{lent, kinds_of, words_of}
use Rattle.limits.specs.Calls.{Answer, gives, refuses, output, length_written}
use Rattle.limits_strips.specs.Calls.{stripped, strip65535, strip65536}
use Rattle.limits_strips.specs.Strips.{Codes, Making}
use Rattle.limits_strips.proofs.Called.{stripped_on, strip_on}
use Rattle.limits_strips.proofs.LongStrips.{Long, product_long}

pub codes : Codes
unfolding node_in decode may_stand_at each fold_nodes fold_nodes_within under
codes =
    record {
      variable_258 = strip_on _ refl _;
      literal_258 = strip_on _ refl _;
      literal_minus_2 = strip_on _ refl _;
      a_sum = strip_on _ refl _;
      a_product = strip_on _ refl _;
      a_quotient = strip_on _ refl _;
      a_greater = strip_on _ refl _;
      a_power = strip_on _ refl _;
    }

-- what making a strip answers goes by its length, where no Exp or Log is reached and the places are there
module _ (room : ℕ) (at : ℕ → Node) (root : ℕ) where
  answered : Answer
  answered =
      length_written
      (demand (unwritten (output room)) (not (has_exp_or_log at root)) not_evaluated
      (demand (unwritten (output room)) (leb (places_of at root) most_places) too_many_places
      (demand (unwritten (output room)) (text_fits (strip_of at root) (output room)) no_room (writes (strip_of at root) (output room))))).answer

  goes_by_length : {p : ℕ} (n : ℕ) → Long at root n p → leb p most_places ≡ true → answered ≡ cond (leb n longest_text && leb n room) (gives n) (refuses no_room)
  unfolding answered
  goes_by_length n x few = rw (x.reaches_no_exp_or_log, x.places, few, x.bytes, length-replicate {A = ℕ} room 0) (chosen (leb n longest_text && leb n room))
    where
      chosen : (t : Bool) → length_written (demand (unwritten (output room)) t no_room (put (Ok n) (strip_of at root ++ drop n (output room)))).answer ≡ cond t (gives n) (refuses no_room)
      chosen true = refl
      chosen false = refl

-- 2^14 variables, made by 14 products of a node with itself
abbrev at65535 : ℕ → Node
at65535 = node_in (kinds_of strip65535) (words_of strip65535)

twice : {i n p : ℕ} → at65535 (i + 1) ≡ Mul i i → Long at65535 i n p → Long at65535 (i + 1) (n + (n + 1)) (max p (p + 1))
twice is x = product_long at65535 is (omega arith) (omega arith) x x

leaf65535 : Long at65535 0 3 1
unfolding node_in decode fold_nodes fold_nodes_within under
leaf65535 = record { bytes = refl; places = refl; reaches_no_exp_or_log = refl }

long_65535 : Long at65535 14 65535 15
unfolding node_in decode
long_65535 =
    let a4 : Long at65535 4 63 5 = twice refl (twice refl (twice refl (twice refl leaf65535))) in
    let a8 : Long at65535 8 1023 9 = twice refl (twice refl (twice refl (twice refl a4))) in
    let a12 : Long at65535 12 16383 13 = twice refl (twice refl (twice refl (twice refl a8))) in
    twice refl (twice refl a12)

-- products of nodes 1 to 13, which have 2^1 to 2^13 variables, and of a power: nodes 15 to 27
abbrev at65536 : ℕ → Node
at65536 = node_in (kinds_of strip65536) (words_of strip65536)

both : {i n m p q : ℕ} → at65536 (i + 14) ≡ Mul i (i + 13) → Long at65536 i n p → Long at65536 (i + 13) m q → Long at65536 (i + 14) (n + (m + 1)) (max p (q + 1))
both is x y = product_long at65536 is (omega arith) (omega arith) x y

square : {i n p : ℕ} → at65536 (i + 1) ≡ Mul i i → Long at65536 i n p → Long at65536 (i + 1) (n + (n + 1)) (max p (p + 1))
square is x = product_long at65536 is (omega arith) (omega arith) x x

leaf65536 : Long at65536 0 3 1
unfolding node_in decode fold_nodes fold_nodes_within under
leaf65536 = record { bytes = refl; places = refl; reaches_no_exp_or_log = refl }

power65536 : Long at65536 14 8 1
unfolding node_in decode fold_nodes fold_nodes_within under
power65536 = record { bytes = refl; places = refl; reaches_no_exp_or_log = refl }

long_65536 : Long at65536 27 65536 14
unfolding node_in decode
long_65536 =
    let a1 = square refl leaf65536 in
    let a2 = square refl a1 in
    let a3 = square refl a2 in
    let a4 = square refl a3 in
    let a5 = square refl a4 in
    let a6 = square refl a5 in
    let a7 = square refl a6 in
    let a8 = square refl a7 in
    let a9 = square refl a8 in
    let a10 = square refl a9 in
    let a11 = square refl a10 in
    let a12 = square refl a11 in
    let a13 = square refl a12 in
    both refl a13 (both refl a12 (both refl a11 (both refl a10 (both refl a9 (both refl a8 (both refl a7 (both refl a6 (both refl a5 (both refl a4 (both refl a3 (both refl a2 (both refl a1 power65536))))))))))))

taken_65535 : stripped 65535 14 (lent strip65535) ≡ gives 65535
unfolding answered node_in decode may_stand_at each
taken_65535 = stripped_on _ refl _ _ ∙ goes_by_length 65535 at65535 14 65535 long_65535 refl

one_byte_short : stripped 65534 14 (lent strip65535) ≡ refuses 19
unfolding answered node_in decode may_stand_at each
one_byte_short = stripped_on _ refl _ _ ∙ goes_by_length 65534 at65535 14 65535 long_65535 refl

refused_65536 : stripped 65536 27 (lent strip65536) ≡ refuses 19
unfolding answered node_in decode may_stand_at each
refused_65536 = stripped_on _ refl _ _ ∙ goes_by_length 65536 at65536 27 65536 long_65536 refl

pub making : Making
unfolding node_in decode may_stand_at each fold_nodes fold_nodes_within under
making =
    record {
      places_128 = stripped_on _ refl _ _;
      places_129 = stripped_on _ refl _ _;
      places_before_room = stripped_on _ refl _ _;
      exp_before_places = stripped_on _ refl _ _;
      log_refused = stripped_on _ refl _ _;
      exp_not_reached = stripped_on _ refl _ _;
      bytes_65535 = taken_65535;
      bytes_65535_in_65534 = one_byte_short;
      bytes_65536 = refused_65536;
      length_65536 = long_65536.bytes;
      no_such_node = stripped_on _ refl _ _;
    }
