-- The facts on 19: short texts and files are computed, and of long texts the length.
-- Assumes nothing.
use Rattle.std.specs.Prelude.{Ok}
use mathlib.Core.Path.{◌≡◌, refl, ◌∙◌}
use mathlib.Core.Bool.{Bool, true, false, not, ◌&&◌, cond}
use mathlib.Core.List.{List, ◌++◌}
use Prim.Native.Nat.{ℕ, ◌+◌}
use native.Mathlib.Omega.{arith}
use lib.Dec.{leb, lit≤}
use lib.IntN.{pos}
use lib.ListN.{length, drop, length-replicate}
use Rattle.low_bytes.specs.Output.{longest_text}
use Rattle.text.specs.Text.{digits_within, decimal, signed_decimal, display}
use Rattle.pool.specs.declared.node.Node.{Node}
use Rattle.pool.specs.declared.node.Node.TheVariants.{Variable, Lit, Mul}
use Rattle.pool.specs.Nodes.{decode, may_stand_at}
use Rattle.pool.specs.Fold.{under, fold_nodes_within, fold_nodes}
use Rattle.pool.specs.Pool.{node_in, each}
use Rattle.shape.specs.Order as order
use Rattle.shape.specs.File.{file_of, written_file}
use Rattle.refusals.specs.Refusals.{max_reached, no_room}
use Rattle.walks.specs.Print.{text_of}
use Rattle.lent.specs.Call.{demand}
use Rattle.lent.specs.Writing.{put, unwritten, writes}
use Rattle.low_bytes.specs.Output.{text_fits}
use Rattle.limits.specs.Lent.{lent, kinds_of, words_of, text65535, text65536}
use Rattle.limits.specs.Calls.{Answer, gives, refuses, output, length_written, printed}
use Rattle.limits_texts.specs.Outputs.{Outputs}
use Rattle.limits_texts.proofs.LongTexts.{Long, leaf_long, product_long}
use Rattle.limits.proofs.Called.{printed_on, written_on}

-- what printing answers goes by the length of the text
module _ (room : ℕ) (max : Bool) (text : List ℕ) (m : max ≡ false) where
  answered : Answer
  answered =
      length_written (demand (unwritten (output room)) (not max) max_reached (demand (unwritten (output room)) (text_fits text (output room)) no_room (writes text (output room)))).answer

  goes_by_length : (n : ℕ) → length text ≡ n → answered ≡ cond (leb n longest_text && leb n room) (gives n) (refuses no_room)
  unfolding answered
  goes_by_length n e = rw (m, e, length-replicate {A = ℕ} room 0) (chosen (leb n longest_text && leb n room))
    where
      chosen : (t : Bool) → length_written (demand (unwritten (output room)) t no_room (put (Ok n) (text ++ drop n (output room)))).answer ≡ cond t (gives n) (refuses no_room)
      chosen true = refl
      chosen false = refl

-- 2^15 letters, made by 15 products of a node with itself
abbrev at65535 : ℕ → Node
at65535 = node_in (kinds_of text65535) (words_of text65535)

twice : {i n : ℕ} → at65535 (i + 1) ≡ Mul i i → Long at65535 i n → Long at65535 (i + 1) (n + 1 + n)
twice is x = product_long at65535 is (omega arith) (omega arith) x x

long_65535 : Long at65535 15 65535
unfolding node_in decode display
long_65535 =
    let letter : Long at65535 0 1 = leaf_long at65535 {x = Variable 0} refl (display 0) refl (λ down. refl) (λ down. refl) in
    let a4 : Long at65535 4 31 = twice refl (twice refl (twice refl (twice refl letter))) in
    let a8 : Long at65535 8 511 = twice refl (twice refl (twice refl (twice refl a4))) in
    let a12 : Long at65535 12 8191 = twice refl (twice refl (twice refl (twice refl a8))) in
    twice refl (twice refl (twice refl a12))

-- the same with 10 for the last letter: its products are nodes 16 to 30, each of a node from 0 on and the product before
abbrev at65536 : ℕ → Node
at65536 = node_in (kinds_of text65536) (words_of text65536)

both : {i n m : ℕ} → at65536 (i + 16) ≡ Mul i (i + 15) → Long at65536 i n → Long at65536 (i + 15) m → Long at65536 (i + 16) (n + 1 + m)
both is x y = product_long at65536 is (omega arith) (omega arith) x y

square : {i n : ℕ} → at65536 (i + 1) ≡ Mul i i → Long at65536 i n → Long at65536 (i + 1) (n + 1 + n)
square is x = product_long at65536 is (omega arith) (omega arith) x x

long_65536 : Long at65536 30 65536
unfolding node_in decode display signed_decimal decimal digits_within
long_65536 =
    let a0 : Long at65536 0 1 = leaf_long at65536 {x = Variable 0} refl (display 0) refl (λ down. refl) (λ down. refl) in
    let a1 = square refl a0 in
    let a2 = square refl a1 in
    let a3 = square refl a2 in
    let a4 = square refl a3 in
    let a5 = square refl a4 in
    let a6 = square refl a5 in
    let a7 = square refl a6 in
    let a8 = square refl a7 in
    let a9 = square refl a8 in
    let a10 = square refl a9 in
    let a11 = square refl a10 in
    let a12 = square refl a11 in
    let a13 = square refl a12 in
    let a14 = square refl a13 in
    let ten : Long at65536 15 2 = leaf_long at65536 {x = Lit (pos 10)} refl (signed_decimal (pos 10)) refl (λ down. refl) (λ down. refl) in
    both refl a14 (both refl a13 (both refl a12 (both refl a11 (both refl a10 (both refl a9 (both refl a8 (both refl a7 (both refl a6 (both refl a5 (both refl a4 (both refl a3 (both refl a2 (both refl a1 (both refl a0 ten))))))))))))))

taken_65535 : printed 65535 15 (lent text65535) ≡ gives 65535
unfolding answered node_in decode may_stand_at each
taken_65535 = printed_on _ refl _ _ ∙ goes_by_length 65535 _ (text_of at65535 15) long_65535.no_max 65535 (long_65535.bytes 0 (lit≤ tt))

one_byte_short : printed 65534 15 (lent text65535) ≡ refuses 19
unfolding answered node_in decode may_stand_at each
one_byte_short = printed_on _ refl _ _ ∙ goes_by_length 65534 _ (text_of at65535 15) long_65535.no_max 65535 (long_65535.bytes 0 (lit≤ tt))

refused_65536 : printed 65536 30 (lent text65536) ≡ refuses 19
unfolding answered node_in decode may_stand_at each
refused_65536 = printed_on _ refl _ _ ∙ goes_by_length 65536 _ (text_of at65536 30) long_65536.no_max 65536 (long_65536.bytes 0 (lit≤ tt))

pub outputs : Outputs
unfolding node_in decode may_stand_at each display signed_decimal decimal digits_within order.walk order.numbered order.written file_of written_file fold_nodes fold_nodes_within under
outputs =
    record {
      text_of_1_in_1 = printed_on _ refl _ _;
      text_of_1_in_0 = printed_on _ refl _ _;
      text_65535 = taken_65535;
      text_65535_in_65534 = one_byte_short;
      text_65536 = refused_65536;
      length_65536 = long_65536.bytes 0 (lit≤ tt);
      file_of_13_in_13 = written_on _ refl _ _;
      file_of_13_in_12 = written_on _ refl _ _;
    }
