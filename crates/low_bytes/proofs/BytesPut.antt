-- A number's bytes put over an output one after the other.
-- Assumes nothing.
use mathlib.Core.Path.{◌≡◌, refl, sym, ap, ap₂, ◌∙◌, subst}
use mathlib.Core.List.{List, ◌++◌, append_assoc, append-nil}
use Prim.Native.Nat.{ℕ, suc, ◌+◌, ◌-◌, ◌/◌, ◌%◌, ◌≤◌, ◌<◌}
use native.Mathlib.Nat.{zero-add}
use native.Mathlib.Omega.{arith}
use lib.ListN.{length, set, length-set, take, drop}
use lib.Seq.{sets, sets-eq}
use borrow.Rule.Slice.PartMut.{mid_of, put_mid, post_of, mid_len, Post-is}
use Rattle.std.proofs.lemmas.List.{drop_all}
use Rattle.low_bytes.specs.LowBytes.{low_bytes}
use Rattle.low_bytes.proofs.Bytes.{length_bytes}

-- the bytes of a number: i of k are put, and what is left to put makes the whole
pub record BytesPut (old : List ℕ) (at k x : ℕ) (out : List ℕ) (rest i : ℕ) : Type 0 where
  pub few : i ≤ k
  pub long : length out ≡ length old
  pub whole : sets out (at + i) (low_bytes (k - i) rest) ≡ sets old at (low_bytes k x)

pub no_bytes_put : (old : List ℕ) (at k x : ℕ) → BytesPut old at k x old x 0
no_bytes_put old at k x =
    record {
      few = omega arith;
      long = refl;
      whole = ap₂ (λ i j. sets old i (low_bytes j x)) (same at) (all k);
    }
  where
    same : (n : ℕ) → n + 0 ≡ n
    same n = omega arith

    all : (n : ℕ) → n - 0 ≡ n
    all n = omega arith

pub byte_put : {old : List ℕ} {at k x : ℕ} {out : List ℕ} {rest i : ℕ} → BytesPut old at k x out rest i → i < k → BytesPut old at k x (set out (at + i) (rest % 256)) (rest / 256) (i + 1)
byte_put {old} {at} {k} {x} {out} {rest} {i} b l =
    record {
      few = omega arith;
      long = length-set out (at + i) (rest % 256) ∙ b.long;
      whole = ap (λ j. sets (set out (at + i) (rest % 256)) j (low_bytes (k - (i + 1)) (rest / 256))) (next at i) ∙ sym (ap (λ j. sets out (at + i) (low_bytes j rest)) (one_less k i l)) ∙ b.whole;
    }
  where
    next : (at i : ℕ) → at + (i + 1) ≡ suc (at + i)
    next at i = omega arith

    one_less : (k i : ℕ) → i < k → k - i ≡ suc (k - (i + 1))
    one_less k i l = omega arith

pub all_bytes_put : {old : List ℕ} {at k x : ℕ} {out : List ℕ} {rest i : ℕ} → BytesPut old at k x out rest i → k ≤ i → out ≡ sets old at (low_bytes k x)
all_bytes_put {at = at} {k} {x} {out} {rest} {i} b l = sym (ap (λ j. sets out (at + i) (low_bytes j rest)) (none k i l)) ∙ b.whole
  where
    none : (k i : ℕ) → k ≤ i → k - i ≡ 0
    none k i l = omega arith

-- a byte put in the part of the output that takes them
pub part_byte_put : (out : List ℕ) (at : ℕ) {items : List ℕ} {k x rest i : ℕ} → BytesPut (mid_of at (at + k - at) out) 0 k x items rest i → at + k ≤ length out → i < length items
    → BytesPut (mid_of at (at + k - at) out) 0 k x (set items i (rest % 256)) (rest / 256) (i + 1)
part_byte_put out at {items} {k} {x} {rest} {i} b room l =
    let n : length (mid_of at (at + k - at) out) ≡ at + k - at = mid_len at (at + k) out room in
    let more : i < k = omega (arith, l, b.long, n) in
    subst (λ (j : ℕ). BytesPut (mid_of at (at + k - at) out) 0 k x (set items j (rest % 256)) (rest / 256) (i + 1)) (zero-add i) (byte_put b more)

-- bytes over the whole of a part are the part
over_all : (old : List ℕ) (k x : ℕ) → length old ≡ k → sets old 0 (low_bytes k x) ≡ low_bytes k x
over_all old k x e =
    sets-eq (low_bytes k x) old 0 (omega (arith, e, length_bytes k x)) ∙ ap (λ (r : List ℕ). low_bytes k x ++ r) (drop_all (0 + length (low_bytes k x)) old (omega (arith, e, length_bytes k x))) ∙ append-nil (low_bytes k x)

-- the part of the output that takes the bytes, put back when all are put
pub part_put : (out : List ℕ) (at : ℕ) {items : List ℕ} {k x rest i : ℕ} → BytesPut (mid_of at (at + k - at) out) 0 k x items rest i → at + k ≤ length out → length items ≤ i → put_mid at (at + k - at) out items ≡ sets out at (low_bytes k x)
part_put out at {items} {k} {x} {rest} {i} b room end =
    let n : length (mid_of at (at + k - at) out) ≡ at + k - at = mid_len at (at + k) out room in
    let same : length (mid_of at (at + k - at) out) ≡ k = omega (arith, n) in
    let is : items ≡ low_bytes k x = all_bytes_put b (omega (arith, b.long, same, end)) ∙ over_all _ k x same in
    let last : at + k ≡ at + length (low_bytes k x) = omega (arith, length_bytes k x) in
    ap (put_mid at (at + k - at) out) is
    ∙ sym (append_assoc (take at out) (low_bytes k x) (post_of at (at + k - at) out))
    ∙ ap (λ (r : List ℕ). take at out ++ low_bytes k x ++ r) (Post-is at (at + k) out (omega arith))
    ∙ ap (λ (j : ℕ). take at out ++ low_bytes k x ++ drop j out) last
    ∙ sym (sets-eq (low_bytes k x) out at (omega (arith, last, room)))
