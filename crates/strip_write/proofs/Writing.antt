-- Bytes written one after the other are the joined bytes, and so the parts' strips and the own code are the node's strip.
-- Assumes nothing.
use mathlib.Core.Path.{◌≡◌, refl, sym, ap, ◌∙◌}
use mathlib.Core.List.{List, [], ◌∷◌, ◌++◌, append_assoc}
use Prim.Native.Nat.{ℕ, ◌+◌, ◌<◌, ◌≤◌}
use native.Mathlib.Numerals.{add-one}
use native.Mathlib.Omega.{arith}
use lib.ListN.{length, drop, set, length-append}
use lib.Seq.{sets, sets-eq, length-sets}
use Rattle.low_bytes.specs.LowBytes.{low_bytes}
use Rattle.low_bytes.proofs.Bytes.{length_bytes}
use Rattle.low_bytes.proofs.Writing.{sets_joined}
use Rattle.pool.specs.declared.node.Node.{Node}
use Rattle.pool.specs.declared.parts.Parts.{Parts}
use Rattle.pool.specs.declared.parts.Parts.TheVariants.{None, One, Two}
use Rattle.pool.specs.Nodes.{parts}
use Rattle.pool.specs.Parts.{parts_in}
use Rattle.pool.proofs.Folds.{below, above}
use Rattle.key_strip.specs.Strip.{own_key, strip_of}
use Rattle.strip_write.specs.Written.{strip_below, WrittenFrom}
use Rattle.strip_write.proofs.Strips.{part_by_parts}

pub stays_long : {at to : ℕ} {l l' bytes : List ℕ} → WrittenFrom at l bytes to l' → length l' ≡ length l
stays_long {at} {l = l} {bytes = bytes} w = ap length w.in_place ∙ length-sets l at bytes

pub written_as : {at to : ℕ} {l l' x y : List ℕ} → x ≡ y → WrittenFrom at l x to l' → WrittenFrom at l y to l'
written_as e w = rw e at w

-- the room that is left after some bytes
pub room_after : {at m : ℕ} {l l₁ x : List ℕ} (rest : ℕ) → WrittenFrom at l x m l₁ → at + (length x + rest) ≤ length l → m + rest ≤ length l₁
room_after rest w room = omega (arith, w.end, stays_long w)

-- bytes s that are x and then y: they have room, and they are written
pub both_have_room : (x y : List ℕ) {s : List ℕ} (at : ℕ) (l : List ℕ) → s ≡ x ++ y → at + length s ≤ length l → at + (length x + length y) ≤ length l
both_have_room x y at l joins room = omega (arith, ap length joins, length-append x y)

pub both_written : {at m to : ℕ} {l l₁ l₂ s x y : List ℕ} → s ≡ x ++ y → WrittenFrom at l x m l₁ → WrittenFrom m l₁ y to l₂ → WrittenFrom at l s to l₂
both_written {at} {l = l} {x = x} {y} joins w v =
    written_as (sym joins)
    (record {
      end = omega (arith, length-append x y, w.end, v.end);
      in_place = v.in_place ∙ rw (w.in_place, w.end) (sym (sets_joined x y l at));
    })

-- a code and what follows it
pub key_written : (at code k x : ℕ) {l l' : List ℕ} → l' ≡ sets (set l at code) (at + 1) (low_bytes k x) → WrittenFrom at l (code ∷ low_bytes k x) (at + 1 + k) l'
key_written at code k x {l} e =
    record {
      end = omega (arith, length_bytes k x);
      in_place = e ∙ ap (λ (j : ℕ). sets (set l at code) j (low_bytes k x)) (add-one at);
    }

-- the strips of the parts, one after the other
abbrev pub parts_strip : (ℕ → List ℕ) → Parts → List ℕ
parts_strip down None = []
parts_strip down (One a) = down a
parts_strip down (Two a b) = down a ++ down b

-- the parts were found to be x, and where their strips end and what is written then were told
pub parts_written : (down : ℕ → List ℕ) {p x : Parts} {at to end : ℕ} {l l' l'' : List ℕ} → p ≡ x → end ≡ to → l'' ≡ l' → WrittenFrom at l (parts_strip down x) to l' → WrittenFrom at l (parts_strip down p) end l''
parts_written down e f g w = rw (e, f, g) w

module _ (node : ℕ → Node) where
  -- a part that is not below the bound
  pub nothing_written : {k a : ℕ} (at : ℕ) (l : List ℕ) → k ≤ a → WrittenFrom at l (strip_below node k a) at l
  nothing_written {k} {a} at l h = written_as (above [] (strip_of node) k a h) record { end = omega arith; in_place = refl }

  -- n is the node that was read, and p its parts as they were told: the strips of the parts, and then the own code
  pub strip_is : {k i : ℕ} {n : Node} (p : Parts) → i < k → n ≡ node i → parts_in p ≡ parts n → strip_below node k i ≡ parts_strip (strip_below node i) p ++ own_key n
  strip_is None smaller read told = part_by_parts node {p = None} read told refl smaller
  strip_is (One a) smaller read told = part_by_parts node {p = One a} read told refl smaller
  strip_is {i = i} {n} (Two a b) smaller read told =
      part_by_parts node {p = Two a b} read told refl smaller ∙ sym (append_assoc (strip_below node i a) (strip_below node i b) (own_key n))

  -- the root is below the bound that is one more
  module _ (root : ℕ) (l : List ℕ) where
    whole : strip_of node root ≡ strip_below node (root + 1) root
    whole = below [] (strip_of node) (root + 1) root (omega arith)

    pub room_for_all : length (strip_of node root) ≤ length l → 0 + length (strip_below node (root + 1) root) ≤ length l
    room_for_all room = omega (arith, ap length whole)

    pub all_written : {l' : List ℕ} → length (strip_of node root) ≤ length l → l' ≡ sets l 0 (strip_below node (root + 1) root) → l' ≡ strip_of node root ++ drop (length (strip_of node root)) l
    all_written room in_place = rw (← whole) at in_place ∙ sets-eq (strip_of node root) l 0 (omega arith) ∙ ap (λ (j : ℕ). strip_of node root ++ drop j l) (none (length (strip_of node root)))
      where
        none : (j : ℕ) → 0 + j ≡ j
        none j = omega arith
