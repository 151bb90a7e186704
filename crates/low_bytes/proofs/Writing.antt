-- Texts written one after the other: two of them are the joined text, and one that starts at the front is in place there.
-- Assumes nothing.
use mathlib.Core.Path.{◌≡◌, refl, sym, ap, ◌∙◌}
use mathlib.Core.List.{List, [], ◌∷◌, ◌++◌}
use Prim.Native.Nat.{ℕ, suc, ◌+◌, ◌<◌, ◌≤◌, min}
use native.Mathlib.Numerals.{add-one}
use native.Mathlib.Omega.{arith}
use lib.ListN.{length, take, drop, get_or, set, length-append}
use lib.Seq.{sets, sets-eq, set_out, take-suc, take_all}
use Rattle.low_bytes.specs.Output.{Wrote, longest_text, past_longest}

pub sets_joined : (xs ys l : List ℕ) (i : ℕ) → sets l i (xs ++ ys) ≡ sets (sets l i xs) (i + length xs) ys
sets_joined [] ys l i = ap (λ (k : ℕ). sets l k ys) (omega arith)
sets_joined (x ∷ xs) ys l i =
    let e : suc i + length xs ≡ i + suc (length xs) = omega arith in
    sets_joined xs ys (set l i x) (suc i) ∙ ap (λ (k : ℕ). sets (sets (set l i x) (suc i) xs) k ys) e

-- one text after the other
pub written_after : {at m n : ℕ} {l l₁ l₂ x y : List ℕ} → Wrote at l x m l₁ → Wrote m l₁ y n l₂ → Wrote at l (x ++ y) n l₂
written_after {at} {m} {n} {l} {l₁} {l₂} {x} {y} w v =
    record {
      end = omega (arith, length-append x y, w.end, v.end);
      bytes = λ fits.
          let whole : at + (length x + length y) ≤ longest_text = omega (arith, length-append x y, fits) in
          let m_is : m ≡ at + length x = omega (arith, w.end) in
          let e₁ : l₁ ≡ sets l at x = w.bytes (omega arith) in
          let e₂ : l₂ ≡ sets l₁ m y = v.bytes (omega arith) in
          e₂ ∙ rw (e₁, m_is) (sym (sets_joined x y l at));
    }

pub three_written : {at m₁ m₂ to : ℕ} {l l₁ l₂ l' x y z : List ℕ} → Wrote at l x m₁ l₁ → Wrote m₁ l₁ y m₂ l₂ → Wrote m₂ l₂ z to l' → Wrote at l (x ++ y ++ z) to l'
three_written u v w = written_after (written_after u v) w

-- no text
pub none_written : (at : ℕ) (l : List ℕ) → at ≤ past_longest → Wrote at l [] at l
none_written at l h = record { end = omega arith; bytes = λ _. refl }

-- where the position is past the longest text, nothing more is to be done
pub past_longest_lem : (at : ℕ) (l text : List ℕ) → at ≤ past_longest → longest_text < at → Wrote at l text at l
past_longest_lem at l text h past = record { end = omega arith; bytes = λ fits. absurd (none fits) }
  where
    none : at + length text ≤ longest_text → ⊥
    none fits = omega arith

pub byte_written : (at b : ℕ) (l : List ℕ) → at ≤ longest_text → Wrote at l (b ∷ []) (at + 1) (set l at b)
byte_written at b l h = record { end = omega arith; bytes = λ _. refl }

-- a byte past the end of the output is counted alone
pub byte_counted : (at b : ℕ) (l : List ℕ) → at ≤ longest_text → length l ≤ at → Wrote at l (b ∷ []) (at + 1) l
byte_counted at b l h past = record { end = omega arith; bytes = λ _. sym (set_out l at b past) }

pub stays_countable : {at to : ℕ} {l text l' : List ℕ} → Wrote at l text to l' → to ≤ past_longest
stays_countable w = omega (arith, w.end)

pub written_as : {at to : ℕ} {l l' : List ℕ} (x y : List ℕ) → x ≡ y → Wrote at l x to l' → Wrote at l y to l'
written_as x y e w = rw e at w

-- a text that was written from the front on
pub counted : {to : ℕ} {l l' : List ℕ} (text : List ℕ) → Wrote 0 l text to l' → to ≡ min (length text) (longest_text + 1)
counted text w = omega (arith, w.end)

pub in_place : {to : ℕ} {l l' : List ℕ} (text : List ℕ) → Wrote 0 l text to l' → length text ≤ length l → length text ≤ longest_text → l' ≡ text ++ drop (length text) l
in_place {to} {l} {l'} text w room short =
    let e : 0 + length text ≡ length text = omega arith in
    w.bytes (omega arith) ∙ sets-eq text l 0 (omega arith) ∙ ap (λ (k : ℕ). text ++ drop k l) e

-- a text that is written byte by byte
pub one_byte_more : {at m n : ℕ} {l l₁ l₂ : List ℕ} (bytes : List ℕ) (i : ℕ) → i < length bytes
    → Wrote at l (take i bytes) m l₁ → Wrote m l₁ (get_or bytes i 0 ∷ []) n l₂ → Wrote at l (take (i + 1) bytes) n l₂
one_byte_more bytes i h w v = rw (add-one i, take-suc bytes i 0 h) (written_after w v)

pub all_bytes : {at to : ℕ} {l l' : List ℕ} (bytes : List ℕ) (i : ℕ) → length bytes ≤ i → Wrote at l (take i bytes) to l' → Wrote at l bytes to l'
all_bytes bytes i h w = rw (take_all i bytes h) at w
