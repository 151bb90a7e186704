-- A text put at the front of an output that has room for it.
-- Assumes nothing.
use mathlib.Core.Path.{◌≡◌, ap, ◌∙◌}
use mathlib.Core.List.{List, ◌++◌}
use Prim.Native.Nat.{ℕ, ◌+◌, ◌≤◌}
use native.Mathlib.Omega.{arith}
use lib.ListN.{length, take, drop}
use lib.Seq.{sets, sets-eq, take-append_seam}

pub put_in_front : (l text : List ℕ) → length text ≤ length l → sets l 0 text ≡ text ++ drop (length text) l
put_in_front l text fits =
    let e : 0 + length text ≡ length text = omega arith in
    sets-eq text l 0 (omega arith) ∙ ap (λ (k : ℕ). text ++ drop k l) e

pub kept_in_front : (l text : List ℕ) → length text ≤ length l → take (length text) (sets l 0 text) ≡ text
kept_in_front l text fits = rw (put_in_front l text fits) (take-append_seam text (drop (length text) l))
