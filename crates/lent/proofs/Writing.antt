-- A call that fills an output: one that is accepted has passed each demand, and its bytes stand at the output's front.
-- Assumes nothing.
use Rattle.std.specs.Prelude.{Ok, Err}
use mathlib.Core.Path.{◌≡◌, refl, subst⁻¹}
use mathlib.Core.Bool.{Bool, true, false}
use mathlib.Core.List.{List}
use Prim.Native.Nat.{ℕ}
use lib.ListN.{length, drop}
use lib.Seq.{take-append_seam}
use Rattle.lent.specs.Call.{demand}
use Rattle.lent.specs.Writing.{Put, unwritten, writes, Accepted, bytes_written}
use Rattle.lent.specs.Answer.{Written}

IsLength : Written → Type 0
IsLength (Ok n) = Unit {0}
IsLength (Err k) = ⊥

-- an accepted call has passed each test
pub passed : (old : List ℕ) (t : Bool) (k : ℕ) (then : Put) → Accepted (demand (unwritten old) t k then) → (t ≡ true) × (demand (unwritten old) t k then ≡ then) × Accepted then
unfolding IsLength
passed old true k then a = (refl, refl, a)
passed old false k then (m, e) = absurd (subst⁻¹ IsLength e tt)

-- what is written is there
pub bytes_are_there : (bytes old : List ℕ) → bytes_written (writes bytes old) ≡ bytes
bytes_are_there bytes old = take-append_seam bytes (drop (length bytes) old)
