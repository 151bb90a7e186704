-- A test at each of 0, .., n - 1, made in a loop: it ends with all passed, or at one that fails.
-- Assumes nothing.
use mathlib.Core.Path.{◌≡◌, sym}
use mathlib.Core.Bool.{Bool, true, false}
use Prim.Native.Nat.{ℕ, ◌<◌, ◌≤◌}
use native.Mathlib.Omega.{arith}
use Rattle.pool.specs.Pool.{each}
use Rattle.shape.proofs.Lists.{not_both, not_true_false}
use Rattle.shape.proofs.Tests.{each_holds, each_of}

-- those below i have passed
abbrev pub Passed : (ℕ → Bool) → ℕ → Type 0
Passed test i = (j : ℕ) → j < i → test j ≡ true

pub all_pass : (n : ℕ) (test : ℕ → Bool) (i : ℕ) → n ≤ i → Passed test i → true ≡ each n test
all_pass n test i l h = sym (each_of n test (λ j m. h j (omega arith)))

pub one_fails : (n : ℕ) (test : ℕ → Bool) (i : ℕ) → i < n → test i ≡ false → false ≡ each n test
one_fails n test i l f = sym (not_true_false (each n test) (λ h. not_both (each_holds n test h i l) f))
