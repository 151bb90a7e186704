-- Runs of digits and of other bytes: each ends at the first byte of the other kind.
-- Assumes nothing.
use Rattle.std.proofs.Common.{◌≡◌, ◌≤◌, refl, Bool, true, false, not, cond, ℕ, List, [], ◌∷◌, length}
use native.Mathlib.Omega.{arith}
use Prim.Native.Nat.{suc, ◌+◌}
use borrow.Author.Tests.{ltb-false}
use Rattle.std.proofs.Common.{nat_lt}
use Rattle.std.proofs.lemmas.List.Sums.{prefix_len-le-length}
use Rattle.std.specs.Prelude.{Option, Some, None}
use Rattle.std.specs.Option.{unwrap_or}
use Rattle.std.specs.List.{position, position_or_len}
use Rattle.number_list.specs.Numbers.{belongs_to, run}

pub within : (p : ℕ → Bool) (bs : List ℕ) → position_or_len p bs ≤ length bs
within p bs = prefix_len-le-length (λ b. not (p b)) bs

-- the first byte of the other kind, or the length
pub run_ends : (digits : Bool) (bs : List ℕ) → run digits bs ≡ position_or_len (λ b. not (belongs_to digits b)) bs
unfolding run
run_ends digits [] = refl
run_ends digits (b ∷ bs) = go (belongs_to digits b) (run_ends digits bs)
  where
    go : (t : Bool) → run digits bs ≡ position_or_len (λ b. not (belongs_to digits b)) bs → cond t (suc (run digits bs)) 0 ≡ cond (not (not t)) (1 + position_or_len (λ b. not (belongs_to digits b)) bs) 0
    go true e = omega arith
    go false e = refl

pub or_len : (p : ℕ → Bool) (bs : List ℕ) (r : Option ℕ) → r ≡ position p bs → unwrap_or r (length bs) ≡ position_or_len p bs
or_len p bs r e = rw e (go (nat_lt (position_or_len p bs) (length bs)) refl)
  where
    go : (t : Bool) → nat_lt (position_or_len p bs) (length bs) ≡ t → unwrap_or (cond t (Some (position_or_len p bs)) None) (length bs) ≡ position_or_len p bs
    go true e = refl
    go false e = let w = within p bs in let g = ltb-false _ _ e in omega arith
