-- The code's table of kept results, read and written: it is the definition's up to its end, and none is kept past it.
-- Assumes nothing.
use Rattle.std.specs.Prelude.{Option, Some, None}
use mathlib.Core.Path.{◌≡◌, sym, ap, ◌∙◌}
use mathlib.Core.List.{List}
use Prim.Native.Nat.{ℕ, ◌+◌, ◌-◌, ◌≤◌, ◌<◌}
use native.Mathlib.Omega.{arith}
use lib.ListN.{length, get_or, set, replicate, length-set, length-replicate, replicate-append-replicate, get_or-append}
use lib.Seq.{set-append_left}
use Rattle.pool.specs.Pool.{limit}
use Rattle.rewrite_walk.specs.Walked.{results_of}

pub result_read : (kept : List (Option ℕ)) (i : ℕ) → i < length kept → get_or (results_of kept) i None ≡ get_or kept i None
unfolding results_of
result_read kept i within = get_or-append kept (replicate (limit - length kept) None) None i within

pub result_written : (kept : List (Option ℕ)) (i r : ℕ) → i < length kept → results_of (set kept i (Some r)) ≡ set (results_of kept) i (Some r)
unfolding results_of
result_written kept i r within =
    rw (length-set kept i (Some r)) (sym (set-append_left kept (replicate (limit - length kept) None) i (Some r) within))

-- at first no result is kept
pub none_kept : (n : ℕ) → n ≤ limit → results_of (replicate n None) ≡ replicate limit None
unfolding results_of
none_kept n h =
    let all : n + (limit - n) ≡ limit = omega arith in
    rw (length-replicate {A = Option ℕ} n None) (replicate-append-replicate n (limit - n) None ∙ ap (λ (k : ℕ). replicate k None) all)
