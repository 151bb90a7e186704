-- The code's table of kept expansions, read and written: it stands for the kept results entry by entry, and for nothing past its end.
-- Assumes nothing.
use Rattle.std.specs.Prelude.{◌++◌, Some, None, IsSome, unwrap_or}
use Rattle.std.specs.Option.{is_some}
use Rattle.std.proofs.lemmas.List.{get_or_append_left, get_or_default, set-append_left, length-append, replicate-append-replicate}
use Rattle.std.proofs.lemmas.Option.{same_Some}
use mathlib.Core.Bool.{Bool, true, false}
use mathlib.Core.Path.{◌≡◌, refl, sym, ap, ◌∙◌}
use mathlib.Core.List.{List}
use Prim.Native.Nat.{ℕ, ◌+◌, ◌-◌, ◌≤◌, ◌<◌}
use native.Mathlib.Omega.{arith}
use lib.ListN.{length, get_or, set, replicate, length-set, length-replicate}
use lib.Seq.{get_or-set_same}
use Rattle.pool.specs.Pool.{limit}
use Rattle.taylor.specs.Expansion.{Expansion}
use Rattle.taylor.specs.declared.expansion.Expansion.TheVariants.{Constant}
use Rattle.taylor.specs.Expand.{Kept}
use Rattle.expand.specs.Results.{results_of, expansion_at, IsKept}

some_is : (o : Kept) (d : Expansion) → IsSome o → o ≡ Some (unwrap_or o d)
some_is None d h = absurd (let z : ◌≡◌ {A = Bool} false true = h in cc)
some_is (Some e) d h = refl

some : (o : Kept) {e : Expansion} → o ≡ Some e → IsSome o
some o h = rw h refl

pub results_long : (kept : List Kept) → length kept ≤ limit → length (results_of kept) ≡ limit
results_long kept most =
    let whole : length kept + (limit - length kept) ≡ limit = omega arith in
    length-append kept (replicate (limit - length kept) None)
    ∙ ap (λ (n : ℕ). length kept + n) (length-replicate {A = Kept} (limit - length kept) None)
    ∙ whole

pub is_none : (o : Kept) → is_some o ≡ false → o ≡ None
is_none None h = refl
is_none (Some e) h = absurd (let z : ◌≡◌ {A = Bool} true false = h in cc)

-- a table in which nothing is kept
pub none_kept : (n : ℕ) → n ≤ limit → results_of (replicate n None) ≡ replicate limit None
none_kept n most =
    let whole : n + (limit - n) ≡ limit = omega arith in
    ap (λ (m : ℕ). replicate {A = Kept} n None ++ replicate (limit - m) None) (length-replicate {A = Kept} n None)
    ∙ replicate-append-replicate {A = Kept} n (limit - n) None
    ∙ ap (λ (m : ℕ). replicate {A = Kept} m None) whole

module _ (kept : List Kept) (i : ℕ) (within : i < length kept) where
  pub result_at : get_or (results_of kept) i None ≡ get_or kept i None
  result_at = get_or_append_left kept (replicate (limit - length kept) None) None i within

  pub result_set : (r : Kept) → results_of (set kept i r) ≡ set (results_of kept) i r
  result_set r =
      ap (λ (n : ℕ). set kept i r ++ replicate (limit - n) None) (length-set kept i r)
      ∙ sym (set-append_left kept (replicate (limit - length kept) None) i r within)

  pub expansion_set : (e : Expansion) → expansion_at (set kept i (Some e)) i ≡ e
  expansion_set e = ap (λ (o : Kept). unwrap_or o (Constant 0)) (get_or-set_same kept i (Some e) None within)

  -- read with another default
  pub none_there : (d : Kept) → is_some (get_or kept i d) ≡ false → get_or kept i None ≡ None
  none_there d h = is_none (get_or kept i None) (rw (get_or_default kept i d None within) at h)

  pub some_there : (d : Kept) → is_some (get_or kept i d) ≡ true → IsSome (get_or kept i None)
  some_there d h = rw (get_or_default kept i d None within) at h

  pub stands_there : IsSome (get_or kept i None) → get_or kept i None ≡ Some (expansion_at kept i)
  stands_there h = some_is (get_or kept i None) (Constant 0) h

  -- what is kept among the results is kept in the table
  module _ {e : Expansion} (h : get_or (results_of kept) i None ≡ Some e) where
    pub is_kept : IsKept kept i
    is_kept = record { within = within; some = some (get_or kept i None) (sym result_at ∙ h) }

    pub is_there : expansion_at kept i ≡ e
    is_there = same_Some (expansion_at kept i) e (sym (stands_there is_kept.some) ∙ sym result_at ∙ h)
