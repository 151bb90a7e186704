-- One step of a walk after another: an answer that the code takes apart by `?` is a step of the definitions' `bind`. So for every table of kept results.
-- Assumes nothing.
use Rattle.std.specs.Prelude.{Option, Result, Ok}
use mathlib.Core.Path.{◌≡◌, refl, sym, ap, ◌∙◌}
use mathlib.Core.List.{List}
use Prim.Native.Nat.{ℕ}
use Rattle.refusals.specs.declared.Refusal.{Refusal}
use Rattle.pool.specs.Pool.{Pool, Out, done, refused}
use Rattle.pool.specs.Made.{made}
use Rattle.walks.specs.Walk.{state, Went, Walk, bind, lifted, built}

-- the step came to a node: what is left goes on from there
pub onward :
    {r : Result ℕ Refusal} {i : ℕ} (P : Pool) (kept : List (Option ℕ)) {x o : Went} (next : ℕ → Walk)
    → r ≡ Ok i
    → lifted kept (made r P) ≡ x
    → o ≡ next i (state P kept)
    → o ≡ bind x next
onward P kept next e m h = h ∙ sym (ap (λ (y : Went). bind y next) (sym m ∙ ap (λ (q : Result ℕ Refusal). lifted kept (made q P)) e))

-- a constructor's answer, lifted into a walk, comes out of it again
pub built_lifted : (kept : List (Option ℕ)) (o : Out) → built (lifted kept o) ≡ o
built_lifted kept (done i P) = refl
built_lifted kept (refused k) = refl
