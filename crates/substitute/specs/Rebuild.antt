-- Nodes of two parts and of one are rebuilt alike.
-- Assumes nothing.
use Rattle.std.specs.Prelude.{◌&&◌, ℕ, eqb}
use Rattle.walks.specs.Walk.{Walk, lift}
use Rattle.walks.specs.Substitute.{unless}
use Rattle.constructor_calls.specs.declared.two.Two.{Two}
use Rattle.constructor_calls.specs.declared.one.One.{One}
use Rattle.constructor_calls.specs.Calls.{two_work, one_work}

-- if same_ref(a, a2) && same_ref(b, b2) { term } else { .. }
abbrev pub rebuild_two : ℕ → Two → ℕ → ℕ → ℕ → ℕ → Walk
rebuild_two term op a b a2 b2 = unless (eqb a a2 && eqb b b2) term (lift (two_work op a2 b2))

-- if same_ref(a, a2) { term } else { .. }
abbrev pub rebuild_one : ℕ → One → ℕ → ℕ → Walk
rebuild_one term op a a2 = unless (eqb a a2) term (lift (one_work op a2))
