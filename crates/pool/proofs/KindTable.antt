-- The table of kinds at a number that is none of the nine kinds.
-- Assumes nothing.
use Rattle.std.proofs.Common.{◌≡◌, ℕ, Bool, true, false, ◌&&◌, refl, ne_eqb}
use Rattle.pool.specs.Nodes.{decode}
use Rattle.pool.specs.declared.node.Node.TheVariants.{Empty}

pub no_kind :
    (k w : ℕ) → (k ≡ 1 → ⊥) → (k ≡ 2 → ⊥) → (k ≡ 3 → ⊥) → (k ≡ 4 → ⊥) → (k ≡ 5 → ⊥) → (k ≡ 6 → ⊥) → (k ≡ 7 → ⊥) → (k ≡ 8 → ⊥) → (k ≡ 9 → ⊥) → Empty ≡ decode k w
unfolding decode
no_kind k w n1 n2 n3 n4 n5 n6 n7 n8 n9 =
    simp (ne_eqb k 1 n1, ne_eqb k 2 n2, ne_eqb k 3 n3, ne_eqb k 4 n4, ne_eqb k 5 n5, ne_eqb k 6 n6, ne_eqb k 7 n7, ne_eqb k 8 n8, ne_eqb k 9 n9)

pub and_true : (t : Bool) → t ≡ (t && true)
and_true true = refl
and_true false = refl
