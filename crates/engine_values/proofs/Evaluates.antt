-- The table of residues that a call is given.
-- Assumes nothing.
use mathlib.Core.Path.{◌≡◌, refl, sym}
use mathlib.Core.Logic.{◌↔◌}
use mathlib.Core.Bool.{Bool, true, false}
use mathlib.Core.List.{List}
use Prim.Native.Nat.{ℕ, ◌<◌}
use lib.Dec.{leb, ltb}
use lib.ListN.{length, get_or}
use borrow.Author.Tests.{lt-ltb, ltb-true}
use Rattle.std.specs.Prelude.{All}
use Rattle.std.proofs.lemmas.List.Elements.{All-from_get_or}
use Rattle.residue.specs.Residue.{fixed_modulus}
use Rattle.pool.specs.Pool.{each}
use Rattle.constructor_laws.proofs.Rules.{each_at, each_of}
use Rattle.lent.proofs.Finishing.{and_right}
use Rattle.evaluate_residue.specs.Residues.{AreResidues}
use Rattle.engine_values.specs.Values.{most_values, are_residues}

-- the test of all values is the definition's
pub all_told : (values : List ℕ) (r : Bool) → ((r ≡ true) ↔ All (λ x. x < fixed_modulus) values) → r ≡ each (length values) (λ i. ltb (get_or values i 0) fixed_modulus)
all_told values true h =
    sym (each_of (length values) (λ i. ltb (get_or values i 0) fixed_modulus) (λ i l. lt-ltb (get_or values i 0) fixed_modulus (h.0 refl i 0 l)))
all_told values false h = go (each (length values) (λ i. ltb (get_or values i 0) fixed_modulus)) refl
  where
    go : (t : Bool) → each (length values) (λ i. ltb (get_or values i 0) fixed_modulus) ≡ t → false ≡ t
    go true e =
        h.1
        (All-from_get_or (λ x. x < fixed_modulus) values 0
        (λ i l. ltb-true (get_or values i 0) fixed_modulus (each_at (length values) (λ j. ltb (get_or values j 0) fixed_modulus) i l e)))
    go false e = refl

-- the table of residues
module _ (values : List ℕ) where
  pub residues_below : are_residues values ≡ true → AreResidues fixed_modulus values
  residues_below e =
      record {
        below = λ v h. ltb-true (get_or values v 0) fixed_modulus (each_at (length values) (λ j. ltb (get_or values j 0) fixed_modulus) v h (and_right (leb (length values) most_values) _ e));
      }
