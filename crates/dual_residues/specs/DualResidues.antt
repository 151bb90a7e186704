-- The dual numbers a + b ε, ε × ε = 0, over the residues of a modulus, and what makes a model that is not trivial.
-- Assumes nothing.
use Rattle.std.specs.Prelude.{◌≡◌, ℕ, suc, ◌*◌, ◌%◌, ◌≤◌, ◌<◌, pos}
use Rattle.meaning.specs.Model.{Algebra, Model, Distributive}
use Rattle.meaning.specs.Duals.{duals}
use Rattle.taylor_meaning.specs.Series.{Fractions}
use Rattle.taylor_meaning.specs.Book.{Divides}
use Rattle.residue_meaning.specs.Residues.{residues}

-- exp (a + b ε) = 1 + b ε and log (a + b ε) = (b / a) ε
abbrev pub dual_residues : (m : ℕ) → 2 ≤ m → Algebra
dual_residues m some = duals (residues m some)

-- some residue's product with d is 1
abbrev pub HasInverse : ℕ → ℕ → Type 0
HasInverse m d = (x : ℕ) × (x * d % m ≡ 1)

-- a ring with fractions, where division by each k from 1 to 24 is exact (an expansion has at most 25 coefficients) and exp is not constant
pub record NotTrivial (A : Algebra) : Type 0 where
  pub laws : Model A
  pub ring : Distributive A
  pub fractions : Fractions A
  pub divides : (k : ℕ) → k < 24 → Divides A (A.int (pos (suc k)))
  pub some_value : A.carrier
  pub other_value : A.carrier
  pub exp_differs : A.exp some_value ≡ A.exp other_value → ⊥
