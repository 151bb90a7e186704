-- The residues of a modulus as an algebra, with document 01's sums, products and quotients. Where there is no quotient it is 0; every exponential is 1, every logarithm 0 and every maximum the first argument: evaluation by residues refuses all of these.
-- Assumes nothing.
use Rattle.std.specs.Prelude.{◌≡◌, true, List, ℕ, ◌+◌, ◌*◌, ◌%◌, ◌≤◌, ltb, get_or, Ok, Err}
use Rattle.std.proofs.Common.{mod-lt, lt_of_lt_of_le, zero-lt-suc, lt-ltb}
use Rattle.residue.specs.Residue.{residue, quotient_of}
use Rattle.residue.specs.Residue.{Divided}
use Rattle.meaning.specs.Model.{Algebra}
use Rattle.meaning.specs.Value.{Values}

-- a number below the modulus
abbrev pub Residues : ℕ → Type 0
Residues m = (a : ℕ) × (ltb a m ≡ true)

module _ (m : ℕ) (some : 2 ≤ m) where
  unfoldable pub reduced : ℕ → Residues m
  reduced a = (a % m, lt-ltb (a % m) m (mod-lt a (lt_of_lt_of_le (zero-lt-suc 1) some)))

  -- a quotient, or 0 where there is none
  abbrev pub or_zero : Divided → ℕ
  or_zero (Ok q) = q
  or_zero (Err k) = 0

  abbrev pub residues : Algebra
  residues =
      record {
        carrier = Residues m;
        int = λ z. reduced (residue m z);
        plus = λ a b. reduced (a.0 + b.0);
        times = λ a b. reduced (a.0 * b.0);
        over = λ a b. reduced (or_zero (quotient_of m a.0 b.0));
        max = λ a b. a;
        exp = λ a. reduced 1;
        log = λ a. reduced 0;
      }

  -- a table of values: a variable past its end counts as 0
  abbrev pub from_table : List ℕ → Values residues
  from_table values v = reduced (get_or values v 0)
