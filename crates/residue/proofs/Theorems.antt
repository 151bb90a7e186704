-- What the definitions of residues say, for every modulus: a residue is below the modulus and differs by a multiple of it, and a quotient is the one
-- residue whose product with the divisor is the dividend, and exists exactly if the divisor has an inverse. Assumes nothing.
use Rattle.std.specs.Prelude.{Ok, Err}
use mathlib.Core.Path.{◌≡◌, refl, sym, ap, ◌∙◌}
use mathlib.Core.Logic.{◌↔◌}
use Prim.Native.Nat.{ℕ, suc, ◌-◌, ◌*◌, ◌/◌, ◌%◌, ◌≤◌, ◌<◌}
use native.Mathlib.Nat.{mod-lt, mod-eq_of_lt, mod-add-div', mul_assoc, mul-one}
use native.Mathlib.Omega.{arith}
use lib.Dec.{eqb}
use lib.IntN.{ℤ, pos, negsuc, ◌+ℤ◌, ◌*ℤ◌}
use borrow.Author.Tests.{eqb-true, eqb-false}
use Rattle.refusals.specs.Refusals.{no_inverse}
use Rattle.residue.specs.Residue.{residue, product_of, divides_to, provided, quotient_of}
use Rattle.residue.specs.Residue.{Divided}
use Rattle.residue.proofs.Congruence.{factor_first, factor_second}
use Rattle.residue.proofs.Remainder.{below_zero}
use Rattle.residue.proofs.Search.{Sought, sought}
use Rattle.residue.proofs.Search.Sought.{found, missing}

-- ---- residues of literals

pub residue_below_lem : (m : ℕ) (z : ℤ) → 2 ≤ m → residue m z < m
unfolding residue
residue_below_lem m (pos n) h = mod-lt n (omega arith)
residue_below_lem m (negsuc n) h = omega arith

-- "the residue from 0 up that differs from it by a multiple of the modulus"
pub residue_differs : (m : ℕ) (z : ℤ) → 2 ≤ m → (k : ℤ) × (z ≡ pos (residue m z) +ℤ k *ℤ pos m)
unfolding residue
residue_differs m (pos n) h = (pos (n / m), ap pos (sym (mod-add-div' n m)))
residue_differs m (negsuc n) h =
    let below : n % m < m = mod-lt n (omega arith) in
    (negsuc (n / m), below_zero ((m - 1) - n % m) n (suc (n / m) * m) (omega (arith, mod-add-div' n m)))

-- ---- quotients by a divisor d with the inverse x

module _ (m d x : ℕ) (inverse : x * d % m ≡ 1) where
  inverse_undoes : (a : ℕ) → a < m → a * (x * d) % m ≡ a
  inverse_undoes a h =
      sym (factor_second m a (x * d))
      ∙ ap (λ n. a * n % m) inverse
      ∙ ap (λ n. n % m) (mul-one a)
      ∙ mod-eq_of_lt h

  has_the_product : (a : ℕ) → a < m → a * x % m * d % m ≡ a
  has_the_product a h = factor_first m (a * x) d ∙ ap (λ n. n % m) (mul_assoc a x d) ∙ inverse_undoes a h

  only_one_has_the_product : (a q : ℕ) → q < m → q * d % m ≡ a → q ≡ a * x % m
  only_one_has_the_product a q h e =
      sym (inverse_undoes q h)
      ∙ ap (λ n. n % m) (omega arith)
      ∙ sym (factor_first m (q * d) x)
      ∙ ap (λ n. n * x % m) e

  the_one_is_sought : (a : ℕ) → a < m → {r : Divided} → Sought m (λ q. eqb (product_of m q d) a) r → r ≡ Ok (a * x % m)
  the_one_is_sought a h (found q below e) = ap Ok (only_one_has_the_product a q below (eqb-true _ _ e))
  the_one_is_sought a h (missing f) =
      absurd (eqb-false _ _ (f (a * x % m) (mod-lt (a * x) (omega arith))) (has_the_product a h))

  divides_to_the_one : (a : ℕ) → a < m → divides_to m a d ≡ Ok (a * x % m)
  divides_to_the_one a h = the_one_is_sought a h (sought m (λ q. eqb (product_of m q d) a))

-- the law by which a closed quotient is shown at a large modulus, where no search gets to the end
pub quotient_is : (m a d x : ℕ) → x * d % m ≡ 1 → a < m → quotient_of m a d ≡ Ok (a * x % m)
unfolding quotient_of
quotient_is m a d x inverse h =
    let below : x * d % m < m = mod-lt (x * d) (omega arith) in
    ap (λ r. provided r (divides_to m a d)) (divides_to_the_one m d x inverse 1 (omega arith))
    ∙ divides_to_the_one m d x inverse a h

-- ---- where there is a quotient

refused_is_no_residue : {k q : ℕ} → Err k ≡ Ok q → ⊥
refused_is_no_residue e = let clash : ◌≡◌ {A = ℕ} 0 1 = cc in omega arith

module _ (m d : ℕ) where
  none_sought : ((x : ℕ) → x * d % m ≡ 1 → ⊥) → {r : Divided} → Sought m (λ q. eqb (product_of m q d) 1) r → r ≡ Err no_inverse
  none_sought none (found x h e) = absurd (none x (eqb-true _ _ e))
  none_sought none (missing f) = refl

  inverse_sought : (other : Divided) {q : ℕ} {r : Divided} → Sought m (λ q. eqb (product_of m q d) 1) r → provided r other ≡ Ok q → (x : ℕ) × (x * d % m ≡ 1)
  inverse_sought other (found x h e) given = (x, eqb-true _ _ e)
  inverse_sought other (missing f) given = absurd (refused_is_no_residue given)

-- C-17: else 17
pub quotient_none : (m a d : ℕ) → ((x : ℕ) → x * d % m ≡ 1 → ⊥) → quotient_of m a d ≡ Err no_inverse
unfolding quotient_of
quotient_none m a d none =
    ap (λ r. provided r (divides_to m a d)) (none_sought m d none (sought m (λ q. eqb (product_of m q d) 1)))

pub quotient_inverts : (m a d q : ℕ) → quotient_of m a d ≡ Ok q → (x : ℕ) × (x * d % m ≡ 1)
unfolding quotient_of
quotient_inverts m a d q given = inverse_sought m d (divides_to m a d) (sought m (λ q. eqb (product_of m q d) 1)) given

-- C-17: "a quotient exists exactly if the divisor has an inverse"
pub quotient_exists : (m a d : ℕ) → a < m → ((q : ℕ) × (quotient_of m a d ≡ Ok q)) ↔ ((x : ℕ) × (x * d % m ≡ 1))
quotient_exists m a d h =
    (λ given. quotient_inverts m a d given.0 given.1, λ inverse. (a * inverse.0 % m, quotient_is m a d inverse.0 inverse.1 h))

-- "the one residue whose product with the divisor is the dividend"
pub record TheOne (m a d q : ℕ) : Type 0 where
  pub below : q < m
  pub product : q * d % m ≡ a
  pub only : (p : ℕ) → p < m → p * d % m ≡ a → p ≡ q

the_one : (m a d x q : ℕ) → x * d % m ≡ 1 → a < m → a * x % m ≡ q → TheOne m a d q
the_one m a d x q inverse h e =
    record {
      below = rw (← e) (mod-lt (a * x) (omega arith));
      product = rw (← e) (has_the_product m d x inverse a h);
      only = λ p below product. only_one_has_the_product m d x inverse a p below product ∙ e;
    }

pub quotient_exact : (m a d q : ℕ) → a < m → quotient_of m a d ≡ Ok q → TheOne m a d q
quotient_exact m a d q h given =
    let inverse = quotient_inverts m a d q given in
    let same : Ok (a * inverse.0 % m) ≡ Ok q = sym (quotient_is m a d inverse.0 inverse.1 h) ∙ given in
    the_one m a d inverse.0 q inverse.1 h (cc)

-- ---- a quotient from the inverse, as the code makes it

refused_again : {k : ℕ} (r other : Divided) → provided r r ≡ Err k → provided r other ≡ Err k
refused_again (Ok x) other e = absurd (refused_is_no_residue (sym e))
refused_again (Err j) other e = e

pub no_inverse_no_quotient : (m a d k : ℕ) → quotient_of m 1 d ≡ Err k → quotient_of m a d ≡ Err k
unfolding quotient_of
no_inverse_no_quotient m a d k e = refused_again (divides_to m 1 d) (divides_to m a d) e

pub quotient_by_inverse : (m a d x : ℕ) → 2 ≤ m → a < m → quotient_of m 1 d ≡ Ok x → quotient_of m a d ≡ Ok (a * x % m)
quotient_by_inverse m a d x h below e = quotient_is m a d x (quotient_exact m 1 d x h e).product below

pub inverse_below : (m d x : ℕ) → 2 ≤ m → quotient_of m 1 d ≡ Ok x → x < m
inverse_below m d x h e = (quotient_exact m 1 d x h e).below
