-- Residues of sums and products of whole numbers: -1 is the modulus less one, so every whole number has a natural number of the same residue, and sums and products of these go by the laws of remainders.
-- Assumes nothing.
use mathlib.Core.Path.{◌≡◌, refl, sym, ap, ◌∙◌, subst}
use mathlib.Core.Bool.{Bool, true, false, cond}
use Prim.Native.Nat.{ℕ, zero, suc, ◌+◌, ◌-◌, ◌*◌, ◌/◌, ◌%◌, ◌≤◌, ◌<◌}
use native.Mathlib.Nat.{add-mod, mod-eq_of_lt, mod-lt, add-mul-mod_self_left, add_comm, mod-add-div'}
use native.Mathlib.Omega.{arith}
use lib.Dec.{ltb}
use lib.IntN.{ℤ, pos, negsuc, neg_ℤ, ◌+ℤ◌, ◌*ℤ◌}
use borrow.Author.Tests.{ltb-true, ltb-false}
use Rattle.residue.specs.Residue.{residue}
use Rattle.residue.proofs.Congruence.{factor_first, factor_second}

-- a natural number of the same residue, modulo n + 1
abbrev natural : ℕ → ℤ → ℕ
natural n (pos a) = a
natural n (negsuc a) = n * suc a

-- the residue of -(a + 1)
negative_residue : (d r q : ℕ) → (d + r) * suc (r + q * suc (d + r)) % suc (d + r) ≡ d
negative_residue d r q =
    ap (λ x. x % suc (d + r)) (spread d r q) ∙ add-mul-mod_self_left d (suc (d + r)) (r + q * (d + r)) ∙ mod-eq_of_lt (omega arith)
  where
    spread : (d r q : ℕ) → (d + r) * suc (r + q * suc (d + r)) ≡ d + suc (d + r) * (r + q * (d + r))
    spread d r q = omega arith

residue_natural : (n : ℕ) (z : ℤ) → residue (suc n) z ≡ natural n z % suc n
unfolding residue
residue_natural n (pos a) = refl
residue_natural n (negsuc a) =
    less n (a % suc n)
    ∙ sym (go (n - a % suc n) (a % suc n) (a / suc n) (split n (a % suc n) (mod-lt a (omega arith))) (sym (mod-add-div' a (suc n))))
  where
    less : (n r : ℕ) → suc n - 1 - r ≡ n - r
    less n r = omega arith

    split : (n r : ℕ) → r < suc n → n ≡ n - r + r
    split n r h = omega arith

    go : (d r q : ℕ) → n ≡ d + r → a ≡ r + q * suc n → n * suc a % suc n ≡ d
    go d r q en ea =
        ap (λ k. k * suc a % suc k) en ∙ ap (λ b. (d + r) * suc b % suc (d + r)) (ea ∙ ap (λ k. r + q * suc k) en) ∙ negative_residue d r q

-- ---- sums

-- a - (b + 1)
difference : (n a b : ℕ) (t : Bool) → ltb a (suc b) ≡ t → natural n (cond t (negsuc (suc b - suc a)) (pos (a - suc b))) % suc n ≡ (a + n * suc b) % suc n
difference n a b true t =
    sym (ap (λ x. x % suc n) (spread n a b (ltb-true a (suc b) t)) ∙ add-mul-mod_self_left (n * suc (suc b - suc a)) (suc n) a)
  where
    open_out : (n a c : ℕ) → a + n * suc (a + c) ≡ n * suc c + suc n * a
    open_out n a c = omega arith

    rest : (a b : ℕ) → a < suc b → b ≡ a + (suc b - suc a)
    rest a b h = omega arith

    spread : (n a b : ℕ) → a < suc b → a + n * suc b ≡ n * suc (suc b - suc a) + suc n * a
    spread n a b h = ap (λ x. a + n * suc x) (rest a b h) ∙ open_out n a (suc b - suc a)
difference n a b false t =
    sym (ap (λ x. x % suc n) (spread n a b (ltb-false a (suc b) t)) ∙ add-mul-mod_self_left (a - suc b) (suc n) (suc b))
  where
    open_out : (n b c : ℕ) → suc b + c + n * suc b ≡ c + suc n * suc b
    open_out n b c = omega arith

    rest : (a b : ℕ) → suc b ≤ a → a ≡ suc b + (a - suc b)
    rest a b h = omega arith

    spread : (n a b : ℕ) → suc b ≤ a → a + n * suc b ≡ a - suc b + suc n * suc b
    spread n a b h = ap (λ x. x + n * suc b) (rest a b h) ∙ open_out n b (a - suc b)

natural_sum : (n : ℕ) (x y : ℤ) → natural n (x +ℤ y) % suc n ≡ (natural n x + natural n y) % suc n
natural_sum n (pos a) (pos b) = refl
natural_sum n (pos a) (negsuc b) = difference n a b (ltb a (suc b)) refl
natural_sum n (negsuc a) (pos b) = difference n b a (ltb b (suc a)) refl ∙ ap (λ x. x % suc n) (add_comm b (n * suc a))
natural_sum n (negsuc a) (negsuc b) = ap (λ x. x % suc n) (both n a b)
  where
    both : (n a b : ℕ) → n * suc (suc (a + b)) ≡ n * suc a + n * suc b
    both n a b = omega arith

residue_sum' : (n : ℕ) (x y : ℤ) → residue (suc n) (x +ℤ y) ≡ (residue (suc n) x + residue (suc n) y) % suc n
residue_sum' n x y =
    residue_natural n (x +ℤ y)
    ∙ natural_sum n x y
    ∙ add-mod (natural n x) (natural n y) (suc n)
    ∙ sym (ap (λ k. (k + residue (suc n) y) % suc n) (residue_natural n x) ∙ ap (λ k. (natural n x % suc n + k) % suc n) (residue_natural n y))

-- ---- products

negated : (n k : ℕ) → natural n (neg_ℤ (pos k)) ≡ n * k
negated n zero = omega arith
negated n (suc k) = refl

-- (-1) × (-1) = 1, so two minus signs cancel
natural_product : (k : ℕ) (x y : ℤ) → natural (suc k) (x *ℤ y) % suc (suc k) ≡ natural (suc k) x * natural (suc k) y % suc (suc k)
natural_product k (pos a) (pos b) = refl
natural_product k (pos a) (negsuc b) = ap (λ x. x % suc (suc k)) (negated (suc k) (a * suc b) ∙ order (suc k) a (suc b))
  where
    order : (n a b : ℕ) → n * (a * b) ≡ a * (n * b)
    order n a b = omega arith
natural_product k (negsuc a) (pos b) = ap (λ x. x % suc (suc k)) (negated (suc k) (suc a * b) ∙ order (suc k) (suc a) b)
  where
    order : (n a b : ℕ) → n * (a * b) ≡ n * a * b
    order n a b = omega arith
natural_product k (negsuc a) (negsuc b) =
    sym (ap (λ x. x % suc (suc k)) (open_out k (suc a) (suc b)) ∙ add-mul-mod_self_left (suc a * suc b) (suc (suc k)) (k * (suc a * suc b)))
  where
    open_out : (k a b : ℕ) → suc k * a * (suc k * b) ≡ a * b + suc (suc k) * (k * (a * b))
    open_out k a b = omega arith

residue_product' : (k : ℕ) (x y : ℤ) → residue (suc (suc k)) (x *ℤ y) ≡ residue (suc (suc k)) x * residue (suc (suc k)) y % suc (suc k)
residue_product' k x y =
    residue_natural (suc k) (x *ℤ y)
    ∙ natural_product k x y
    ∙ sym (factor_first (suc (suc k)) (natural (suc k) x) (natural (suc k) y))
    ∙ sym (factor_second (suc (suc k)) (natural (suc k) x % suc (suc k)) (natural (suc k) y))
    ∙ sym (ap (λ j. j * residue (suc (suc k)) y % suc (suc k)) (residue_natural (suc k) x) ∙ ap (λ j. natural (suc k) x % suc (suc k) * j % suc (suc k)) (residue_natural (suc k) y))

-- ---- for every modulus

module _ (m : ℕ) (some : 2 ≤ m) where
  two_more : suc (suc (m - 2)) ≡ m
  two_more = omega arith

  pub residue_sum : (x y : ℤ) → residue m (x +ℤ y) ≡ (residue m x + residue m y) % m
  residue_sum x y = subst (λ m. residue m (x +ℤ y) ≡ (residue m x + residue m y) % m) two_more (residue_sum' (suc (m - 2)) x y)

  pub residue_product : (x y : ℤ) → residue m (x *ℤ y) ≡ residue m x * residue m y % m
  residue_product x y = subst (λ m. residue m (x *ℤ y) ≡ residue m x * residue m y % m) two_more (residue_product' (m - 2) x y)
