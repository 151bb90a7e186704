-- What each code stands for: how many bytes follow it, and the key that it is with their number.
-- Assumes nothing.
use mathlib.Core.Path.{◌≡◌, refl}
use mathlib.Core.Bool.{Bool, true, false, cond}
use Prim.Native.Nat.{ℕ, ◌≤◌, ◌<◌}
use native.Mathlib.Omega.{arith}
use lib.Dec.{eqb}
use borrow.Author.Tests.{eqb-true, eqb-false, ne_eqb, le-leb, lt-leb}
use Rattle.literal.specs.Literal.{is_literal, signed}
use Rattle.pool.specs.Nodes.{decode, is_node, pair, low_of, high_of, greatest_variable, least_exponent}
use Rattle.pool.specs.declared.node.Node.TheVariants.{Empty, Variable, Lit, Pow}
use Rattle.key_strip.specs.Machine.{following, key_of, taken}

pub no_code : (code x : ℕ) → (code ≡ 1 → ⊥) → (code ≡ 2 → ⊥) → (code ≡ 8 → ⊥) → (code ≡ 3 → ⊥) → (code ≡ 4 → ⊥) → (code ≡ 5 → ⊥) → (code ≡ 9 → ⊥) → Empty ≡ key_of code x
unfolding key_of
no_code code x a b c d e f g = simp (ne_eqb code 1 a, ne_eqb code 2 b, ne_eqb code 8 c, ne_eqb code 3 d, ne_eqb code 4 e, ne_eqb code 5 f, ne_eqb code 9 g)

pub no_width : (code : ℕ) → (code ≡ 1 → ⊥) → (code ≡ 2 → ⊥) → (code ≡ 8 → ⊥) → 0 ≡ following code
unfolding following
no_width code a b c = simp (ne_eqb code 1 a, ne_eqb code 2 b, ne_eqb code 8 c)

-- at most eight bytes follow
pub few_follow : (code : ℕ) → following code ≤ 8
unfolding following
few_follow code = go (eqb code 1) (eqb code 2) (eqb code 8)
  where
    go : (a b c : Bool) → cond a 2 (cond b 8 (cond c 4 0)) ≤ 8
    go true b c = omega arith
    go false true c = omega arith
    go false false true = omega arith
    go false false false = omega arith

-- the keys that are leaves, and the one that raises
pub variable_key : (x : ℕ) → x ≤ greatest_variable → key_of 1 x ≡ Variable x
unfolding key_of decode
variable_key x l = rw (le-leb x greatest_variable l)

pub literal_key : (x : ℕ) → is_literal (signed x) ≡ true → key_of 2 x ≡ Lit (signed x)
unfolding key_of decode
literal_key x e = rw e

pub no_literal_key : (x : ℕ) → is_literal (signed x) ≡ false → key_of 2 x ≡ Empty
unfolding key_of decode
no_literal_key x e = rw e

high_half : (x : ℕ) → high_of (pair 0 x) ≡ x
high_half x = omega arith

low_half : (x : ℕ) → low_of (pair 0 x) ≡ 0
low_half x = omega arith

pub power_key : (x : ℕ) → least_exponent ≤ x → key_of 8 x ≡ Pow 0 x
unfolding key_of decode
power_key x l = rw (high_half x, low_half x, le-leb least_exponent x l)

pub no_power_key : (x : ℕ) → x < least_exponent → key_of 8 x ≡ Empty
unfolding key_of decode
no_power_key x l = rw (high_half x, lt-leb least_exponent x l)

-- the first three codes that combine stand side by side
pub combining_codes : (c : ℕ) → 3 ≤ c → c < 6 → (following c ≡ 0) × ((is_node (key_of c 0) ≡ true) × (taken (key_of c 0) ≡ 2))
unfolding following key_of decode
combining_codes c l h = go (eqb c 3) (eqb c 4) refl refl
  where
    go : (a b : Bool) → eqb c 3 ≡ a → eqb c 4 ≡ b → (following c ≡ 0) × ((is_node (key_of c 0) ≡ true) × (taken (key_of c 0) ≡ 2))
    go true b e f = rw (eqb-true c 3 e) (refl, (refl, refl))
    go false true e f = rw (eqb-true c 4 f) (refl, (refl, refl))
    go false false e f =
        let no_three = eqb-false c 3 e in
        let no_four = eqb-false c 4 f in
        let five : c ≡ 5 = omega arith in
        rw five (refl, (refl, refl))
