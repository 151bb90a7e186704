-- The rule of each kind, as the definition of derivation has it within its clauses.
-- Assumes nothing.
use Rattle.std.specs.Prelude.{ℕ, ◌-◌, pos}
use Rattle.walks.specs.Walk.{Walk, ◌>>=◌}
use Rattle.walks.specs.Derive.{lit, add, mul, div, pow, quotient_rule}
use Rattle.derive.specs.declared.rules.Two.{Two}
use Rattle.derive.specs.declared.rules.Two.TheVariants as two
use Rattle.derive.specs.declared.rules.One.{One}
use Rattle.derive.specs.declared.rules.One.TheVariants as one

-- the rule of a product: a × db + b × da
abbrev pub product_rule : ℕ → ℕ → ℕ → ℕ → Walk
product_rule a b da db = do
  x ← mul a db
  y ← mul b da
  add x y

-- the rule of a power: exp × da × a^(exp - 1)
abbrev pub power_rule : ℕ → ℕ → ℕ → Walk
power_rule a e da = do
  p ← pow a (e - 1)
  n ← lit (pos e)
  t ← mul n da
  mul t p

-- what is made of two parts and their derivatives
abbrev pub rule_two : Two → ℕ → ℕ → ℕ → ℕ → Walk
rule_two two.Add a b da db = add da db
rule_two two.Mul a b da db = product_rule a b da db
rule_two two.Div a b da db = quotient_rule a b da db

-- what is made of a part and its derivative
abbrev pub rule_one : One → ℕ → ℕ → ℕ → Walk
rule_one one.Exp term a da = mul da term
rule_one one.Log term a da = div da a
rule_one (one.Pow e) term a da = power_rule a e da
