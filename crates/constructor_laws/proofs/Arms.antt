-- What an arm of a rule table gives, if it returns. Each way of writing arms has a law of the same name, so that the proof of a table is written like the table.
-- Assumes nothing.
use mathlib.Core.Bool.{Bool, true, false}
use Rattle.constructors.specs.Terms
use Rattle.constructors.specs.Terms.{Arm, skip, leave}

-- the arm returns nothing but what H holds of
pub data Gives {A : Type 0} (H : A → Type 0) : Arm A → Type 0 where
  skips : Gives H skip
  leaves : Gives H leave
  return : {x : A} → H x → Gives H (Terms.return x)

module _ {A B : Type 0} {H : A → Type 0} {K : B → Type 0} where
  infixl 1 ◌>>=◌
  pub ◌>>=◌ : {m : Arm A} {f : A → Arm B} → Gives H m → ((x : A) → H x → Gives K (f x)) → Gives K (Terms.◌>>=◌ m f)
  skips >>= h = skips
  leaves >>= h = leaves
  (return {x} g) >>= h = h x g

  infixr 15 ◌&◌
  pub ◌&◌ : {m : Arm A} {k : Arm B} → Gives H m → Gives K k → Gives (λ p. H p.0 × K p.1) (Terms.◌&◌ m k)
  skips & k = skips
  leaves & k = leaves
  (return g) & skips = skips
  (return g) & leaves = leaves
  (return g) & (return h) = return (g, h)

pub swap : {A B : Type 0} (H : A → Type 0) (K : B → Type 0) {m : Arm (A × B)} → Gives (λ p. H p.0 × K p.1) m → Gives (λ p. K p.0 × H p.1) (Terms.swap m)
swap H K skips = skips
swap H K leaves = leaves
swap H K (return g) = return (g.1, g.0)

module _ {A : Type 0} {H : A → Type 0} where
  -- a guard
  infixl 1 ◌>>◌
  pub ◌>>◌ : (test : Bool) {m : Arm A} → Gives H m → Gives H (Terms.◌>>◌ test m)
  true >> g = g
  false >> g = skips

  infixr 10 ◌or◌
  pub ◌or◌ : {m next : Arm A} → Gives H m → Gives H next → Gives H (Terms.◌or◌ m next)
  skips or h = h
  leaves or h = leaves
  (return g) or h = return g

  pub inside : {m : Arm A} → Gives H m → Gives H (Terms.inside m)
  inside skips = leaves
  inside leaves = leaves
  inside (return g) = return g

  infixr 5 ◌then◌
  pub ◌then◌ : {m : Arm A} {next : A} → Gives H m → H next → H (Terms.◌then◌ m next)
  skips then h = h
  leaves then h = h
  (return g) then h = g
