-- How the rules of the constructors are written: a rule's right side is a term of constructor calls, and an arm of the Rust's `match` is skipped, entered and left, or returns.
-- Assumes nothing.
use Rattle.std.specs.Prelude.{Bool, true, false, ℕ, ℤ}

-- What a rule builds. Lower case is the Rust's call, as `Self::mul(..)`; upper case is the plain node, as `Rc::new(Mul(..))`.
pub data Term : Type 0 where
  -- a node that is there already: `a.clone()`
  # : ℕ → Term
  -- `Self::lit(x)`, `Self::lit(a.exp())`, `Self::lit(a.log())`
  lit lit_exp lit_log : ℤ → Term
  add mul : Term → Term → Term
  exp log : Term → Term
  pow : Term → ℕ → Term
  Add Mul Div Max : Term → Term → Term
  Exp Log : Term → Term
  Pow : Term → ℕ → Term

-- An arm of a `match`: its pattern or guard fails; it was entered and returned nothing; it returns.
pub data Arm (A : Type 0) : Type 0 where
  skip leave : Arm A
  return : A → Arm A

infixl 1 ◌>>=◌ ◌>>◌
abbrev pub ◌>>=◌ : {A B : Type 0} → Arm A → (A → Arm B) → Arm B
skip >>= f = skip
leave >>= f = leave
return x >>= f = f x

-- a guard: `if ..` behind a pattern
abbrev pub ◌>>◌ : {A : Type 0} → Bool → Arm A → Arm A
true >> m = m
false >> m = skip

infixr 15 ◌&◌
-- a pattern of two: `(P, Q)`
abbrev pub ◌&◌ : {A B : Type 0} → Arm A → Arm B → Arm (A × B)
m & k = m >>= (λ x. k >>= (λ y. return (x, y)))

-- what the second of two patterns has, first: for `(P, Q) | (Q, P)`
abbrev pub swap : {A B : Type 0} → Arm (A × B) → Arm (B × A)
swap m = m >>= (λ p. return (p.1, p.0))

infixr 10 ◌or◌
-- the next arm, or the next `if let` in an arm
abbrev pub ◌or◌ : {A : Type 0} → Arm A → Arm A → Arm A
skip or next = next
leave or next = leave
return x or next = return x

-- an arm's braces: once inside, the later arms of that `match` are not tried
abbrev pub inside : {A : Type 0} → Arm A → Arm A
inside skip = leave
inside leave = leave
inside (return x) = return x

infixr 5 ◌then◌
-- the next statement after a `match`
abbrev pub ◌then◌ : {A : Type 0} → Arm A → A → A
skip then next = next
leave then next = next
return x then next = x
