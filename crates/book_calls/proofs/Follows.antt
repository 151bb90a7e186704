-- Whatever an accepted product, quotient, exponential or logarithm of expansions that may be given is worked on, constants or lists, its answer follows the book.
-- Assumes nothing.
use mathlib.Core.Path.{◌≡◌, subst}
use Prim.Native.Nat.{ℕ}
use native.Mathlib.Omega.{arith}
use Rattle.pool.specs.Pool.{Pool, done, refused}
use Rattle.constructor_laws.specs.Keeps.{Keeps}
use Rattle.taylor.specs.Work.{Result, bind, yield, mul, div, exp, log}
use Rattle.taylor.specs.Expansion.{Expansion, times, quotient, exponential, logarithm}
use Rattle.taylor.specs.declared.expansion.Expansion.TheVariants.{Constant, Polynomial}
use Rattle.taylor_rules.specs.Kept.{Fits, Kept, KeptBy}
use Rattle.taylor_rules.proofs.Theorems.{times_kept, quotient_kept, exponential_kept, logarithm_kept}
use Rattle.book.specs.Formula.{work}
use Rattle.book.proofs.Theorems.{product_follows_the_book, constant_product_follows_the_book, product_with_constant_follows_the_book, quotient_follows_the_book, constant_quotient_follows_the_book, quotient_by_constant_follows_the_book, exponential_follows_the_book, logarithm_follows_the_book}
use Rattle.book_calls.specs.Follows.{ProductFollows, QuotientFollows, ExpFollows, LogFollows}
use Rattle.book_calls.specs.Follows as follows

-- what is kept by accepted work
pub kept_then : {P Q : Pool} {Order : ℕ → Type 0} {x : Result Expansion} {e : Expansion} → KeptBy P Order x → x ≡ done e Q → Kept P Order e Q
kept_then {P} {Order = Order} h e = subst (KeptBy P Order) e h

-- a constant that work gave
constant_given : (x : Result ℕ) {c : ℕ} {Q : Pool} → bind x (λ c. yield (Constant c)) ≡ done (Constant c) Q → x ≡ done c Q
constant_given (done a R) e = cc
constant_given (refused k) e = cc

-- the order says that an answer of lists is a list, and one of constants a constant
module _ {P Q : Pool} (keeps : Keeps P) where
  pub product_follows : (s t e : Expansion) → Fits P.count s → Fits P.count t → times s t P ≡ done e Q → ProductFollows P Q s t e
  unfolding times work
  product_follows (Constant b) (Constant c) (Constant v) hs ht eq = follows.constants (constant_given (mul b c P) eq)
  product_follows (Constant c) (Polynomial ws) (Polynomial vs) hs ht eq = follows.constant_left (constant_product_follows_the_book P c ws eq)
  product_follows (Polynomial us) (Constant c) (Polynomial vs) hs ht eq = follows.constant_right (product_with_constant_follows_the_book P us c eq)
  product_follows (Polynomial us) (Polynomial ws) (Polynomial vs) hs ht eq = follows.lists (product_follows_the_book P us ws eq)
  product_follows (Constant b) (Constant c) (Polynomial vs) hs ht eq = let k = kept_then (times_kept keeps (Constant b) (Constant c) hs ht) eq in absurd (omega (arith, k.order, k.fits.most))
  product_follows (Constant c) (Polynomial ws) (Constant v) hs ht eq = let k = kept_then (times_kept keeps (Constant c) (Polynomial ws) hs ht) eq in absurd (omega (arith, k.order, ht.most))
  product_follows (Polynomial us) (Constant c) (Constant v) hs ht eq = let k = kept_then (times_kept keeps (Polynomial us) (Constant c) hs ht) eq in absurd (omega (arith, k.order, hs.most))
  product_follows (Polynomial us) (Polynomial ws) (Constant v) hs ht eq = let k = kept_then (times_kept keeps (Polynomial us) (Polynomial ws) hs ht) eq in absurd (omega (arith, k.order, hs.most))

  pub quotient_follows : (s t e : Expansion) → Fits P.count s → Fits P.count t → quotient s t P ≡ done e Q → QuotientFollows P Q s t e
  unfolding work
  quotient_follows (Constant b) (Constant c) (Constant v) hs ht eq = follows.constants (constant_given (div b c P) eq)
  quotient_follows (Constant c) (Polynomial ws) (Polynomial vs) hs ht eq = follows.constant_left (constant_quotient_follows_the_book P c ws ht.least eq)
  quotient_follows (Polynomial us) (Constant c) (Polynomial vs) hs ht eq = follows.constant_right (quotient_by_constant_follows_the_book P us c eq)
  quotient_follows (Polynomial us) (Polynomial ws) (Polynomial vs) hs ht eq = follows.lists (quotient_follows_the_book P us ws hs.least ht.least eq)
  quotient_follows (Constant b) (Constant c) (Polynomial vs) hs ht eq = let k = kept_then (quotient_kept keeps (Constant b) (Constant c) hs ht) eq in absurd (omega (arith, k.order, k.fits.most))
  quotient_follows (Constant c) (Polynomial ws) (Constant v) hs ht eq = let k = kept_then (quotient_kept keeps (Constant c) (Polynomial ws) hs ht) eq in absurd (omega (arith, k.order, ht.most))
  quotient_follows (Polynomial us) (Constant c) (Constant v) hs ht eq = let k = kept_then (quotient_kept keeps (Polynomial us) (Constant c) hs ht) eq in absurd (omega (arith, k.order, hs.most))
  quotient_follows (Polynomial us) (Polynomial ws) (Constant v) hs ht eq = let k = kept_then (quotient_kept keeps (Polynomial us) (Polynomial ws) hs ht) eq in absurd (omega (arith, k.order, hs.most))

  pub exponential_follows : (s e : Expansion) → Fits P.count s → exponential s P ≡ done e Q → ExpFollows P Q s e
  unfolding work
  exponential_follows (Constant c) (Constant v) hs eq = follows.of_constant (constant_given (exp c P) eq)
  exponential_follows (Polynomial us) (Polynomial vs) hs eq = follows.of_list (exponential_follows_the_book P us hs.least eq)
  exponential_follows (Constant c) (Polynomial vs) hs eq = let k = kept_then (exponential_kept keeps (Constant c) hs) eq in absurd (omega (arith, k.order, k.fits.most))
  exponential_follows (Polynomial us) (Constant v) hs eq = let k = kept_then (exponential_kept keeps (Polynomial us) hs) eq in absurd (omega (arith, k.order, hs.most))

  pub logarithm_follows : (s e : Expansion) → Fits P.count s → logarithm s P ≡ done e Q → LogFollows P Q s e
  unfolding work
  logarithm_follows (Constant c) (Constant v) hs eq = follows.of_constant (constant_given (log c P) eq)
  logarithm_follows (Polynomial us) (Polynomial vs) hs eq = follows.of_list (logarithm_follows_the_book P us hs.least eq)
  logarithm_follows (Constant c) (Polynomial vs) hs eq = let k = kept_then (logarithm_kept keeps (Constant c) hs) eq in absurd (omega (arith, k.order, k.fits.most))
  logarithm_follows (Polynomial us) (Constant v) hs eq = let k = kept_then (logarithm_kept keeps (Polynomial us) hs) eq in absurd (omega (arith, k.order, hs.most))
