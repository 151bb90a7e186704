-- Pieces of work and the numbers by which they refuse: appending by 18, folding by 12, `exp` and `log` of a literal by 11, and one piece after another by those of both.
-- Assumes nothing.
use Rattle.std.specs.Prelude.{Ok, Err}
use mathlib.Core.Path.{◌≡◌}
use mathlib.Core.Bool.{Bool, true, false, cond}
use mathlib.Core.List.{List}
use Prim.Native.Nat.{ℕ}
use lib.IntN.{ℤ}
use Rattle.refusals.specs.Refusals.{no_exp_or_log, out_of_range, exponent_too_large, pool_full}
use Rattle.literal.specs.Literal.{is_literal, is_zero, is_one, folded, exp_of, log_of}
use Rattle.pool.specs.declared.node.Node.{Node}
use Rattle.pool.specs.declared.node.Node.TheVariants as node
use Rattle.pool.specs.Pool.{Pool, Out, done, refused, Run, bind, yield, refuse, append}
use Rattle.constructors.specs.Build.{literal, if_exponent_fits}
use Rattle.constructor_laws.proofs.Growth.{append_comes_to}
use Rattle.situations.specs.Refusal.{OneOf, Among, of_out}

-- work that refuses by these numbers only, on any pool
pub record Refusing (ks : List ℕ) (run : Run) : Type 0 where
  pub refuses : (P : Pool) → Among ks (of_out (run P))

module _ {ks : List ℕ} where
  bind_refuses : (o : Out) {next : ℕ → Run} → Among ks (of_out o) → ((i : ℕ) → Refusing ks (next i)) → Among ks (of_out (bind o next))
  bind_refuses (done i P) g h = (h i).refuses P
  bind_refuses (refused k) g h = g

  -- one piece of work after the other, so that a proof is the same `do` block as the work
  infixl 1 ◌>>=◌
  pub ◌>>=◌ : {run : Run} {next : ℕ → Run} → Refusing ks run → ((i : ℕ) → Refusing ks (next i)) → Refusing ks (λ P. bind (run P) next)
  ◌>>=◌ {run} g h = record { refuses = λ P. bind_refuses (run P) (g.refuses P) h }

  pub yield_refuses : (i : ℕ) → Refusing ks (yield i)
  yield_refuses i = record { refuses = λ P. tt }

  pub refuse_refuses : (k : ℕ) → OneOf ks k → Refusing ks (refuse k)
  refuse_refuses k h = record { refuses = λ P. h }

  -- 13. an exponent that is too large is refused before it is used
  pub exponent_refuses : OneOf ks exponent_too_large → (fits : Bool) {run : Run} → Refusing ks run → Refusing ks (if_exponent_fits fits run)
  exponent_refuses large true g = g
  exponent_refuses large false g = refuse_refuses exponent_too_large large

  module _ (full : OneOf ks pool_full) where
    pub append_refuses : (n : Node) → Refusing ks (append n)
    append_refuses n = record { refuses = λ P. append_comes_to (λ o. Among ks (of_out o)) n P (λ room below. tt) full }

    -- a literal that is folded, or taken from the table of `exp` or `log`
    picked : (k : ℕ) → OneOf ks k → (t : Bool) (z : ℤ) → Refusing ks (literal (cond t (Ok z) (Err k)))
    picked k h true z = append_refuses (node.Lit z)
    picked k h false z = refuse_refuses k h

    pub folded_refuses : OneOf ks out_of_range → (z : ℤ) → Refusing ks (literal (folded z))
    unfolding folded
    folded_refuses range z = picked out_of_range range (is_literal z) z

    pub exp_of_refuses : OneOf ks no_exp_or_log → (z : ℤ) → Refusing ks (literal (exp_of z))
    unfolding exp_of
    exp_of_refuses none z = picked no_exp_or_log none (is_zero z) _

    pub log_of_refuses : OneOf ks no_exp_or_log → (z : ℤ) → Refusing ks (literal (log_of z))
    unfolding log_of
    log_of_refuses none z = picked no_exp_or_log none (is_one z) _

    -- a literal in the range is only appended
    pub literal_refuses : (z : ℤ) → is_literal z ≡ true → Refusing ks (literal (folded z))
    unfolding folded
    literal_refuses z h = rw h (append_refuses (node.Lit z))
