-- The operators on coefficients give the values of their operations.
-- Assumes nothing.
use Prim.Native.Nat.{ℕ}
use lib.IntN.{negsuc}
use Rattle.pool.specs.Pool.{Pool}
use Rattle.constructors.specs.Build.{depth}
use Rattle.constructor_laws.specs.Keeps.{Keeps}
use Rattle.taylor.specs.Work.{add, mul, div, neg, sub, exp, log, max}
use Rattle.constructor_laws.proofs.Giving.{Gives, gives_next}
use Rattle.meaning.specs.Model.{Algebra, Model}
use Rattle.meaning.specs.Value.{Values}
use Rattle.meaning.proofs.Running.{Has, has_later, Is, calls_mean}
use Rattle.taylor_meaning.specs.Series.{minus}

module _ {A : Algebra} (M : Model A) (env : Values A) {P : Pool} (k : Keeps P) where
  open A use {carrier, int, plus as ◌⊕◌, times as ◌⊗◌, over as ◌⊘◌}

  infixl 20 ◌⊕◌
  infixl 30 ◌⊗◌ ◌⊘◌
  module _ {a b : ℕ} {x y : carrier} (ha : Has A env P a x) (hb : Has A env P b y) where
    pub add_gives : Gives P (Is A env (x ⊕ y)) (add a b P)
    add_gives = (calls_mean M env depth).add_at P k a b x y ha hb

    pub mul_gives : Gives P (Is A env (x ⊗ y)) (mul a b P)
    mul_gives = (calls_mean M env depth).mul_at P k a b x y ha hb

    pub div_gives : Gives P (Is A env (x ⊘ y)) (div a b P)
    div_gives = (calls_mean M env depth).div_at P k a b x y ha hb

    pub max_gives : Gives P (Is A env (A.max x y)) (max a b P)
    max_gives = (calls_mean M env depth).max_at P k a b x y ha hb

  module _ {a : ℕ} {x : carrier} (ha : Has A env P a x) where
    pub neg_gives : Gives P (Is A env (int (negsuc 0) ⊗ x)) (neg a P)
    neg_gives = (calls_mean M env depth).neg_at P k a x ha

    pub exp_gives : Gives P (Is A env (A.exp x)) (exp a P)
    exp_gives = (calls_mean M env depth).exp_at P k a x ha

    pub log_gives : Gives P (Is A env (A.log x)) (log a P)
    log_gives = (calls_mean M env depth).log_at P k a x ha

-- self + (-rhs)
pub sub_gives : {A : Algebra} (M : Model A) (env : Values A) {P : Pool} {a b : ℕ} {x y : A.carrier} → Keeps P → Has A env P a x → Has A env P b y → Gives P (Is A env (minus A x y)) (sub a b P)
sub_gives M env k ha hb = gives_next (neg_gives M env k hb) (λ n Q k_q g hn. add_gives M env k_q (has_later k g ha) hn)
