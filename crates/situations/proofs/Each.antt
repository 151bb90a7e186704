-- Each constructor by itself: `add` meets 12, 14 and 18, `exp` and `log` meet 11, 14 and 18, and `neg`, `div`, `max` and `pow` meet 18 alone.
-- Assumes nothing.
use Rattle.std.specs.Prelude.{Ok, Err}
use mathlib.Core.Path.{◌≡◌, refl, ◌∙◌}
use mathlib.Core.Logic.{inl, inr}
use mathlib.Core.Bool.{Bool, true, false, cond}
use mathlib.Core.List.{List}
use Prim.Native.Nat.{ℕ, zero, suc, ◌*◌, ◌<◌, ◌≤◌}
use native.Mathlib.Omega.{arith}
use lib.Dec.{eqb}
use lib.IntN.{ℤ, pos, negsuc, nat_abs, ◌*ℤ◌}
use borrow.Author.Tests.{leb-true, le-leb}
use Rattle.refusals.specs.Refusals.{no_exp_or_log, too_deep, pool_full}
use Rattle.literal.specs.Literal.{greatest, is_literal, is_zero, is_one, folded, exp_of, log_of}
use Rattle.std.proofs.lemmas.Int.{unsigned_abs-mul}
use Rattle.pool.specs.declared.node.Node.{Node}
use Rattle.pool.specs.declared.node.Node.TheVariants as node
use Rattle.pool.specs.Pool.{Pool, Out, done, refused, Run, bind, node_at}
use Rattle.constructors.specs.Terms
use Rattle.constructors.specs.Terms.{Term, #, lit, lit_exp, lit_log, Arm, skip, leave}
use Rattle.constructors.specs.Tables.{lit?, add?, mul?, add_arms, add_table, mul_table, div_table, exp_arms, exp_table, log_arms, log_table, pow_table, max_table}
use Rattle.constructors.specs.Build.{Calls, literal, build, calls}
use Rattle.constructor_laws.specs.Grown.{Grows}
use Rattle.constructor_laws.proofs.Growth.{appended, append_comes_to, appended_grown, earlier_same, calls_grow}
use Rattle.constructor_laws.proofs.Arms.{Gives, skips, leaves, return, ◌>>=◌, ◌&◌, ◌>>◌, ◌or◌, inside, ◌then◌}
use Rattle.situations.specs.Refusal.{OneOf, Among, of_out}
use Rattle.situations.specs.Situations.{of_sums, of_exp_log, of_appending}
use Rattle.situations.proofs.Steps.{Refusing, append_refuses, folded_refuses, exp_of_refuses, log_of_refuses, refuse_refuses, literal_refuses}
use Rattle.situations.proofs.Steps as steps
use Rattle.situations.proofs.Literals.{Long, long_grown, appended_there, literals_in_range, Making, node_made, small_made, add_made, add_zero, times_literal}

-- whatever a pattern finds
found : {A : Type 0} (m : Arm A) → Gives (λ (x : A). Unit {0}) m
found skip = skips
found leave = leaves
found (Terms.return x) = return tt

-- ---- add
sums_full : OneOf of_sums pool_full
sums_full = inr (inr (inl refl))

module _ {c : Calls} (g : (a b : ℕ) → Refusing of_sums (c.add_at a b)) where
  folded_made : (z : ℤ) → Making of_sums c (lit z)
  unfolding build
  folded_made z = record { made = folded_refuses sums_full (inl refl) z }

  sum_made : {s t : Term} → Making of_sums c s → Making of_sums c t → Making of_sums c (Terms.add s t)
  unfolding build
  sum_made x y = record { made = steps.◌>>=◌ x.made (λ a. steps.◌>>=◌ y.made (λ b. g a b)) }

  -- the table's lines: what is returned for a term is what it makes
  module _ (at : ℕ → Node) (lhs rhs : ℕ) where
    add_arms_refuse : Gives (Making of_sums c) (add_arms at lhs rhs)
    unfolding add_arms
    add_arms_refuse =
        (found (lit? at lhs) >>= (λ a _. is_zero a >> return (node_made rhs)))
        or (found (lit? at rhs) >>= (λ b _. is_zero b >> return (node_made lhs)))
        or (found (lit? at lhs) & found (lit? at rhs) >>= (λ (a, b) _. return (folded_made _)))
        or (found (lit? at lhs) & found (add? at rhs) >>= (λ (l, (b, a)) _.
        (found (lit? at a) >>= (λ a _. return (sum_made (node_made b) (folded_made _)))) or return (add_made sums_full (node_made rhs) (node_made lhs))))
        or (found (add? at lhs) & found (lit? at rhs) >>= (λ ((a, b), l) _.
        (found (lit? at a) >>= (λ a _. return (sum_made (node_made b) (folded_made _)))) or return (add_made sums_full (node_made lhs) (node_made rhs))))
        or (found (add? at lhs) & found (add? at rhs) >>= (λ ((a, b), (c, d)) _. do
          inside (
              (found (lit? at b) & found (lit? at d) >>= (λ (x, y) _. return (sum_made (sum_made (node_made a) (node_made c)) (folded_made _))))
              or (found (lit? at b) >>= (λ _ _. return (sum_made (sum_made (node_made a) (node_made rhs)) (node_made b))))
              or (found (lit? at d) >>= (λ _ _. return (sum_made (sum_made (node_made lhs) (node_made c)) (node_made d)))))))

    add_table_refuses : Making of_sums c (add_table at lhs rhs)
    add_table_refuses = add_arms_refuse then add_made sums_full (node_made lhs) (node_made rhs)

pub add_refuses : (left lhs rhs : ℕ) → Refusing of_sums ((calls left).add_at lhs rhs)
unfolding calls
add_refuses zero lhs rhs = refuse_refuses too_deep (inr (inl refl))
add_refuses (suc left) lhs rhs = record { refuses = λ P. (add_table_refuses (add_refuses left) (node_at P) lhs rhs).made.refuses P }

-- ---- div, max, pow: a literal 0 or 1, a node that is there, or one that is appended
appending_full : OneOf of_appending pool_full
appending_full = inl refl

module _ {c : Calls} (at : ℕ → Node) where
  div_table_refuses : (lhs rhs : ℕ) → Making of_appending c (div_table at lhs rhs)
  unfolding div_table build
  div_table_refuses lhs rhs =
      ◌then◌ {H = Making of_appending c}
      ((found (lit? at lhs) >>= (λ a _. is_zero a >> return (small_made appending_full (pos 0) refl)))
      or (found (lit? at rhs) >>= (λ b _. is_one b >> return (node_made lhs))))
      quotient_made
    where
      quotient_made : Making of_appending c (Terms.Div (# lhs) (# rhs))
      quotient_made = record { made = record { refuses = (append_refuses {ks = of_appending} appending_full (node.Div lhs rhs)).refuses } }

  max_table_refuses : (lhs rhs : ℕ) → Making of_appending c (max_table at lhs rhs)
  unfolding build
  max_table_refuses lhs rhs = record { made = record { refuses = (append_refuses {ks = of_appending} appending_full (node.Max lhs rhs)).refuses } }

  pow_table_refuses : (base e : ℕ) → Making of_appending c (pow_table at base e)
  unfolding pow_table build
  pow_table_refuses base e =
      ◌then◌ {H = Making of_appending c}
      ((eqb e 0 >> return (small_made appending_full (pos 1) refl))
      or (eqb e 1 >> return (node_made base))
      or (found (lit? at base) >>= (λ a _. is_zero a >> return (small_made appending_full (pos 0) refl)))
      or (found (lit? at base) >>= (λ a _. is_one a >> return (small_made appending_full (pos 1) refl))))
      power_made
    where
      power_made : Making of_appending c (Terms.Pow (# base) e)
      power_made = record { made = record { refuses = (append_refuses {ks = of_appending} appending_full (node.Pow base e)).refuses } }

module _ (left : ℕ) where
  pub div_refuses : (lhs rhs : ℕ) → Refusing of_appending ((calls (suc left)).div_at lhs rhs)
  unfolding calls
  div_refuses lhs rhs = record { refuses = λ P. (div_table_refuses (node_at P) lhs rhs).made.refuses P }

  pub max_refuses : (lhs rhs : ℕ) → Refusing of_appending ((calls (suc left)).max_at lhs rhs)
  unfolding calls
  max_refuses lhs rhs = record { refuses = λ P. (max_table_refuses (node_at P) lhs rhs).made.refuses P }

  pub pow_refuses : (base e : ℕ) → Refusing of_appending ((calls (suc left)).pow_at base e)
  unfolding calls
  pow_refuses base e = record { refuses = λ P. (pow_table_refuses (node_at P) base e).made.refuses P }

-- ---- neg
-- the product of a literal and 1 or -1 is a literal
same_size : (a b : ℤ) → nat_abs a ≡ 1 → is_literal b ≡ true → is_literal (a *ℤ b) ≡ true
same_size a b e h =
    let small : nat_abs b ≤ greatest = leb-true (nat_abs b) greatest h in
    le-leb (nat_abs (a *ℤ b)) greatest (rw (unsigned_abs-mul a b, e) (omega arith))

-- a product with 1 or -1 on its left
unit_product : {ks : List ℕ} → OneOf ks pool_full → (c : Calls) (R : Pool) (i j : ℕ) (a : ℤ) → nat_abs a ≡ 1 → node_at R i ≡ node.Lit a → Making ks c (mul_table (node_at R) i j)
unit_product f c R i j a e there = times_literal f c (node_at R) i j a (λ b h. small_made f (a *ℤ b) (same_size a b e h)) (literals_in_range R) there

pub neg_refuses : (left arg : ℕ) (P : Pool) → Long P → Among of_appending (of_out ((calls (suc (suc left))).neg_at arg P))
unfolding calls build folded
neg_refuses left arg P l =
    append_comes_to (λ o. Among of_appending (of_out (bind o (λ i Q. (calls (suc left)).mul_at i arg Q)))) (node.Lit (negsuc 0)) P
    (λ room below. (unit_product {ks = of_appending} appending_full (calls left) (appended (node.Lit (negsuc 0)) P) P.count arg (negsuc 0) refl (appended_there P l below (negsuc 0) refl)).made.refuses (appended (node.Lit (negsuc 0)) P))
    appending_full

-- ---- exp and log
exp_log_full : OneOf of_exp_log pool_full
exp_log_full = inr (inr (inl refl))

exp_log_deep : OneOf of_exp_log too_deep
exp_log_deep = inr (inl refl)

-- a constructor meets 11, 14 and 18 alone on pools with long tables
abbrev ByExpLog : (ℕ → Run) → Type 0
ByExpLog make = (arg : ℕ) (P : Pool) → Long P → Among of_exp_log (of_out (make arg P))

-- what a term makes on one pool
record MakingOn (P : Pool) (c : Calls) (t : Term) : Type 0 where
  on : Among of_exp_log (of_out (build c t P))

-- mul(1, ..)
one_times : (left : ℕ) (R : Pool) (i j : ℕ) → node_at R i ≡ node.Lit (pos 1) → Among of_exp_log (of_out ((calls left).mul_at i j R))
unfolding calls
one_times zero R i j e = exp_log_deep
one_times (suc left) R i j e = (unit_product {ks = of_exp_log} exp_log_full (calls left) R i j (pos 1) refl e).made.refuses R

-- add(.., 0)
plus_zero : (left : ℕ) (R : Pool) (i j : ℕ) → node_at R j ≡ node.Lit (pos 0) → Among of_exp_log (of_out ((calls left).add_at i j R))
unfolding calls
plus_zero zero R i j e = exp_log_deep
plus_zero (suc left) R i j e = (add_zero {ks = of_exp_log} exp_log_full (calls left) (node_at R) i j e).made.refuses R

-- exp of a sum whose right part is the literal b
exp_of_sum : (left : ℕ) → ByExpLog (calls left).exp_at → (P : Pool) → Long P → (b : ℤ) (a : ℕ) → MakingOn P (calls left) (Terms.mul (lit_exp b) (Terms.exp (# a)))
unfolding build exp_of
exp_of_sum left less P l b a = record { on = go (is_zero b) }
  where
    after : (Q : Pool) (i : ℕ) → i < Q.count → node_at Q i ≡ node.Lit (pos 1) → (o : Out) → Grows Q o → Among of_exp_log (of_out o) → Among of_exp_log (of_out (bind o (λ j. (calls left).mul_at i j)))
    after Q i m there (done j R) g h = one_times left R i j (earlier_same g i m ∙ there)
    after Q i m there (refused k) g h = h

    go : (t : Bool) → Among of_exp_log (of_out (bind (literal (cond t (Ok (pos 1)) (Err no_exp_or_log)) P) (λ i Q. bind ((calls left).exp_at a Q) (λ j. (calls left).mul_at i j))))
    go true =
        append_comes_to (λ o. Among of_exp_log (of_out (bind o (λ i Q. bind ((calls left).exp_at a Q) (λ j. (calls left).mul_at i j))))) (node.Lit (pos 1)) P
        (λ room below.
        let Q = appended (node.Lit (pos 1)) P in
        after Q P.count (omega arith) (appended_there P l below (pos 1) refl) ((calls left).exp_at a Q) (((calls_grow left).exp_at a).grows Q) (less a Q (long_grown (appended_grown (node.Lit (pos 1)) P below) l)))
        exp_log_full
    go false = inl refl

-- log of a product whose left part is the literal a
log_of_product : (left : ℕ) → ByExpLog (calls left).log_at → (P : Pool) → Long P → (b : ℕ) (a : ℤ) → MakingOn P (calls left) (Terms.add (Terms.log (# b)) (lit_log a))
unfolding build log_of
log_of_product left less P l b a = record { on = after ((calls left).log_at b P) (((calls_grow left).log_at b).grows P) (less b P l) }
  where
    go : (i : ℕ) (Q : Pool) → Long Q → (t : Bool) → Among of_exp_log (of_out (bind (literal (cond t (Ok (pos 0)) (Err no_exp_or_log)) Q) (λ j. (calls left).add_at i j)))
    go i Q m true =
        append_comes_to (λ o. Among of_exp_log (of_out (bind o (λ j. (calls left).add_at i j)))) (node.Lit (pos 0)) Q
        (λ room below. plus_zero left (appended (node.Lit (pos 0)) Q) i Q.count (appended_there Q m below (pos 0) refl))
        exp_log_full
    go i Q m false = inl refl

    after : (o : Out) → Grows P o → Among of_exp_log (of_out o) → Among of_exp_log (of_out (bind o (λ i Q. bind (literal (log_of a) Q) (λ j. (calls left).add_at i j))))
    after (done i Q) g h = go i Q (long_grown g l) (is_one a)
    after (refused k) g h = h

module _ (left : ℕ) (P : Pool) (l : Long P) (arg : ℕ) where
  small_on : (z : ℤ) → is_literal z ≡ true → MakingOn P (calls left) (lit z)
  unfolding build
  small_on z h = record { on = (literal_refuses {ks = of_exp_log} exp_log_full z h).refuses P }

  exp_table_refuses : ByExpLog (calls left).exp_at → MakingOn P (calls left) (exp_table (node_at P) arg)
  unfolding exp_arms build
  exp_table_refuses less =
      ◌then◌ {H = MakingOn P (calls left)}
      ((found (lit? (node_at P) arg) >>= (λ a _. is_zero a >> return (small_on (pos 1) refl)))
      or (found (lit? (node_at P) arg) >>= (λ a _. return (record { on = (exp_of_refuses {ks = of_exp_log} exp_log_full (inl refl) a).refuses P })))
      or (found (add? (node_at P) arg) >>= (λ (a, b) _. inside (found (lit? (node_at P) b) >>= (λ b _. return (exp_of_sum left less P l b a))))))
      (record { on = (append_refuses {ks = of_exp_log} exp_log_full (node.Exp arg)).refuses P })

  log_table_refuses : ByExpLog (calls left).log_at → MakingOn P (calls left) (log_table (node_at P) arg)
  unfolding log_arms build
  log_table_refuses less =
      ◌then◌ {H = MakingOn P (calls left)}
      ((found (lit? (node_at P) arg) >>= (λ a _. is_one a >> return (small_on (pos 0) refl)))
      or (found (lit? (node_at P) arg) >>= (λ a _. return (record { on = (log_of_refuses {ks = of_exp_log} exp_log_full (inl refl) a).refuses P })))
      or (found (mul? (node_at P) arg) >>= (λ (a, b) _. inside (found (lit? (node_at P) a) >>= (λ a _. return (log_of_product left less P l b a))))))
      (record { on = (append_refuses {ks = of_exp_log} exp_log_full (node.Log arg)).refuses P })

pub exp_refuses : (left : ℕ) → ByExpLog (calls left).exp_at
unfolding calls
exp_refuses zero arg P l = exp_log_deep
exp_refuses (suc left) arg P l = (exp_table_refuses left P l arg (exp_refuses left)).on

pub log_refuses : (left : ℕ) → ByExpLog (calls left).log_at
unfolding calls
log_refuses zero arg P l = exp_log_deep
log_refuses (suc left) arg P l = (log_table_refuses left P l arg (log_refuses left)).on
