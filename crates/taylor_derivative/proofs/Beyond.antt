-- "From 19! on the answer is 12, unless 18 .. comes first": the fold makes 36 literals before it comes to 19!, so the room for them decides.
-- Assumes nothing.
use mathlib.Core.Bool.{Bool, true, false, ◌&&◌, cond}
use mathlib.Core.Path.{◌≡◌, refl, sym, ap, ◌∙◌}
use mathlib.Core.List.{List}
use Prim.Native.Nat.{ℕ, zero, suc, ◌+◌, ◌≤◌, ◌<◌}
use native.Mathlib.Nat.{not-suc-le-zero}
use native.Mathlib.Omega.{arith}
use lib.Dec.{leb, ltb}
use lib.IntN.{pos}
use lib.ListN.{set}
use borrow.Author.Tests.{ltb-true, ltb-false, le-leb, lt-leb}
use Rattle.refusals.specs.Refusals.{out_of_range, pool_full}
use Rattle.literal.specs.Literal.{greatest}
use Rattle.literal.proofs.Folds.{folds, refuses}
use Rattle.factorial.specs.Factorial.{factorial_of}
use Rattle.factorial.proofs.Growth.{literal_factorials, literal_below, no_literal_from}
use Rattle.pool.specs.declared.node.Node.TheVariants.{Lit}
use Rattle.pool.specs.Nodes.{kind_of, word_of}
use Rattle.pool.specs.Pool.{Pool, pool, limit, append, done, refused}
use Rattle.taylor.specs.Work.{Result, Work, bind, from, one_lit, mul, at, fold}
use Rattle.taylor.specs.Expansion.{derivative}
use Rattle.taylor.specs.declared.expansion.Expansion.TheVariants.{Polynomial}
use Rattle.taylor_base.proofs.Steps.{bind_assoc}
use Rattle.taylor_derivative.specs.Factorials.{itself, product, factor}
use Rattle.taylor_derivative.specs.Beyond.{refused_from19}
use Rattle.taylor_derivative.proofs.Factorials.{Long, derivative_is}

-- 12 once so many literals are made, or before that 18
abbrev number_after : ℕ → ℕ → ℕ
number_after literals count = cond (leb (count + literals) limit) out_of_range pool_full

-- work that is refused so, on one pool, and with any node on any pool within the limit
abbrev IsRefusedAfter : {A : Type 0} → ℕ → Work A → Pool → Type 0
IsRefusedAfter m work P = work P ≡ refused (number_after m P.count)

abbrev AlwaysRefusedAfter : {A : Type 0} → ℕ → (ℕ → Work A) → Type 0
AlwaysRefusedAfter m next = (a : ℕ) (Q : Pool) → Q.end ≡ limit → Q.count ≤ limit → IsRefusedAfter m (next a) Q

-- ---- one literal, and what is done with it then
-- What an append comes to with room and without is said by shape too (`append_done`, `append_full`); of the crates below both only pool knows `append`, and it states no lemma of it.
module _ {A : Type 0} (x m : ℕ) (next : ℕ → Work A) (then : AlwaysRefusedAfter m next) (P : Pool) (whole : P.end ≡ limit) where
  appended_then : IsRefusedAfter (suc m) (λ R. bind (append (Lit (pos x)) R) next) P
  unfolding append
  appended_then = rw whole (go (ltb P.count limit) refl)
    where
      go :
          (t : Bool) → ltb P.count limit ≡ t
          → bind (cond (t && t) (done P.count (pool (set P.kinds P.count (kind_of (Lit (pos x)))) (set P.words P.count (word_of (Lit (pos x)))) (P.count + 1) limit)) (refused pool_full)) next
          ≡ refused (number_after (suc m) P.count)
      go true e =
          let same : P.count + 1 + m ≡ P.count + suc m = omega arith in
          then _ _ refl (omega (arith, ltb-true P.count limit e)) ∙ ap (λ (y : ℕ). refused (cond (leb y limit) out_of_range pool_full)) same
      go false e = rw (lt-leb (P.count + suc m) limit (omega (arith, ltb-false P.count limit e))) refl

  literal_then : x ≤ greatest → IsRefusedAfter (suc m) (λ R. bind (from x R) next) P
  literal_then small = rw (sym (folds (pos x) small)) appended_then

-- ---- one factor
module _ (i acc : ℕ) (rest : ℕ → Work ℕ) (P : Pool) (whole : P.end ≡ limit) where
  abbrev with_product : ℕ → Work ℕ
  with_product n Q = bind (product (leb i itself) i n Q) rest

  factor_then : (m : ℕ) → i ≤ greatest → AlwaysRefusedAfter m with_product → IsRefusedAfter (suc m) (λ R. bind (factor acc i R) rest) P
  factor_then m small then = bind_assoc (from i P) (λ n. product (leb i itself) i n) rest ∙ literal_then i m with_product then P whole small

  -- up to 2 its number alone
  first_factors : (m : ℕ) → i ≤ itself → AlwaysRefusedAfter m rest → IsRefusedAfter (suc m) (λ R. bind (factor acc i R) rest) P
  first_factors m h then = factor_then m (omega arith) (λ n Q w b. rw (le-leb i itself h) (then n Q w b))

  -- from 3 to 18 its number and the product
  later_factors : (m : ℕ) → itself < i → i < literal_factorials → AlwaysRefusedAfter m rest → IsRefusedAfter (suc (suc m)) (λ R. bind (factor acc i R) rest) P
  later_factors m h few then = factor_then (suc m) (omega arith) (λ n Q w b. rw (lt-leb i itself h) (literal_then (factorial_of i) m rest then Q w (literal_below i few)))

  -- of 19 its number; the product is no literal
  no_product : i ≡ literal_factorials → IsRefusedAfter 1 (λ R. bind (factor acc i R) rest) P
  no_product e =
      let past : itself < i = omega arith in
      let none = refuses (pos (factorial_of i)) (no_literal_from i (omega arith)) in
      factor_then 0 (omega arith) (λ n Q w b. rw (lt-leb i itself past, sym none, le-leb (Q.count + 0) limit (omega arith)) refl)

-- ---- all factors
-- how many literals are made from a factor on that stands so many before 19
abbrev needed : ℕ → ℕ
needed zero = 1
needed (suc d) = suc (suc (needed d))

-- from 3 on, with 19 so many factors away
from_three : (d i todo acc : ℕ) (P : Pool) → P.end ≡ limit → i + d ≡ literal_factorials → itself < i → d < todo → IsRefusedAfter (needed d) (fold factor i todo acc) P
unfolding fold
from_three d i zero acc P whole e h more = absurd (not-suc-le-zero more)
from_three zero i (suc todo) acc P whole e h more = no_product i acc (fold factor (suc i) todo) P whole (omega arith)
from_three (suc d) i (suc todo) acc P whole e h more =
    later_factors i acc (fold factor (suc i) todo) P whole (needed d) h (omega arith)
    (λ n Q w b. from_three d (suc i) todo n Q w (omega arith) (omega arith) (omega arith))

-- after the first 1
from_one : (k one : ℕ) (P : Pool) → P.end ≡ limit → literal_factorials ≤ k → IsRefusedAfter 35 (fold factor 1 k one) P
unfolding fold
from_one zero one P whole h = absurd (omega arith)
from_one (suc zero) one P whole h = absurd (omega arith)
from_one (suc (suc todo)) one P whole h =
    first_factors 1 one (fold factor 2 (suc todo)) P whole 34 (omega arith)
    (λ n Q w b. first_factors 2 n (fold factor 3 todo) Q w 33 (omega arith) (λ m R v c. from_three 16 3 todo m R v (omega arith) (omega arith) (omega arith)))

-- of the source's own fold
pub derivative_from_19 : (cs : List ℕ) (k : ℕ) (P : Pool) → Long P → P.end ≡ limit → 19 ≤ k → derivative (Polynomial cs) k P ≡ refused (refused_from19 P.count)
derivative_from_19 cs k P long whole h =
    let all : bind (one_lit P) (fold factor 1 k) ≡ refused (refused_from19 P.count) = literal_then 1 35 (fold factor 1 k) (λ n Q w b. from_one k n Q w h) P whole (omega arith) in
    sym (derivative_is cs k P long) ∙ ap (λ (x : Result ℕ). bind x (λ f. mul f (at cs k))) all
