-- Nodes appended one after the other in a loop: what is done so far is the definition's, and a refusal ends the whole.
-- Assumes nothing.
use mathlib.Core.Path.{◌≡◌, sym, ap, ◌∙◌, subst}
use mathlib.Core.Logic.{⊎_elim}
use Prim.Native.Nat.{ℕ, zero, suc, ◌+◌, ◌<◌, ◌≤◌}
use native.Mathlib.Numerals.{add-one}
use native.Mathlib.Nat.{not-suc-le-zero}
use native.Mathlib.Omega.{arith}
use Rattle.pool.specs.Pool.{Pool, Out, done, refused, append, bind}
use Rattle.pool.specs.declared.node.Node.{Node}
use Rattle.shape.specs.File.{append_first}
use Rattle.shape.proofs.Lists.{same_or_not}

-- the first i of n nodes are appended: the last has the number `last`, and Q is the pool
pub record Appended (q : ℕ → Node) (P : Pool) (n i last : ℕ) (Q : Pool) : Type 0 where
  pub few : i ≤ n
  pub is : append_first i q P ≡ done last Q

pub none_appended : (q : ℕ → Node) (P : Pool) (n : ℕ) {last : ℕ} → last ≡ P.count → Appended q P n 0 last P
unfolding append_first
none_appended q P n e = record { few = omega arith; is = rw e }

stays_refused : (q : ℕ → Node) (P : Pool) (k m n : ℕ) → suc m ≤ n → append_first (suc m) q P ≡ refused k → append_first n q P ≡ refused k
unfolding append_first
stays_refused q P k m zero l e = absurd (not-suc-le-zero l)
stays_refused q P k m (suc n) l e =
    ⊎_elim
    (λ same. subst (λ j. append_first (suc j) q P ≡ refused k) same e)
    (λ other. ap (λ o. bind o (λ before. append (q n))) (stays_refused q P k m n (omega arith) e))
    (same_or_not m n)

module _ {q : ℕ → Node} {P : Pool} {n i last : ℕ} {Q : Pool} (h : Appended q P n i last Q) (l : i < n) {x : Node} (e : x ≡ q i) where
  next : {out : Out} → out ≡ append x Q → append_first (suc i) q P ≡ out
  unfolding append_first
  next a = ap (λ o. bind o (λ before. append (q i))) h.is ∙ sym (ap (λ y. append y Q) e) ∙ sym a

  pub one_appended : {number : ℕ} {R : Pool} → done number R ≡ append x Q → Appended q P n (i + 1) number R
  one_appended a = record { few = omega arith; is = ap (λ j. append_first j q P) (add-one i) ∙ next a }

  pub none_more : {k : ℕ} → refused k ≡ append x Q → refused k ≡ append_first n q P
  none_more {k} a = sym (stays_refused q P k i n (omega arith) (next a))
