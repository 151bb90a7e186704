-- Evaluation by residues, where it is accepted, gives the value in the algebra of residues.
-- Assumes nothing.
use Rattle.std.specs.Prelude.{Ok, Err}
use mathlib.Core.Path.{◌≡◌, refl, sym, ap, ◌∙◌}
use mathlib.Core.Bool.{Bool, true, false, cond}
use mathlib.Core.List.{List}
use Prim.Native.Nat.{ℕ, zero, suc, ◌+◌, ◌*◌, ◌%◌, ◌^◌, ◌≤◌, ◌<◌}
use native.Mathlib.Nat.{mod-eq_of_lt, pow-zero, pow-suc}
use native.Mathlib.Omega.{arith}
use lib.Dec.{ltb}
use lib.ListN.{length, get_or}
use borrow.Author.Tests.{ltb-true}
use Rattle.refusals.specs.Refusals.{broken_pool, no_value, not_evaluated}
use Rattle.residue.specs.Residue.{residue, sum_of, product_of, power_of, quotient_of}
use Rattle.residue.specs.Residue.{Divided}
use Rattle.residue.proofs.Congruence.{factor_first}
use Rattle.residue.proofs.Theorems.{residue_below_lem, quotient_exact}
use Rattle.pool.specs.declared.node.Node.{Node}
use Rattle.pool.specs.declared.node.Node.TheVariants.{Empty, Variable, Lit, Add, Mul, Div, Exp, Log, Pow, Max}
use Rattle.pool.specs.Nodes.{parts}
use Rattle.pool.specs.Pool.{Pool, node_at}
use Rattle.constructor_laws.specs.Keeps.{Keeps}
use Rattle.walks.specs.EvaluateResidue.{one, both, value_of_variable, residue_node, residue_below, evaluate_residue}
use Rattle.pool.proofs.Folds.{visits, below}
use Rattle.meaning.specs.Model.{power}
use Rattle.meaning.specs.Value.{Values, value_node, value}
use Rattle.meaning.proofs.Values.{Each, each_below, Falling, falling, value_law}
use Rattle.residue_meaning.specs.Residues.{Residues, or_zero, residues, from_table}
use Rattle.residue_meaning.proofs.Model.{number}

-- ---- answers that are accepted

-- two residues that came
record Came (x y : Divided) (next : ℕ → ℕ → Divided) (r : ℕ) : Type 0 where
  left : ℕ
  right : ℕ
  left_came : x ≡ Ok left
  right_came : y ≡ Ok right
  last : next left right ≡ Ok r

not_refused : {B : Type 0} {k r : ℕ} → Err k ≡ Ok r → B
not_refused e = absurd (never e)
  where
    never : {k r : ℕ} → Err k ≡ Ok r → ⊥
    never e = let clash : ◌≡◌ {A = ℕ} 0 1 = cc in omega arith

both_came : (x y : Divided) (next : ℕ → ℕ → Divided) (r : ℕ) → both x y next ≡ Ok r → Came x y next r
both_came (Ok a) (Ok b) next r e = record { left = a; right = b; left_came = refl; right_came = refl; last = e }
both_came (Ok a) (Err k) next r e = not_refused e
both_came (Err k) y next r e = not_refused e

-- one residue that came
record CameOne (x : Divided) (next : ℕ → Divided) (r : ℕ) : Type 0 where
  only : ℕ
  came : x ≡ Ok only
  last : next only ≡ Ok r

one_came : (x : Divided) (next : ℕ → Divided) (r : ℕ) → one x next ≡ Ok r → CameOne x next r
one_came (Ok a) next r e = record { only = a; came = refl; last = e }
one_came (Err k) next r e = not_refused e

residue_inside : {a b : ℕ} → ◌≡◌ {A = Divided} (Ok a) (Ok b) → a ≡ b
residue_inside e = cc

module _ (m : ℕ) (some : 2 ≤ m) (values : List ℕ) (small : (v : ℕ) → get_or values v 0 < m) where
  abbrev env : Values (residues m some)
  env = from_table m some values

  -- whatever residue came for a part is its value
  abbrev Agree : (ℕ → Divided) → (ℕ → Residues m) → ℕ → Type 0
  Agree down f a = (r : ℕ) → down a ≡ Ok r → (f a).0 ≡ r

  power_number : (a : Residues m) (e : ℕ) → (power (residues m some) a e).0 ≡ power_of m a.0 e
  unfolding power residue
  power_number a zero = number m some (1 % m) ∙ ap (λ n. n % m) (mod-eq_of_lt (omega arith)) ∙ ap (λ n. n % m) (sym (pow-zero a.0))
  power_number a (suc e) =
      number m some ((power (residues m some) a e).0 * a.0)
      ∙ ap (λ n. n * a.0 % m) (power_number a e)
      ∙ factor_first m (a.0 ^ e) a.0
      ∙ ap (λ n. n % m) (sym (pow-suc a.0 e))

  variable_agrees : (v r : ℕ) → value_of_variable values v ≡ Ok r → (env v).0 ≡ r
  variable_agrees v r e = go (ltb v (length values)) e
    where
      go : (t : Bool) → cond t (Ok (get_or values v 0)) (Err no_value) ≡ Ok r → (env v).0 ≡ r
      go true e = number m some (get_or values v 0) ∙ mod-eq_of_lt (small v) ∙ residue_inside e
      go false e = not_refused e

  node_agrees : (down : ℕ → Divided) (f : ℕ → Residues m) (x : Node) → Each (Agree down f) (parts x) → (r : ℕ) → residue_node m values down x ≡ Ok r → (value_node (residues m some) env f x).0 ≡ r
  unfolding value_node
  node_agrees down f Empty h r e = not_refused e
  node_agrees down f (Variable v) h r e = variable_agrees v r e
  node_agrees down f (Lit z) h r e = number m some (residue m z) ∙ mod-eq_of_lt (residue_below_lem m z some) ∙ residue_inside e
  node_agrees down f (Add a b) h r e =
      let c = both_came (down a) (down b) (λ x y. Ok (sum_of m x y)) r e in
      number m some ((f a).0 + (f b).0) ∙ ap (λ n. (n + (f b).0) % m) (h.0 c.left c.left_came) ∙ ap (λ n. (c.left + n) % m) (h.1.0 c.right c.right_came) ∙ residue_inside c.last
  node_agrees down f (Mul a b) h r e =
      let c = both_came (down a) (down b) (λ x y. Ok (product_of m x y)) r e in
      number m some ((f a).0 * (f b).0) ∙ ap (λ n. n * (f b).0 % m) (h.0 c.left c.left_came) ∙ ap (λ n. c.left * n % m) (h.1.0 c.right c.right_came) ∙ residue_inside c.last
  node_agrees down f (Div a b) h r e =
      let c = both_came (down a) (down b) (λ x y. quotient_of m x y) r e in
      let at_a = h.0 c.left c.left_came in
      let at_b = h.1.0 c.right c.right_came in
      let exact = quotient_exact m c.left c.right r (rw (sym at_a) (ltb-true (f a).0 m (f a).1)) c.last in
      number m some (or_zero m some (quotient_of m (f a).0 (f b).0))
      ∙ ap (λ n. or_zero m some (quotient_of m n (f b).0) % m) at_a
      ∙ ap (λ n. or_zero m some (quotient_of m c.left n) % m) at_b
      ∙ ap (λ q. or_zero m some q % m) c.last
      ∙ mod-eq_of_lt exact.below
  node_agrees down f (Exp a) h r e = not_refused (one_came (down a) (λ x. Err not_evaluated) r e).last
  node_agrees down f (Log a) h r e = not_refused (one_came (down a) (λ x. Err not_evaluated) r e).last
  node_agrees down f (Pow a n) h r e =
      let c = one_came (down a) (λ x. Ok (power_of m x n)) r e in
      power_number (f a) n ∙ ap (λ k. power_of m k n) (h.0 c.only c.came) ∙ residue_inside c.last
  node_agrees down f (Max a b) h r e = not_refused (both_came (down a) (down b) (λ x y. Err not_evaluated) r e).last

  agrees_below : (at : ℕ → Node) → Falling at → (k i : ℕ) → i < k → (r : ℕ) → evaluate_residue m at values i ≡ Ok r → (value (residues m some) env at i).0 ≡ r
  agrees_below at falls zero i h r e = absurd (never i h)
    where
      never : (i : ℕ) → i < 0 → ⊥
      never i h = omega arith
  agrees_below at falls (suc k) i h r e =
      ap (λ (a : Residues m). a.0) (value_law (residues m some) env at falls i)
      ∙ node_agrees (residue_below m at values i) (value (residues m some) env at) (at i)
      (each_below (parts (at i)) (falls i) (λ a l s q. agrees_below at falls k a (omega arith) s (below (Err broken_pool) (evaluate_residue m at values) i a l ∙ q)))
      r
      (sym (visits (Err broken_pool) (residue_node m values) at i) ∙ e)

  -- an accepted evaluation by residues gives the value in the algebra of residues
  pub residue_is_value : {P : Pool} → Keeps P → (root r : ℕ) → evaluate_residue m (node_at P) values root ≡ Ok r → (value (residues m some) (from_table m some values) (node_at P) root).0 ≡ r
  residue_is_value {P} k root r e = agrees_below (node_at P) (falling k) (suc root) root (omega arith) r e
