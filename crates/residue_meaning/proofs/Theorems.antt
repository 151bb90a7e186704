-- By residues of every modulus from 2 on: a substituted expression has the value of the first one with the variable set to the second one's value, and of a plain expression `derive` and coefficient 1 of the expansion have equal values. So wherever the evaluations are accepted.
-- Assumes nothing.
use Rattle.std.specs.Prelude.{Ok, None}
use mathlib.Core.Path.{◌≡◌, refl, sym, ap, ◌∙◌, fun_ext}
use mathlib.Core.Bool.{Bool, true, false, cond}
use mathlib.Core.List.{List}
use Prim.Native.Nat.{ℕ, ◌^◌, ◌≤◌, ◌<◌}
use native.Mathlib.Nat.{mod-eq_of_lt}
use native.Mathlib.Decide.{ℕ_discrete}
use lib.Dec.{eqb}
use lib.ListN.{length, get_or, set}
use lib.Seq.{get_or-set_same, get_or-set_other}
use borrow.Author.Tests.{eqb-true, eqb-false, ltb-true}
use Rattle.pool.specs.Nodes.{greatest_variable}
use Rattle.pool.specs.Pool.{Pool, done, node_at}
use Rattle.constructor_laws.specs.Keeps.{Keeps}
use Rattle.constructor_laws.proofs.Keeping.{accepted_kept}
use Rattle.walks.specs.EvaluateResidue.{evaluate_residue}
use Rattle.walks.specs.Substitute.{substitute_var}
use Rattle.walks.specs.Derive.{derive}
use Rattle.walk_laws.proofs.Substitution.{substitute_kept}
use Rattle.walk_laws.proofs.Derivation.{derive_kept}
use Rattle.taylor.specs.Work.{at}
use Rattle.taylor.specs.declared.expansion.Expansion.TheVariants.{Polynomial}
use Rattle.taylor.specs.Expand.{expand}
use Rattle.meaning.specs.Value.{Values, value}
use Rattle.walk_meaning.specs.Setting.{setting}
use Rattle.walk_meaning.proofs.Substitution.{substitution_means}
use Rattle.taylor_meaning.specs.Coefficients.{coefficient}
use Rattle.taylor_meaning.specs.PolynomialExpressions.{PlainExpression}
use Rattle.taylor_meaning.proofs.PolynomialExpressions.{plain_expansion_keeps}
use Rattle.taylor_meaning.proofs.FirstCoefficients.{derive_is_coefficient}
use Rattle.residue_meaning.specs.Residues.{Residues, reduced, residues, from_table}
use Rattle.residue_meaning.proofs.Model.{same, number, residues_model, residues_ring}
use Rattle.residue_meaning.proofs.Evaluation.{residue_is_value}

module _ (m : ℕ) (some : 2 ≤ m) (values : List ℕ) (small : (v : ℕ) → get_or values v 0 < m) {P : Pool} (keeps : Keeps P) where
  abbrev env : Values (residues m some)
  env = from_table m some values

  -- the table with one value set
  table_set : (v : ℕ) (g : Residues m) → v < length values → from_table m some (set values v g.0) ≡ setting (residues m some) env v g
  table_set v g l = fun_ext (λ u. go u (eqb u v) refl)
    where
      go : (u : ℕ) (t : Bool) → eqb u v ≡ t → from_table m some (set values v g.0) u ≡ cond t g (env u)
      go u true t =
          ap (λ i. reduced m some (get_or (set values v g.0) i 0)) (eqb-true u v t)
          ∙ ap (reduced m some) (get_or-set_same values v g.0 0 l)
          ∙ same m some (number m some g.0 ∙ mod-eq_of_lt (ltb-true g.0 m g.1))
      go u false t = ap (reduced m some) (get_or-set_other values v u g.0 0 (eqb-false u v t))

  still_small : (v g : ℕ) → g < m → v < length values → (u : ℕ) → get_or (set values v g) u 0 < m
  still_small v g h l u = go (ℕ_discrete u v)
    where
      go : Dec (u ≡ v) → get_or (set values v g) u 0 < m
      go (yes e) = rw (e, get_or-set_same values v g 0 l) h
      go (no n) = rw (get_or-set_other values v u g 0 n) (small u)

  -- g is the value of the node put in: the answer has the residue that the root has with g for the variable
  pub substitution_by_residues :
      (root var given : ℕ) → root < P.count → given < P.count → var < length values
      → {i : ℕ} {Q : Pool} → substitute_var root var given P ≡ done i Q
      → (g r s : ℕ)
      → evaluate_residue m (node_at P) values given ≡ Ok g
      → evaluate_residue m (node_at Q) values i ≡ Ok r
      → evaluate_residue m (node_at P) (set values var g) root ≡ Ok s
      → r ≡ s
  substitution_by_residues root var given h l k {i} {Q} accepted g r s eg er es =
      let keeps_Q = (accepted_kept (substitute_kept var given root keeps h l) accepted).keeps in
      let put = value (residues m some) env (node_at P) given in
      let is_g : put.0 ≡ g = residue_is_value m some values small keeps given g eg in
      let is_s : (value (residues m some) (from_table m some (set values var put.0)) (node_at P) root).0 ≡ s =
      residue_is_value m some (set values var put.0) (still_small var put.0 (ltb-true put.0 m put.1) k) keeps root s (rw is_g es) in
      sym (residue_is_value m some values small keeps_Q i r er)
      ∙ ap (λ (a : Residues m). a.0) (substitution_means (residues_model m some) env keeps var given l root h accepted).answer
      ∙ ap (λ e. (value (residues m some) e (node_at P) root).0) (sym (table_set var put k))
      ∙ is_s

  -- of a plain expression, one with no quotient and no maximum, for every order from 1 on
  pub derivation_by_residues :
      ((i : ℕ) → get_or P.words i 0 < 2 ^ 64) → (root var order : ℕ) → root < P.count → var ≤ greatest_variable → 1 ≤ order → PlainExpression (node_at P) root
      → {i : ℕ} {Q : Pool} → derive root var P ≡ done i Q
      → {cs : List ℕ} {R : Pool} → expand root var None order P ≡ done (Polynomial cs) R
      → (r s : ℕ)
      → evaluate_residue m (node_at Q) values i ≡ Ok r
      → evaluate_residue m (node_at R) values (at cs 1) ≡ Ok s
      → r ≡ s
  unfolding coefficient
  derivation_by_residues words root var order h known more p {i} {Q} derived {cs} {R} expanded r s er es =
      let keeps_Q = (accepted_kept (derive_kept var root keeps h) derived).keeps in
      let keeps_R = plain_expansion_keeps (residues_model m some) (residues_ring m some) env keeps var known None order words root h p expanded in
      sym (residue_is_value m some values small keeps_Q i r er)
      ∙ ap (λ (a : Residues m). a.0) (derive_is_coefficient (residues_model m some) (residues_ring m some) env keeps words var known order root more h p derived expanded)
      ∙ residue_is_value m some values small keeps_R (at cs 1) s es
