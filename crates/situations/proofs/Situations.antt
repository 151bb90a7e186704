-- Each refusal in its situation and in no other, of the definitions.
-- Assumes nothing.
use mathlib.Core.Path.{refl}
use mathlib.Core.Logic.{inl, inr}
use Prim.Native.Nat.{ℕ, ◌-◌, ◌<◌}
use Rattle.pool.specs.Pool.{Pool}
use Rattle.constructors.specs.Build.{depth}
use Rattle.shape.specs.Demand.{KeepsRules}
use Rattle.situations.specs.Situations.{of_constructors, of_sums, of_appending, of_max, OfConstructors, OfWalks, OfExpansions}
use Rattle.situations.proofs.Constructors.{calls_refuse}
use Rattle.situations.proofs.Each.{add_refuses, div_refuses, max_refuses, pow_refuses, neg_refuses, exp_refuses, log_refuses}
use Rattle.situations.proofs.Values.{evaluation_refuses, residues_refuse}
use Rattle.situations.proofs.Walks.{substitution_refuses, derivation_refuses}
use Rattle.taylor_laws.proofs.General as general
use Rattle.situations.proofs.Operations.{meets, wider, zero_holds, one_holds, every_constructor, sum_holds, opposite_holds, greater_holds}
use Rattle.situations.proofs.Derivative.{derivative_refuses}
use Rattle.situations.proofs.Expansions.{rules_are_long, expansion_refuses}

module _ (P : Pool) (k : KeepsRules P) where
  pub constructors_refuse : OfConstructors P
  constructors_refuse =
      let long = rules_are_long P k in
      record {
        add_meets = λ lhs rhs. (add_refuses depth lhs rhs).refuses P;
        mul_meets = λ lhs rhs. ((calls_refuse depth).mul_at lhs rhs).refuses P;
        div_meets = λ lhs rhs. (div_refuses (depth - 1) lhs rhs).refuses P;
        max_meets = λ lhs rhs. (max_refuses (depth - 1) lhs rhs).refuses P;
        neg_meets = λ arg. neg_refuses (depth - 2) arg P long;
        exp_meets = λ arg. exp_refuses depth arg P long;
        log_meets = λ arg. log_refuses depth arg P long;
        pow_meets = λ base e. (pow_refuses (depth - 1) base e).refuses P;
      }

  pub of_walks : (root : ℕ) → root < P.count → OfWalks P root
  of_walks root l =
      record {
        evaluation = evaluation_refuses P k root l;
        residues = residues_refuse P k root l;
        substitution = substitution_refuses P k root l;
        derivation = derivation_refuses P k root l;
        expansion = expansion_refuses P k root l;
      }

  pub of_expansions : OfExpansions P
  of_expansions =
      let long = rules_are_long P k in
      record {
        var_meets = λ x order. meets of_appending (general.var_holds (zero_holds of_appending (inl refl)) (one_holds of_appending (inl refl)) x order) P long;
        coeff_meets = λ e i. meets of_appending (general.coeff_holds (zero_holds of_appending (inl refl)) e i) P long;
        derivative_meets = λ e i. derivative_refuses e i P long;
        neg_meets = λ e. meets of_appending (general.negate_holds opposite_holds e) P long;
        exp_meets = λ e. meets of_constructors (general.exponential_holds every_constructor e) P long;
        log_meets = λ e. meets of_constructors (general.logarithm_holds every_constructor e) P long;
        pow_meets = λ e n. meets of_constructors (general.power_holds every_constructor e n) P long;
        add_meets = λ s t. meets of_sums (general.add_to_holds sum_holds s t) P long;
        sub_meets = λ s t. meets of_sums (general.sub_from_holds (λ a. wider of_appending of_sums (λ r h. inr (inr h)) (opposite_holds a)) sum_holds s t) P long;
        mul_meets = λ s t. meets of_constructors (general.times_holds every_constructor s t) P long;
        div_meets = λ s t. meets of_constructors (general.quotient_holds every_constructor s t) P long;
        max_meets = λ s t. meets of_max (general.maximum_holds greater_holds (inl refl) s t) P long;
        subst_meets = λ outer inner. meets of_constructors (general.subst_holds every_constructor outer inner) P long;
      }
