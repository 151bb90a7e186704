-- "Each is given in its situation and in no other": the numbers of 10 to 18 that the work of each operation can meet.
-- Assumes nothing.
use Rattle.std.specs.Prelude.{List, [], ◌∷◌, ℕ, Float}
use Rattle.pool.specs.Pool.{Pool, node_at}
use Rattle.constructors.specs.Build.{calls, depth}
use Rattle.walks.specs.Substitute.{substitute_var}
use Rattle.walks.specs.Derive.{derive}
use Rattle.walks.specs.Evaluate.{evaluate}
use Rattle.walks.specs.EvaluateResidue.{evaluate_residue}
use Rattle.taylor.specs.Expansion.{Expansion, var, coeff, derivative, negate, exponential, logarithm, power, add_to, sub_from, times, quotient, maximum, subst}
use Rattle.taylor.specs.Expand.{Point, expand}
use Rattle.key_strip.specs.Machine.{run_strip}
use Rattle.situations.specs.Refusal.{Among, of_out, of_result, of_answer}

-- "Constructors of src/symbolic.rs .. 11 to 14, 18."
abbrev pub of_constructors : List ℕ
of_constructors = 11 ∷ 12 ∷ 13 ∷ 14 ∷ 18 ∷ []

-- adding meets no `exp`, `log` or exponent
abbrev pub of_sums : List ℕ
of_sums = 12 ∷ 14 ∷ 18 ∷ []

-- `exp` and `log` fold nothing but the literals 0 and 1
abbrev pub of_exp_log : List ℕ
of_exp_log = 11 ∷ 14 ∷ 18 ∷ []

-- literals are folded, and a node is appended
abbrev pub of_folding : List ℕ
of_folding = 12 ∷ 18 ∷ []

-- a node is appended, and no more
abbrev pub of_appending : List ℕ
of_appending = 18 ∷ []

-- "10 and those of 3"
abbrev pub and_max : List ℕ
and_max = 10 ∷ of_constructors

-- "Substitution, derivation, evaluation, printing. 10, 15 to 17": 17 by residues alone
abbrev pub of_evaluation : List ℕ
of_evaluation = 15 ∷ 16 ∷ []

abbrev pub of_residues : List ℕ
of_residues = 15 ∷ 16 ∷ 17 ∷ []

-- the machine of C-20: a variable has no entry
abbrev pub of_running : List ℕ
of_running = 15 ∷ []

-- a Max is made of two constants, and of nothing else
abbrev pub of_max : List ℕ
of_max = 10 ∷ of_appending

-- the constructors, called from outside
pub record OfConstructors (P : Pool) : Type 0 where
  pub add_meets : (lhs rhs : ℕ) → Among of_sums (of_out ((calls depth).add_at lhs rhs P))
  pub mul_meets : (lhs rhs : ℕ) → Among of_constructors (of_out ((calls depth).mul_at lhs rhs P))
  pub div_meets : (lhs rhs : ℕ) → Among of_appending (of_out ((calls depth).div_at lhs rhs P))
  pub max_meets : (lhs rhs : ℕ) → Among of_appending (of_out ((calls depth).max_at lhs rhs P))
  pub neg_meets : (arg : ℕ) → Among of_appending (of_out ((calls depth).neg_at arg P))
  pub exp_meets : (arg : ℕ) → Among of_exp_log (of_out ((calls depth).exp_at arg P))
  pub log_meets : (arg : ℕ) → Among of_exp_log (of_out ((calls depth).log_at arg P))
  pub pow_meets : (base e : ℕ) → Among of_appending (of_out ((calls depth).pow_at base e P))

-- the work on an expression that stands in the pool
pub record OfWalks (P : Pool) (root : ℕ) : Type 0 where
  pub evaluation : (values : List Float) → Among of_evaluation (of_answer (evaluate (node_at P) values root))
  pub residues : (m : ℕ) (values : List ℕ) → Among of_residues (of_answer (evaluate_residue m (node_at P) values root))
  pub substitution : (var value : ℕ) → Among of_constructors (of_out (substitute_var root var value P))
  pub derivation : (var : ℕ) → Among and_max (of_out (derive root var P))
  pub expansion : (v : ℕ) (x : Point) (order : ℕ) → Among and_max (of_result (expand root v x order P))

-- the operations on expansions: "10 .. or `max` is asked of an expansion that is no constant"
pub record OfExpansions (P : Pool) : Type 0 where
  pub var_meets : (x order : ℕ) → Among of_appending (of_result (var x order P))
  pub coeff_meets : (e : Expansion) (k : ℕ) → Among of_appending (of_result (coeff e k P))
  pub derivative_meets : (e : Expansion) (k : ℕ) → Among of_folding (of_result (derivative e k P))
  pub neg_meets : (e : Expansion) → Among of_appending (of_result (negate e P))
  pub exp_meets : (e : Expansion) → Among of_constructors (of_result (exponential e P))
  pub log_meets : (e : Expansion) → Among of_constructors (of_result (logarithm e P))
  pub pow_meets : (e : Expansion) (n : ℕ) → Among of_constructors (of_result (power e n P))
  pub add_meets : (s t : Expansion) → Among of_sums (of_result (add_to s t P))
  pub sub_meets : (s t : Expansion) → Among of_sums (of_result (sub_from s t P))
  pub mul_meets : (s t : Expansion) → Among of_constructors (of_result (times s t P))
  pub div_meets : (s t : Expansion) → Among of_constructors (of_result (quotient s t P))
  pub max_meets : (s t : Expansion) → Among of_max (of_result (maximum s t P))
  pub subst_meets : (outer inner : Expansion) → Among of_constructors (of_result (subst outer inner P))

-- a strip that the machine accepts
pub record OfStrips (bs : List ℕ) : Type 0 where
  pub running : (values : List Float) → Among of_running (of_answer (run_strip values bs))
