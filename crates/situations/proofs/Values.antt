-- Evaluation of a node that stands in a pool by the rules refuses by 15 and 16 only, by residues by 17 too: so it is at each kind of node.
-- Assumes nothing.
use Rattle.std.specs.Prelude.{Ok, Err}
use mathlib.Core.Path.{◌≡◌, refl, sym, ◌∙◌, subst⁻¹}
use mathlib.Core.Logic.{inl, inr}
use mathlib.Core.Bool.{Bool, true, false, cond}
use mathlib.Core.List.{List, [], ◌∷◌}
use Prim.Native.Nat.{ℕ, zero, suc, ◌<◌}
use native.Mathlib.Omega.{arith}
use native.Mathlib.Decide.{dec_lt}
use lib.Dec.{eqb, ltb}
use lib.Ieee.{Float}
use lib.ListN.{length}
use lib.IntN.{ℤ}
use Rattle.refusals.specs.Refusals.{broken_pool}
use Rattle.literal.specs.Literal.{is_literal}
use Rattle.double.specs.Double.{double_of}
use Rattle.double.specs.Double.{Valued}
use Rattle.residue.specs.Residue.{first_below, divides_to, provided, quotient_of, product_of}
use Rattle.residue.specs.Residue as residues
use Rattle.residue.specs.Residue.{Divided}
use Rattle.pool.specs.Nodes.{parts}
use Rattle.pool.specs.Pool.{Pool, node_at}
use Rattle.pool.specs.declared.node.Node.{Node}
use Rattle.pool.specs.declared.node.Node.TheVariants.{Empty, Variable, Lit, Add, Mul, Div, Exp, Log, Pow, Max}
use Rattle.walks.specs.Evaluate.{evaluate_node, evaluate}
use Rattle.walks.specs.Evaluate as doubles
use Rattle.walks.specs.EvaluateResidue.{residue_node, evaluate_residue}
use Rattle.walks.specs.EvaluateResidue as whole
use Rattle.pool.specs.Fold.{under, fold_nodes}
use Rattle.pool.proofs.Folds.{below, above, visits}
use Rattle.shape.specs.Demand.{KeepsRules}
use Rattle.shape.proofs.Lists.{All}
use Rattle.shape.proofs.TableOfKinds.{Valid}
use Rattle.situations.specs.Refusal.{Among, of_answer}
use Rattle.situations.specs.Situations.{of_evaluation, of_residues}
use Rattle.situations.proofs.Throughout.{left, right, Walking, throughout}

module _ {A : Type 0} (none : A) where
  -- one number more changes nothing but at that number
  one_more : (down : ℕ → A) (b i : ℕ) → (i ≡ b → ⊥) → under none down (suc b) i ≡ under none down b i
  one_more down b i n = go (dec_lt i b)
    where
      go : Dec (i < b) → under none down (suc b) i ≡ under none down b i
      go (yes h) = sym (below none down (suc b) i (omega arith)) ∙ below none down b i h
      go (no m) = sym (above none down (suc b) i (omega arith)) ∙ above none down b i (omega arith)

  -- a walk that only reads, as a walk that the law is about: what holds at a node where it holds at its parts holds at every node of the pool
  everywhere :
      {P : Pool} (node : (ℕ → A) → Node → A) (R : A → Type 0)
      → ((down : ℕ → A) (i : ℕ) (n : Node) → Valid n → All (λ a. R (down a)) (parts n) → R (node down n))
      → KeepsRules P
      → (root : ℕ)
      → root < P.count
      → R (fold_nodes none node (node_at P) root)
  everywhere {P} node R at k root l =
      let given : ℕ → A = fold_nodes none node (node_at P) in
      subst⁻¹ R (below none given (suc root) root (omega arith)) (throughout k walking root l)
    where
      walking : Walking P R (λ down i. node down) (under none (fold_nodes none node (node_at P)))
      walking =
          record {
            visits = λ b m h. subst⁻¹ R (sym (below none (fold_nodes none node (node_at P)) (suc b) b (omega arith)) ∙ visits none node (node_at P) b) h;
            passes = λ b i n h. subst⁻¹ R (one_more (fold_nodes none node (node_at P)) b i n) h;
            at = at;
          }

-- ---- doubles
record Fine (x : Valued) : Type 0 where
  only : Among of_evaluation (of_answer x)

one_fine : (x : Valued) {next : Float → Valued} → Fine x → ((a : Float) → Fine (next a)) → Fine (doubles.one x next)
one_fine (Ok a) f g = g a
one_fine (Err k) f g = f

both_fine : (x y : Valued) {next : Float → Float → Valued} → Fine x → Fine y → ((a b : Float) → Fine (next a b)) → Fine (doubles.both x y next)
both_fine x y f g h = one_fine x f (λ a. one_fine y g (λ b. h a b))

variable_fine : (t : Bool) (a : Float) → Fine (cond t (Ok a) (Err 15))
variable_fine true a = record { only = tt }
variable_fine false a = record { only = inl refl }

literal_fine : (z : ℤ) → is_literal z ≡ true → Fine (double_of z)
unfolding double_of
literal_fine z h = rw h (record { only = tt })

module _ (values : List Float) (down : ℕ → Valued) where
  double_fine : (n : Node) → Valid n → All (λ a. Fine (down a)) (parts n) → Fine (evaluate_node values down n)
  double_fine Empty v h = absurd v
  double_fine (Variable i) v h = variable_fine (ltb i (length values)) _
  double_fine (Lit z) v h = literal_fine z v
  double_fine (Add a b) v h = both_fine (down a) (down b) (left a (b ∷ []) h) (right a b h) (λ x y. record { only = tt })
  double_fine (Mul a b) v h = both_fine (down a) (down b) (left a (b ∷ []) h) (right a b h) (λ x y. record { only = tt })
  double_fine (Div a b) v h = both_fine (down a) (down b) (left a (b ∷ []) h) (right a b h) (λ x y. record { only = tt })
  double_fine (Exp a) v h = one_fine (down a) (left a [] h) (λ x. record { only = inr (inl refl) })
  double_fine (Log a) v h = one_fine (down a) (left a [] h) (λ x. record { only = inr (inl refl) })
  double_fine (Pow a e) v h = one_fine (down a) (left a [] h) (λ x. record { only = tt })
  double_fine (Max a b) v h = both_fine (down a) (down b) (left a (b ∷ []) h) (right a b h) (λ x y. record { only = tt })

pub evaluation_refuses : (P : Pool) → KeepsRules P → (root : ℕ) → root < P.count → (values : List Float) → Among of_evaluation (of_answer (evaluate (node_at P) values root))
evaluation_refuses P k root l values = (everywhere (Err broken_pool) (evaluate_node values) Fine (λ down i. double_fine values down) k root l).only

-- ---- residues
record Whole (x : Divided) : Type 0 where
  only : Among of_residues (of_answer x)

one_whole : (x : Divided) {next : ℕ → Divided} → Whole x → ((a : ℕ) → Whole (next a)) → Whole (whole.one x next)
one_whole (Ok a) f g = g a
one_whole (Err k) f g = f

both_whole : (x y : Divided) {next : ℕ → ℕ → Divided} → Whole x → Whole y → ((a b : ℕ) → Whole (next a b)) → Whole (whole.both x y next)
both_whole x y f g h = one_whole x f (λ a. one_whole y g (λ b. h a b))

variable_whole : (t : Bool) (a : ℕ) → Whole (cond t (Ok a) (Err 15))
variable_whole true a = record { only = tt }
variable_whole false a = record { only = inl refl }

-- 17 is all that a search meets
first_whole : (n : ℕ) (passes : ℕ → Bool) → Whole (first_below n passes)
unfolding first_below
first_whole zero passes = record { only = inr (inr (inl refl)) }
first_whole (suc n) passes = go (first_below n passes) (passes n)
  where
    go : (x : Divided) (t : Bool) → Whole (residues.or_else x (cond t (Ok n) (Err 17)))
    go (Ok q) t = record { only = tt }
    go (Err k) true = record { only = tt }
    go (Err k) false = record { only = inr (inr (inl refl)) }

quotient_whole : (m a d : ℕ) → Whole (quotient_of m a d)
unfolding quotient_of
quotient_whole m a d = go (divides_to m 1 d) (divides_to m a d) (first_whole m (λ q. eqb (product_of m q d) 1)) (first_whole m (λ q. eqb (product_of m q d) a))
  where
    go : (x y : Divided) → Whole x → Whole y → Whole (provided x y)
    go (Ok q) y f g = g
    go (Err k) y f g = f

module _ (m : ℕ) (values : List ℕ) (down : ℕ → Divided) where
  residue_whole : (n : Node) → Valid n → All (λ a. Whole (down a)) (parts n) → Whole (residue_node m values down n)
  residue_whole Empty v h = absurd v
  residue_whole (Variable i) v h = variable_whole (ltb i (length values)) _
  residue_whole (Lit z) v h = record { only = tt }
  residue_whole (Add a b) v h = both_whole (down a) (down b) (left a (b ∷ []) h) (right a b h) (λ x y. record { only = tt })
  residue_whole (Mul a b) v h = both_whole (down a) (down b) (left a (b ∷ []) h) (right a b h) (λ x y. record { only = tt })
  residue_whole (Div a b) v h = both_whole (down a) (down b) (left a (b ∷ []) h) (right a b h) (λ x y. quotient_whole m x y)
  residue_whole (Exp a) v h = one_whole (down a) (left a [] h) (λ x. record { only = inr (inl refl) })
  residue_whole (Log a) v h = one_whole (down a) (left a [] h) (λ x. record { only = inr (inl refl) })
  residue_whole (Pow a e) v h = one_whole (down a) (left a [] h) (λ x. record { only = tt })
  residue_whole (Max a b) v h = both_whole (down a) (down b) (left a (b ∷ []) h) (right a b h) (λ x y. record { only = inr (inl refl) })

pub residues_refuse : (P : Pool) → KeepsRules P → (root : ℕ) → root < P.count → (m : ℕ) (values : List ℕ) → Among of_residues (of_answer (evaluate_residue m (node_at P) values root))
residues_refuse P k root l m values = (everywhere (Err broken_pool) (residue_node m values) Whole (λ down i. residue_whole m values down) k root l).only
