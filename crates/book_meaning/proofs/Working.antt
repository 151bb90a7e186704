-- A formula that is worked on a pool by the rules comes to a node with its value; and so do formulas that are worked in turn, each of which names nodes of the first pool and nodes that came before it.
-- Assumes nothing.
use mathlib.Core.Path.{◌≡◌, refl, ap}
use Prim.Native.Nat.{ℕ, ◌<◌}
use native.Mathlib.Omega.{arith}
use lib.IntN.{pos}
use Rattle.pool.specs.Pool.{Pool, node_at}
use Rattle.constructor_laws.specs.Grown.{Grown}
use Rattle.constructor_laws.specs.Keeps.{Keeps}
use Rattle.taylor.specs.Work.{Work, bind}
use Rattle.book.specs.Formula.{Formula, #, whole, ◌⊕◌, ◌⊖◌, ◌⊗◌, ◌⊘◌, ◌⊟◌, Exp, Log, work}
use Rattle.constructor_laws.proofs.Giving.{Gives, gives_here, gives_next}
use Rattle.meaning.specs.Model.{Algebra, Model}
use Rattle.meaning.specs.Value.{Values, value}
use Rattle.meaning.proofs.Values.{same_op, value_kept}
use Rattle.meaning.proofs.Running.{Has, has_later, Is, has_same, literal_gives}
use Rattle.taylor_meaning.specs.Series.{minus}
use Rattle.taylor_meaning.proofs.Working.{add_gives, sub_gives, mul_gives, div_gives, exp_gives, log_gives}
use Rattle.book_meaning.specs.Value.{formula_value}

-- K holds of every node that a formula names
abbrev pub Names : (ℕ → Type 0) → Formula → Type 0
Names K (# i) = K i
Names K (whole n) = Unit {0}
Names K (f ⊕ g) = Names K f × Names K g
Names K (f ⊖ g) = Names K f × Names K g
Names K (f ⊗ g) = Names K f × Names K g
Names K (f ⊘ g) = Names K f × Names K g
Names K (f ⊟ g) = Names K f × Names K g
Names K (Exp f) = Names K f
Names K (Log f) = Names K f

-- they are in the pool
abbrev pub Stands : Pool → Formula → Type 0
Stands P f = Names (λ i. i < P.count) f

pub names_more : {K L : ℕ → Type 0} → ((i : ℕ) → K i → L i) → (f : Formula) → Names K f → Names L f
names_more more (# i) h = more i h
names_more more (whole n) h = tt
names_more more (f ⊕ g) h = (names_more more f h.0, names_more more g h.1)
names_more more (f ⊖ g) h = (names_more more f h.0, names_more more g h.1)
names_more more (f ⊗ g) h = (names_more more f h.0, names_more more g h.1)
names_more more (f ⊘ g) h = (names_more more f h.0, names_more more g h.1)
names_more more (f ⊟ g) h = (names_more more f h.0, names_more more g h.1)
names_more more (Exp f) h = names_more more f h
names_more more (Log f) h = names_more more f h

-- values of the nodes that agree where the formula names them
pub formula_same : (A : Algebra) (p q : ℕ → A.carrier) (f : Formula) → Names (λ i. p i ≡ q i) f → formula_value A p f ≡ formula_value A q f
unfolding formula_value
formula_same A p q (# i) h = h
formula_same A p q (whole n) h = refl
formula_same A p q (f ⊕ g) h = same_op A.plus (formula_same A p q f h.0) (formula_same A p q g h.1)
formula_same A p q (f ⊖ g) h = same_op (minus A) (formula_same A p q f h.0) (formula_same A p q g h.1)
formula_same A p q (f ⊗ g) h = same_op A.times (formula_same A p q f h.0) (formula_same A p q g h.1)
formula_same A p q (f ⊘ g) h = same_op A.over (formula_same A p q f h.0) (formula_same A p q g h.1)
formula_same A p q (f ⊟ g) h = same_op (minus A) (formula_same A p q f h.0) (formula_same A p q g h.1)
formula_same A p q (Exp f) h = ap A.exp (formula_same A p q f h)
formula_same A p q (Log f) h = ap A.log (formula_same A p q f h)

stands_later : {P Q : Pool} → Grown P Q → (f : Formula) → Stands P f → Stands Q f
stands_later g f h = names_more (λ i l. omega (arith, g.no_fewer)) f h

-- it keeps its value as the pool grows
pub formula_kept : (A : Algebra) (env : Values A) {P Q : Pool} → Keeps P → Grown P Q → (f : Formula) → Stands P f → formula_value A (value A env (node_at Q)) f ≡ formula_value A (value A env (node_at P)) f
formula_kept A env {P} {Q} k g f h = formula_same A (value A env (node_at Q)) (value A env (node_at P)) f (names_more (value_kept A env k g) f h)

module _ {A : Algebra} (M : Model A) (env : Values A) where
  abbrev val : Pool → ℕ → A.carrier
  val P i = value A env (node_at P) i

  -- a formula that is worked has its value
  abbrev Worked : Formula → Type 0
  Worked f = (P : Pool) → Keeps P → Stands P f → Gives P (Is A env (formula_value A (val P) f)) (work f P)

  two_worked :
      {op : ℕ → ℕ → Work ℕ} (of : A.carrier → A.carrier → A.carrier) (f g : Formula)
      → ((P : Pool) (a b : ℕ) (x y : A.carrier) → Keeps P → Has A env P a x → Has A env P b y → Gives P (Is A env (of x y)) (op a b P))
      → Worked f → Worked g
      → (P : Pool) → Keeps P → Stands P f → Stands P g → Gives P (Is A env (of (formula_value A (val P) f) (formula_value A (val P) g))) (bind (work f P) (λ a Q. bind (work g Q) (op a)))
  two_worked of f g last first second P k hf hg =
      gives_next (first P k hf) (λ a Q k_q g_q ha.
      gives_next (second Q k_q (stands_later g_q g hg)) (λ b R k_r g_r hb.
      last R a b _ _ k_r (has_later k_q g_r ha) (has_same (formula_kept A env k g_q g hg) hb)))

  pub work_has_its_value : (f : Formula) → Worked f
  unfolding work formula_value
  work_has_its_value (# i) P k h = gives_here k (record { below = h; is = refl })
  work_has_its_value (whole n) P k h = literal_gives A env k (pos n)
  work_has_its_value (f ⊕ g) P k h = two_worked A.plus f g (λ R a b x y k_r ha hb. add_gives M env k_r ha hb) (work_has_its_value f) (work_has_its_value g) P k h.0 h.1
  work_has_its_value (f ⊖ g) P k h = two_worked (minus A) f g (λ R a b x y k_r ha hb. sub_gives M env k_r ha hb) (work_has_its_value f) (work_has_its_value g) P k h.0 h.1
  work_has_its_value (f ⊗ g) P k h = two_worked A.times f g (λ R a b x y k_r ha hb. mul_gives M env k_r ha hb) (work_has_its_value f) (work_has_its_value g) P k h.0 h.1
  work_has_its_value (f ⊘ g) P k h = two_worked A.over f g (λ R a b x y k_r ha hb. div_gives M env k_r ha hb) (work_has_its_value f) (work_has_its_value g) P k h.0 h.1
  work_has_its_value (f ⊟ g) P k h = two_worked (λ y x. minus A x y) g f (λ R b a y x k_r hb ha. sub_gives M env k_r ha hb) (work_has_its_value g) (work_has_its_value f) P k h.1 h.0
  work_has_its_value (Exp f) P k h = gives_next (work_has_its_value f P k h) (λ a Q k_q g_q ha. exp_gives M env k_q ha)
  work_has_its_value (Log f) P k h = gives_next (work_has_its_value f P k h) (λ a Q k_q g_q ha. log_gives M env k_q ha)
