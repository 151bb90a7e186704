-- What a value depends on: a node's value is had from its parts' values, it goes by the reachable nodes alone, and appending changes none.
-- Assumes nothing.
use mathlib.Core.Path.{◌≡◌, refl, sym, ap, ◌∙◌}
use mathlib.Core.Bool.{Bool, true, false}
use mathlib.Core.List.{List, [], ◌∷◌}
use Prim.Native.Nat.{ℕ, zero, suc, ◌<◌}
use native.Mathlib.Omega.{arith}
use lib.Dec.{ltb}
use lib.IntN.{pos}
use borrow.Author.Tests.{ltb-true, ltb-false}
use Rattle.pool.specs.declared.node.Node.{Node}
use Rattle.pool.specs.declared.node.Node.TheVariants.{Empty, Variable, Lit, Add, Mul, Div, Exp, Log, Pow, Max}
use Rattle.pool.specs.Nodes.{parts}
use Rattle.pool.specs.Pool.{Pool, node_at}
use Rattle.constructor_laws.specs.Grown.{Grown}
use Rattle.constructor_laws.specs.Keeps.{Keeps}
use Rattle.constructor_laws.proofs.Growth.{earlier_same}
use Rattle.constructor_laws.proofs.Rules.{AllBelow, node_stands, nothing_behind, standing_parts_below, parts_below}
use Rattle.shape.specs.Shape.{has, Reach, root, part}
use Rattle.shape.proofs.Lists.{here, further}
use Rattle.meaning.specs.Model.{Algebra, power}
use Rattle.pool.specs.Fold.{under, fold_nodes}
use Rattle.pool.proofs.Folds.{below, same_at, visits}
use Rattle.meaning.specs.Value.{Values, value_node, value}

-- a fact of each number in a list
abbrev pub Each : (ℕ → Type 0) → List ℕ → Type 0
Each H [] = Unit {0}
Each H (a ∷ more) = H a × Each H more

pub each_below : {H : ℕ → Type 0} {n : ℕ} (l : List ℕ) → AllBelow n l → ((a : ℕ) → a < n → H a) → Each H l
each_below [] b f = tt
each_below (a ∷ more) b f = (f a b.0, each_below more b.1 f)

pub each_from : {H K : ℕ → Type 0} (l : List ℕ) → Each H l → ((a : ℕ) → H a → K a) → Each K l
each_from [] b f = tt
each_from (a ∷ more) b f = (f a b.0, each_from more b.1 f)

-- each number in a list is had in it
pub each_had : {H : ℕ → Type 0} (l : List ℕ) → ((a : ℕ) → has l a ≡ true → H a) → Each H l
each_had [] f = tt
each_had (a ∷ more) f = (f a (here a more), each_had more (λ b h. f b (further a more b h)))

pub same_op : {B : Type 0} (op : B → B → B) {x y u w : B} → x ≡ y → u ≡ w → op x u ≡ op y w
same_op op {y = y} {u = u} e f = ap (λ x. op x u) e ∙ ap (op y) f

-- parts have smaller numbers
abbrev pub Falling : (ℕ → Node) → Type 0
Falling at = (i : ℕ) → AllBelow i (parts (at i))

pub falling : {P : Pool} → Keeps P → Falling (node_at P)
falling {P} k i = go (ltb i P.count) refl
  where
    go : (t : Bool) → ltb i P.count ≡ t → AllBelow i (parts (node_at P i))
    go true t = standing_parts_below i (node_at P i) (node_stands k i (ltb-true i P.count t))
    go false t = rw (nothing_behind k i (ltb-false i P.count t)) tt

-- where parts have smaller numbers, what a node comes to is had from what its parts come to
pub from_parts :
    {B : Type 0} (none : B) (node : (ℕ → B) → Node → B) → ((f g : ℕ → B) (x : Node) → Each (λ a. f a ≡ g a) (parts x) → node f x ≡ node g x) → (at : ℕ → Node) → Falling at → (i : ℕ) → fold_nodes none node at i ≡ node (fold_nodes none node at) (at i)
from_parts none node same at f i =
    visits none node at i
    ∙ same (under none (fold_nodes none node at) i) (fold_nodes none node at) (at i) (each_below (parts (at i)) (f i) (λ a l. sym (below none (fold_nodes none node at) i a l)))

module _ (A : Algebra) (env : Values A) where
  -- equal parts' values, one node's value
  pub node_same : (f g : ℕ → A.carrier) (x : Node) → Each (λ a. f a ≡ g a) (parts x) → value_node A env f x ≡ value_node A env g x
  unfolding value_node
  node_same f g Empty h = refl
  node_same f g (Variable v) h = refl
  node_same f g (Lit z) h = refl
  node_same f g (Add a b) h = same_op A.plus h.0 h.1.0
  node_same f g (Mul a b) h = same_op A.times h.0 h.1.0
  node_same f g (Div a b) h = same_op A.over h.0 h.1.0
  node_same f g (Exp a) h = ap A.exp h.0
  node_same f g (Log a) h = ap A.log h.0
  node_same f g (Pow a e) h = ap (λ x. power A x e) h.0
  node_same f g (Max a b) h = same_op A.max h.0 h.1.0

  abbrev none : A.carrier
  none = A.int (pos 0)

  -- a node's value, from its parts' values
  pub value_law : (at : ℕ → Node) → Falling at → (i : ℕ) → value A env at i ≡ value_node A env (value A env at) (at i)
  value_law = from_parts none (value_node A env) node_same

  -- two tables with the same nodes at all numbers of which C holds, C going on to the parts
  closed_same :
      {p q : ℕ → Node} (C : ℕ → Type 0) → ((i : ℕ) → C i → Each C (parts (p i))) → ((i : ℕ) → C i → q i ≡ p i) → (k i : ℕ) → i < k → C i → value A env q i ≡ value A env p i
  closed_same C down same zero i h c = absurd (never i h)
    where
      never : (i : ℕ) → i < 0 → ⊥
      never i h = omega arith
  closed_same {p} {q} C down same (suc k) i h c =
      visits none (value_node A env) q i
      ∙ ap (value_node A env (under none (value A env q) i)) (same i c)
      ∙ node_same (under none (value A env q) i) (under none (value A env p) i) (p i)
      (each_from (parts (p i)) (down i c) (λ a d. same_at none (value A env q) (value A env p) i a (λ l. closed_same C down same k a (omega arith) d)))
      ∙ sym (visits none (value_node A env) p i)

  -- a value goes by the reachable nodes alone
  pub reachable_same : (p q : ℕ → Node) (r : ℕ) → ((i : ℕ) → Reach p (r ∷ []) i → q i ≡ p i) → value A env q r ≡ value A env p r
  reachable_same p q r same =
      closed_same (Reach p (r ∷ [])) (λ i c. each_had (parts (p i)) (λ a h. part c h)) same (suc r) r (omega arith) (root (here r []))

  -- it is kept by everything that only appends
  pub value_kept : {P Q : Pool} → Keeps P → Grown P Q → (i : ℕ) → i < P.count → value A env (node_at Q) i ≡ value A env (node_at P) i
  value_kept {P} k g i h =
      closed_same (λ a. a < P.count) (λ a l. each_below (parts (node_at P a)) (parts_below k a) (λ b s. s)) (earlier_same g) (suc i) i (omega arith) h
