-- What is done at a node, once its parts have been walked: the expansions of the parts are those that are kept for them.
-- Assumes nothing.
use mathlib.Core.Bool.{Bool, true, false}
use mathlib.Core.Path.{◌≡◌, refl, sym, ap, subst, ◌∙◌}
use mathlib.Core.List.{List, [], ◌∷◌}
use Prim.Native.Nat.{ℕ}
use lib.Dec.{eqb}
use Rattle.pool.specs.Pool.{Pool, done, refused}
use Rattle.pool.specs.declared.node.Node.{Node}
use Rattle.pool.specs.declared.node.Node.TheVariants.{Empty, Variable, Lit, Add, Mul, Div, Exp, Log, Pow, Max}
use Rattle.taylor.specs.Work.{Work}
use Rattle.taylor.specs.Expansion.{Expansion, add_to, times, quotient, exponential, logarithm, power}
use Rattle.taylor.specs.Expand.{State, Went, Walk, bind, lifted, lift, Point, of_variable, expand_node}
use Rattle.expand.specs.Nodes.{visits, leaf_work, node_work}

module _ (v : ℕ) (x : Point) (order term : ℕ) where
  -- no part is walked
  record NoPart (node : Node) : Type 0 where
    pub walks : (down : ℕ → Walk) (part : ℕ → Expansion) (S : State) → lift (node_work v x order part term node) S ≡ expand_node v x order down term node S

  -- the walk of a part, and then an operation
  record OnePart (node : Node) (a : ℕ) : Type 0 where
    pub next : Expansion → Work Expansion
    pub walks : (down : ℕ → Walk) (S : State) → expand_node v x order down term node S ≡ bind (down a S) (λ s. lift (next s))
    pub works : (part : ℕ → Expansion) (P : Pool) → node_work v x order part term node P ≡ next (part a) P

  -- the walks of two parts, left before right, and then an operation
  record TwoParts (node : Node) (a b : ℕ) : Type 0 where
    pub next : Expansion → Expansion → Work Expansion
    pub walks : (down : ℕ → Walk) (S : State) → expand_node v x order down term node S ≡ bind (down a S) (λ s T. bind (down b T) (λ t. lift (next s t)))
    pub works : (part : ℕ → Expansion) (P : Pool) → node_work v x order part term node P ≡ next (part a) (part b) P

  abbrev Step : Node → List ℕ → Type 0
  Step node [] = NoPart node
  Step node (a ∷ []) = OnePart node a
  Step node (a ∷ b ∷ []) = TwoParts node a b
  Step node (a ∷ b ∷ c ∷ more) = Unit {0}

  step : (node : Node) → Step node (visits node)
  step Empty = record { walks = λ down part S. refl }
  step (Variable u) = record { walks = λ down part S. leaf (eqb u v) S }
    where
      leaf : (sought : Bool) (S : State) → lift (leaf_work sought term v x order) S ≡ of_variable sought term v x order S
      leaf true S = refl
      leaf false S = refl
  step (Lit z) = record { walks = λ down part S. refl }
  step (Add a b) = record { next = add_to; walks = λ down S. refl; works = λ part P. refl }
  step (Mul a b) = record { next = times; walks = λ down S. refl; works = λ part P. refl }
  step (Div a b) = record { next = quotient; walks = λ down S. refl; works = λ part P. refl }
  step (Exp a) = record { next = exponential; walks = λ down S. refl; works = λ part P. refl }
  step (Log a) = record { next = logarithm; walks = λ down S. refl; works = λ part P. refl }
  step (Pow a e) = record { next = λ s. power s e; walks = λ down S. refl; works = λ part P. refl }
  step (Max a b) = record { walks = λ down part S. refl }

  module _ (node : Node) (down : ℕ → Walk) (S : State) where
    pub none_made : (part : ℕ → Expansion) → visits node ≡ [] → lift (node_work v x order part term node) S ≡ expand_node v x order down term node S
    none_made part e = (subst (Step node) e (step node)).walks down part S

    module _ {a : ℕ} (e : visits node ≡ a ∷ []) where
      the_one : OnePart node a
      the_one = subst (Step node) e (step node)

      pub one_stopped : {k : ℕ} → down a S ≡ refused k → refused k ≡ expand_node v x order down term node S
      one_stopped h = sym (the_one.walks down S ∙ ap (λ (w : Went). bind w (λ s. lift (the_one.next s))) h)

      pub one_made : (part : ℕ → Expansion) {T : State} → down a S ≡ done (part a) T → lift (node_work v x order part term node) T ≡ expand_node v x order down term node S
      one_made part {T} h =
          ap (lifted T.results) (the_one.works part T.pool)
          ∙ sym (the_one.walks down S ∙ ap (λ (w : Went). bind w (λ s. lift (the_one.next s))) h)

    module _ {a b : ℕ} (e : visits node ≡ a ∷ b ∷ []) where
      the_two : TwoParts node a b
      the_two = subst (Step node) e (step node)

      pub left_stopped : {k : ℕ} → down a S ≡ refused k → refused k ≡ expand_node v x order down term node S
      left_stopped h = sym (the_two.walks down S ∙ ap (λ (w : Went). bind w (λ s T. bind (down b T) (λ t. lift (the_two.next s t)))) h)

      pub right_stopped : {s : Expansion} {T : State} {k : ℕ} → down a S ≡ done s T → down b T ≡ refused k → refused k ≡ expand_node v x order down term node S
      right_stopped {s} {T} h g =
          sym
          (the_two.walks down S
          ∙ ap (λ (w : Went). bind w (λ s T. bind (down b T) (λ t. lift (the_two.next s t)))) h
          ∙ ap (λ (w : Went). bind w (λ t. lift (the_two.next s t))) g)

      pub two_made : (part : ℕ → Expansion) {T U : State} → down a S ≡ done (part a) T → down b T ≡ done (part b) U → lift (node_work v x order part term node) U ≡ expand_node v x order down term node S
      two_made part {T} {U} h g =
          ap (lifted U.results) (the_two.works part U.pool)
          ∙ sym
          (the_two.walks down S
          ∙ ap (λ (w : Went). bind w (λ s T. bind (down b T) (λ t. lift (the_two.next s t)))) h
          ∙ ap (λ (w : Went). bind w (λ t. lift (the_two.next (part a) t))) g)
