-- A node with its parts renamed is the node with other parts: what code that renames by `parts` and `with_parts` has made.
-- Assumes nothing.
use mathlib.Core.Path.{◌≡◌, refl, sym, ap, ◌∙◌, subst⁻¹}
use mathlib.Core.List.{[], ◌∷◌, map}
use Prim.Native.Nat.{ℕ}
use lib.ListN.{get_or}
use Rattle.pool.specs.Nodes.{parts}
use Rattle.pool.specs.declared.node.Node.{Node}
use Rattle.pool.specs.declared.node.Node.TheVariants.{Empty, Variable, Lit, Add, Mul, Div, Exp, Log, Pow, Max}
use Rattle.shape.specs.Shape.{rename}
use Rattle.shape.proofs.Lists.{All, all_none}
use Rattle.shape.proofs.Renaming.{rename_same}
use Rattle.pool.specs.Parts.{with_parts}

by_parts : (f : ℕ → ℕ) (n : Node) → with_parts n (get_or (map f (parts n)) 0 0) (get_or (map f (parts n)) 1 0) ≡ rename f n
by_parts f Empty = refl
by_parts f (Variable v) = refl
by_parts f (Lit z) = refl
by_parts f (Add a b) = refl
by_parts f (Mul a b) = refl
by_parts f (Div a b) = refl
by_parts f (Exp a) = refl
by_parts f (Log a) = refl
by_parts f (Pow a n) = refl
by_parts f (Max a b) = refl

module _ (f : ℕ → ℕ) (n : Node) where
  pub renamed_none : parts n ≡ [] → n ≡ rename f n
  renamed_none e = sym (rename_same f n (subst⁻¹ (All (λ i. f i ≡ i)) e (all_none (λ i. f i ≡ i))))

  pub renamed_one : {a x : ℕ} → parts n ≡ a ∷ [] → x ≡ f a → with_parts n x 0 ≡ rename f n
  renamed_one e g = ap (λ y. with_parts n y 0) g ∙ sym (ap (λ is. with_parts n (get_or (map f is) 0 0) (get_or (map f is) 1 0)) e) ∙ by_parts f n

  pub renamed_two : {a b x y : ℕ} → parts n ≡ a ∷ b ∷ [] → x ≡ f a → y ≡ f b → with_parts n x y ≡ rename f n
  renamed_two {y = y} e g h =
      ap (λ z. with_parts n z y) g ∙ ap (with_parts n (f _)) h ∙ sym (ap (λ is. with_parts n (get_or (map f is) 0 0) (get_or (map f is) 1 0)) e) ∙ by_parts f n
