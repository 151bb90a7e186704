-- Strips, places and the search for Exp and Log go by the shape of an expression alone.
-- Assumes nothing.
use mathlib.Core.Path.{◌≡◌, refl, sym, ap, ap₂, ◌∙◌}
use mathlib.Core.Bool.{false, ◌||◌}
use mathlib.Core.List.{List, [], ◌∷◌, ◌++◌, map}
use Prim.Native.Nat.{ℕ, ◌+◌, max}
use lib.Dec.{eqb}
use lib.ListN.{get_or}
use Rattle.pool.specs.Nodes.{parts}
use Rattle.pool.specs.Pool.{Pool, node_at}
use Rattle.pool.specs.Reaches.{reaches_at, is_exp_or_log}
use Rattle.pool.specs.declared.node.Node.{Node}
use Rattle.pool.specs.declared.node.Node.TheVariants.{Empty, Variable, Lit, Add, Mul, Div, Exp, Log, Pow, Max}
use Rattle.shape.specs.Shape.{rename}
use Rattle.shape.specs.Demand.{KeepsRules, SameShape}
use Rattle.shape.proofs.Lists.{All, all_first, all_rest}
use Rattle.shape.proofs.Pools.{falls_in}
use Rattle.shape.proofs.Renaming.{parts_rename}
use Rattle.shape_values.proofs.SameShape.{GoesByShape, at_the_root, reaches_by_shape}
use Rattle.key_strip.specs.Strip.{own_key, in_turn, node_strip, strip_of, places_for, node_places, places_of, has_exp_or_log}

-- a node's own key has no part's number in it
own_kept : (f : ℕ → ℕ) (n : Node) → own_key (rename f n) ≡ own_key n
own_kept f Empty = refl
own_kept f (Variable v) = refl
own_kept f (Lit z) = refl
own_kept f (Add a b) = refl
own_kept f (Mul a b) = refl
own_kept f (Div a b) = refl
own_kept f (Exp a) = refl
own_kept f (Log a) = refl
own_kept f (Pow a e) = refl
own_kept f (Max a b) = refl

-- answers that agree part by part, the parts of the second being renamed
in_turn_alike :
    (f : ℕ → ℕ) (down down' : ℕ → List ℕ) (is own : List ℕ) → All (λ a. down a ≡ down' (f a)) is → in_turn down is own ≡ in_turn down' (map f is) own
in_turn_alike f down down' [] own same = refl
in_turn_alike f down down' (a ∷ is) own same =
    let P : ℕ → Type 0 = λ a. down a ≡ down' (f a) in
    ap₂ (λ (xs ys : List ℕ). xs ++ ys) (all_first P a is same) (in_turn_alike f down down' is own (all_rest P a is same))

places_alike : (f : ℕ → ℕ) (down down' : ℕ → ℕ) (is : List ℕ) → All (λ a. down a ≡ down' (f a)) is → places_for down is ≡ places_for down' (map f is)
places_alike f down down' [] same = refl
places_alike f down down' (a ∷ []) same = all_first (λ a. down a ≡ down' (f a)) a [] same
places_alike f down down' (a ∷ b ∷ is) same =
    let P : ℕ → Type 0 = λ a. down a ≡ down' (f a) in
    ap₂ (λ (m n : ℕ). max m (n + 1)) (all_first P a (b ∷ is) same) (all_first P b is (all_rest P a (b ∷ is) same))

pub strip_by_shape : GoesByShape node_strip
strip_by_shape f down down' n same =
    in_turn_alike f down down' (parts n) (own_key n) same ∙ ap₂ (in_turn down') (sym (parts_rename f n)) (sym (own_kept f n))

pub places_by_shape : GoesByShape node_places
places_by_shape f down down' n same = places_alike f down down' (parts n) same ∙ ap (places_for down') (sym (parts_rename f n))

-- the kind that is tested begins the own key
pub exp_or_log_by_shape : GoesByShape (reaches_at is_exp_or_log)
exp_or_log_by_shape = reaches_by_shape is_exp_or_log (λ f n. ap (λ own. eqb (get_or own 0 0) 6 || eqb (get_or own 0 0) 7) (own_kept f n))

-- two pools that keep the rules, and two roots of one shape
module _ (P Q : Pool) (keeps : KeepsRules P) (keeps' : KeepsRules Q) (r s : ℕ) (shape : SameShape P r Q s) where
  pub same_shape_same_strip : strip_of (node_at P) r ≡ strip_of (node_at Q) s
  same_shape_same_strip = at_the_root [] strip_by_shape (falls_in P keeps) (falls_in Q keeps') r s shape

  pub same_shape_same_places : places_of (node_at P) r ≡ places_of (node_at Q) s
  same_shape_same_places = at_the_root 0 places_by_shape (falls_in P keeps) (falls_in Q keeps') r s shape

  pub same_shape_same_exp_or_log : has_exp_or_log (node_at P) r ≡ has_exp_or_log (node_at Q) s
  same_shape_same_exp_or_log = at_the_root false exp_or_log_by_shape (falls_in P keeps) (falls_in Q keeps') r s shape
