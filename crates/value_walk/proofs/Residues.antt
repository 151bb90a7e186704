-- Evaluation by residues is a walk: the parts of a node come first, in their order, a node's residue goes by them alone, and it is below the modulus.
-- Assumes nothing.
use Rattle.std.specs.Prelude.{◌≡◌, refl, Bool, true, false, cond, ℕ, ◌+◌, ◌*◌, ◌^◌, ◌<◌, ltb, List, length, get_or, Ok, Err}
use mathlib.Core.List.{Memᴰ}
use native.Mathlib.Nat.{mod-lt}
use native.Mathlib.Omega.{arith}
use borrow.Author.Tests.{ltb-true}
use Rattle.refusals.specs.Refusals.{no_value}
use Rattle.residue.specs.Residue.{Divided, Modulus, divides_to, provided, quotient_of}
use Rattle.residue.proofs.Search.{Sought, sought}
use Rattle.residue.proofs.Search.Sought.{found, missing}
use Rattle.residue.proofs.Theorems.{residue_below_lem}
use Rattle.pool.specs.Nodes.{parts}
use Rattle.pool.specs.declared.node.Node.{Node}
use Rattle.pool.specs.declared.node.Node.TheVariants.{Empty, Variable, Lit, Add, Mul, Div, Exp, Log, Pow, Max}
use Rattle.walks.specs.EvaluateResidue.{one, both, residue_node}
use Rattle.value_walk.specs.Walk.{after, in_turn, NodeLaws}

-- an answer that is a residue, or a refusal
abbrev Below : ℕ → Divided → Type 0
Below m (Ok x) = x < m
Below m (Err k) = Unit

module _ (m : ℕ) where
  one_below : (r : Divided) (next : ℕ → Divided) → ((x : ℕ) → Below m (next x)) → Below m (one r next)
  one_below (Ok x) next h = h x
  one_below (Err k) next h = tt

  both_below : (r s : Divided) (next : ℕ → ℕ → Divided) → ((x y : ℕ) → Below m (next x y)) → Below m (both r s next)
  both_below r s next h = one_below r (λ x. one s (λ y. next x y)) (λ x. one_below s (λ y. next x y) (λ y. h x y))

  sought_below : {passes : ℕ → Bool} {r : Divided} → Sought m passes r → Below m r
  sought_below (found q h e) = h
  sought_below (missing f) = tt

  provided_below : (r other : Divided) → Below m other → Below m (provided r other)
  provided_below (Ok q) other h = h
  provided_below (Err k) other h = tt

  quotient_below : (x y : ℕ) → Below m (quotient_of m x y)
  unfolding quotient_of
  quotient_below x y = provided_below (divides_to m 1 y) (divides_to m x y) (sought_below (sought m _))

  module _ (modulus : Modulus m) (values : List ℕ) (residues : (v : ℕ) → v < length values → get_or values v 0 < m) where
    variable_below : (v : ℕ) (t : Bool) → ltb v (length values) ≡ t → Below m (cond t (Ok (get_or values v 0)) (Err no_value))
    variable_below v true e = residues v (ltb-true v (length values) e)
    variable_below v false e = tt

    node_below : (down : ℕ → Divided) (n : Node) → Below m (residue_node m values down n)
    node_below down Empty = tt
    node_below down (Variable v) = variable_below v (ltb v (length values)) refl
    node_below down (Lit z) = residue_below_lem m z modulus.least
    node_below down (Add a b) = both_below (down a) (down b) _ (λ x y. mod-lt (x + y) (omega (arith, modulus.least)))
    node_below down (Mul a b) = both_below (down a) (down b) _ (λ x y. mod-lt (x * y) (omega (arith, modulus.least)))
    node_below down (Div a b) = both_below (down a) (down b) _ quotient_below
    node_below down (Exp a) = one_below (down a) _ (λ x. tt)
    node_below down (Log a) = one_below (down a) _ (λ x. tt)
    node_below down (Pow a e) = one_below (down a) _ (λ x. mod-lt (x ^ e) (omega (arith, modulus.least)))
    node_below down (Max a b) = both_below (down a) (down b) _ (λ x y. tt)

    -- whatever a node comes to is below the modulus
    pub fits : (down : ℕ → Divided) (n : Node) (x : ℕ) → residue_node m values down n ≡ Ok x → x < m
    fits down n x e = rw e at (node_below down n)

one_again : (v : Divided) (next : ℕ → Divided) → one v next ≡ after v (one v next)
one_again (Ok x) next = refl
one_again (Err k) next = refl

both_again : (v w : Divided) (next : ℕ → ℕ → Divided) → both v w next ≡ after v (after w (both v w next))
both_again (Ok x) (Ok y) next = refl
both_again (Ok x) (Err k) next = refl
both_again (Err k) w next = refl

module _ (m : ℕ) (values : List ℕ) where
  parts_first : (down : ℕ → Divided) (n : Node) → residue_node m values down n ≡ in_turn down (parts n) (residue_node m values down n)
  parts_first down Empty = refl
  parts_first down (Variable v) = refl
  parts_first down (Lit z) = refl
  parts_first down (Add a b) = both_again (down a) (down b) _
  parts_first down (Mul a b) = both_again (down a) (down b) _
  parts_first down (Div a b) = both_again (down a) (down b) _
  parts_first down (Exp a) = one_again (down a) _
  parts_first down (Log a) = one_again (down a) _
  parts_first down (Pow a e) = one_again (down a) _
  parts_first down (Max a b) = both_again (down a) (down b) _

  pub goes_by_parts : (down down' : ℕ → Divided) (n : Node) → ((a : ℕ) → Memᴰ a (parts n) → down a ≡ down' a) → residue_node m values down n ≡ residue_node m values down' n
  goes_by_parts down down' Empty same = refl
  goes_by_parts down down' (Variable v) same = refl
  goes_by_parts down down' (Lit z) same = refl
  goes_by_parts down down' (Add a b) same = rw (same a (Memᴰ.head refl), same b (Memᴰ.tail (Memᴰ.head refl)))
  goes_by_parts down down' (Mul a b) same = rw (same a (Memᴰ.head refl), same b (Memᴰ.tail (Memᴰ.head refl)))
  goes_by_parts down down' (Div a b) same = rw (same a (Memᴰ.head refl), same b (Memᴰ.tail (Memᴰ.head refl)))
  goes_by_parts down down' (Exp a) same = rw (same a (Memᴰ.head refl))
  goes_by_parts down down' (Log a) same = rw (same a (Memᴰ.head refl))
  goes_by_parts down down' (Pow a e) same = rw (same a (Memᴰ.head refl))
  goes_by_parts down down' (Max a b) same = rw (same a (Memᴰ.head refl), same b (Memᴰ.tail (Memᴰ.head refl)))

  pub laws : Modulus m → ((v : ℕ) → v < length values → get_or values v 0 < m) → NodeLaws (residue_node m values) (λ x. x < m)
  laws modulus residues =
      record {
        empty = λ down. refl;
        parts_first = parts_first;
        by_parts = goes_by_parts;
        fit = fits m modulus values residues;
      }
