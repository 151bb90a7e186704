-- The machine's run of a node's strip, whatever stands in the places and whatever follows: it puts the node's value on top, or ends with its refusal, because a key does to places what the node does to its parts.
-- Assumes nothing.
use Rattle.std.specs.Prelude.{Ok, Err}
use mathlib.Core.Path.{◌≡◌, refl, sym, ap, ◌∙◌, fun_ext}
use mathlib.Core.Bool.{true, true≢false}
use mathlib.Core.List.{List, [], ◌∷◌, ◌++◌, append_assoc, append-nil}
use Prim.Native.Nat.{ℕ}
use native.Mathlib.Omega.{arith}
use lib.Ieee.{Float, binary64, add, mul, div}
use Rattle.double.specs.Double.{pow_of, max_of}
use Rattle.double.specs.Double.{Valued}
use Rattle.pool.specs.Nodes.{decode, parts}
use Rattle.pool.specs.declared.node.Node.{Node}
use Rattle.pool.specs.declared.node.Node.TheVariants.{Empty, Variable, Lit, Add, Mul, Div, Exp, Log, Pow, Max}
use Rattle.walks.specs.Evaluate.{one, both, evaluate_node}
use Rattle.shape.proofs.Lists.{All, here, further}
use Rattle.key_strip.specs.Strip.{node_strip, combines}
use Rattle.key_strip.specs.Machine.{key_of, keys_within, keys_of, run_from, run_strip}
use Rattle.key_strip.proofs.Taking.{Takes, variable_taken, literal_taken, exponent_taken, key_alone, code_taken}
use Rattle.key_strip.proofs.ByParts.{HasCode}

-- what is done after a node is done after its parts
one_more : (u : Valued) (f : Float → Valued) (next : Float → Valued) → one u (λ x. one (f x) next) ≡ one (one u f) next
one_more (Ok x) f next = refl
one_more (Err k) f next = refl

two_more : (u v : Valued) (f : Float → Float → Valued) (next : Float → Valued) → one u (λ x. one v (λ y. one (f x y) next)) ≡ one (both u v f) next
two_more (Ok x) (Ok y) f next = refl
two_more (Ok x) (Err k) f next = refl
two_more (Err k) v f next = refl

module _ (values : List Float) where
  -- these bytes leave the value v on top
  pub record Runs (v : Valued) (bs : List ℕ) : Type 0 where
    pub runs : (places : List Float) (rest : List ℕ) → run_from values places (keys_of (bs ++ rest)) ≡ one v (λ x. run_from values (x ∷ places) (keys_of rest))

  -- a key that takes no value, one, or the two topmost, the lower one being the left
  abbrev Gives : Node → Valued → Type 0
  Gives key v = (places : List Float) (more : List Node) → run_from values places (key ∷ more) ≡ one v (λ z. run_from values (z ∷ places) more)

  abbrev GivesOne : Node → (Float → Valued) → Type 0
  GivesOne key f = (x : Float) (places : List Float) (more : List Node) → run_from values (x ∷ places) (key ∷ more) ≡ one (f x) (λ z. run_from values (z ∷ places) more)

  abbrev GivesTwo : Node → (Float → Float → Valued) → Type 0
  GivesTwo key f =
      (x y : Float) (places : List Float) (more : List Node) → run_from values (y ∷ x ∷ places) (key ∷ more) ≡ one (f x y) (λ z. run_from values (z ∷ places) more)

  leaf_runs : {own : List ℕ} {key : Node} {v : Valued} → Takes own key → Gives key v → Runs v own
  leaf_runs key does =
      record { runs = λ places rest. ap (run_from values places) (key.takes rest) ∙ does places (keys_of rest) }

  raised_runs : {own base : List ℕ} {key : Node} {u : Valued} → Takes own key → (f : Float → Valued) → GivesOne key f → Runs u base → Runs (one u f) (base ++ own)
  raised_runs {own} {base} {u = u} key f does part =
      record {
        runs = λ places rest.
            ap (λ bs. run_from values places (keys_of bs)) (append_assoc base own rest)
            ∙ part.runs places (own ++ rest)
            ∙ ap (one u) (fun_ext (λ x. ap (run_from values (x ∷ places)) (key.takes rest) ∙ does x places (keys_of rest)))
            ∙ one_more u f (λ z. run_from values (z ∷ places) (keys_of rest));
      }

  -- the left part's value stands below the right one's
  combined_runs : {own left right : List ℕ} {key : Node} {u v : Valued} → Takes own key → (f : Float → Float → Valued) → GivesTwo key f → Runs u left → Runs v right
      → Runs (both u v f) (left ++ (right ++ own))
  combined_runs {own} {left} {right} {u = u} {v} key f does first second =
      record {
        runs = λ places rest.
            ap (λ bs. run_from values places (keys_of bs)) (append_assoc left (right ++ own) rest ∙ ap (λ bs. left ++ bs) (append_assoc right own rest))
            ∙ first.runs places (right ++ (own ++ rest))
            ∙ ap (one u) (fun_ext (λ x.
            second.runs (x ∷ places) (own ++ rest)
            ∙ ap (one v) (fun_ext (λ y. ap (run_from values (y ∷ x ∷ places)) (key.takes rest) ∙ does x y places (keys_of rest)))))
            ∙ two_more u v f (λ z. run_from values (z ∷ places) (keys_of rest));
      }

  -- a node whose parts' strips run
  module _ (strip : ℕ → List ℕ) (value : ℕ → Valued) where
    two_run : (code a b : ℕ) → combines code ≡ true → (f : Float → Float → Valued) → GivesTwo (key_alone code) f → All (λ i. Runs (value i) (strip i)) (a ∷ b ∷ [])
        → Runs (both (value a) (value b) f) (strip a ++ (strip b ++ (code ∷ [])))
    two_run code a b is f does part =
        combined_runs (code_taken code is).0 f does (part a (here a (b ∷ []))) (part b (further a (b ∷ []) b (here b [])))

    pub node_runs : (n : Node) → HasCode n → All (λ a. Runs (value a) (strip a)) (parts n) → Runs (evaluate_node values value n) (node_strip strip n)
    unfolding run_from key_of decode
    node_runs Empty c part = absurd c.0
    node_runs (Variable v) c part = leaf_runs (variable_taken v c.0) (λ places more. refl)
    node_runs (Lit z) c part = leaf_runs (literal_taken z c.0) (λ places more. refl)
    node_runs (Add a b) c part = two_run 3 a b refl (λ x y. Ok (add binary64 x y)) (λ x y places more. refl) part
    node_runs (Mul a b) c part = two_run 4 a b refl (λ x y. Ok (mul binary64 x y)) (λ x y places more. refl) part
    node_runs (Div a b) c part = two_run 5 a b refl (λ x y. Ok (div binary64 x y)) (λ x y places more. refl) part
    node_runs (Exp a) c part = absurd (true≢false c.1)
    node_runs (Log a) c part = absurd (true≢false c.1)
    node_runs (Pow a e) c part =
        raised_runs (exponent_taken e c.0.2 (omega arith)) (λ x. Ok (pow_of x e)) (λ x places more. refl) (part a (here a []))
    node_runs (Max a b) c part = two_run 9 a b refl (λ x y. Ok (max_of x y)) (λ x y places more. refl) part

  -- the value on top is the answer
  pub run_ends : {v : Valued} {bs : List ℕ} → Runs v bs → run_strip values bs ≡ v
  unfolding run_from keys_within
  run_ends {v} {bs} part = ap (run_strip values) (sym (append-nil bs)) ∙ part.runs [] [] ∙ last v
    where
      last : (v : Valued) → one v (λ x. run_from values (x ∷ []) []) ≡ v
      last (Ok x) = refl
      last (Err k) = refl
