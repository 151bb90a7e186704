-- The table of kinds both ways: which nodes it has, that a node's kind and word give the node back, and that a kind and a word that give a node are the node's own.
-- Assumes nothing.
use mathlib.Core.Path.{◌≡◌, refl, sym, ap, ap₂, ◌∙◌, subst⁻¹}
use mathlib.Core.Bool.{Bool, true, false, false≢true, cond}
use mathlib.Core.List.{[], ◌∷◌}
use Prim.Native.Nat.{ℕ, ◌+◌, ◌*◌, ◌/◌, ◌%◌, ◌^◌, ◌<◌, ◌≤◌}
use native.Mathlib.Omega.{arith}
use lib.Dec.{leb, ltb, eqb}
use lib.IntN.{nat_abs}
use borrow.Author.Tests.{eqb-true, leb-true, ltb-true, le-leb, lt-ltb}
use mir.Syntax.{w64}
use mir.ValLaws.{of_z_fits}
use Rattle.literal.specs.Literal.{is_literal, signed, greatest}
use Rattle.literal.proofs.Theorems.{literal_word_read, word_of_number_of}
use Rattle.literal.proofs.Folds.{literal_fits}
use Rattle.pool.specs.Nodes.{decode, kind_of, word_of, parts, is_node, half, low_of, high_of, greatest_variable, least_exponent}
use Rattle.pool.specs.declared.node.Node.{Node}
use Rattle.pool.specs.declared.node.Node.TheVariants.{Empty, Variable, Lit, Add, Mul, Div, Exp, Log, Pow, Max}
use Rattle.shape.specs.Shape.{rename}
use Rattle.shape.proofs.Lists.{All, here, further}

-- the nodes that the table has
abbrev pub Valid : Node → Type 0
Valid Empty = ⊥
Valid (Variable v) = v ≤ greatest_variable
Valid (Lit z) = is_literal z ≡ true
Valid (Add a b) = (a < half) × (b < half)
Valid (Mul a b) = (a < half) × (b < half)
Valid (Div a b) = (a < half) × (b < half)
Valid (Exp a) = a < half
Valid (Log a) = a < half
Valid (Pow a n) = (a < half) × (n < half) × (least_exponent ≤ n)
Valid (Max a b) = (a < half) × (b < half)

-- a kind and a word that give a node
abbrev Own : ℕ → ℕ → Node → Type 0
Own k w n = Valid n × (kind_of n ≡ k) × (word_of n ≡ w)

by_test : (R : Node → Type 0) (t : Bool) (x y : Node) → (t ≡ true → is_node x ≡ true → R x) → (is_node y ≡ true → R y) → is_node (cond t x y) ≡ true → R (cond t x y)
by_test R true x y f g h = f refl h
by_test R false x y f g h = g h

halves : (w : ℕ) → w < 2 ^ 64 → (low_of w < half) × (high_of w < half)
halves w l = (omega arith, omega arith)

joined : (w : ℕ) → low_of w + half * high_of w ≡ w
joined w = omega arith

pub decoded : (k w : ℕ) → w < 2 ^ 64 → is_node (decode k w) ≡ true → Valid (decode k w) × (kind_of (decode k w) ≡ k) × (word_of (decode k w) ≡ w)
unfolding decode
decoded k w l =
    let none : is_node Empty ≡ true → Own k w Empty = λ h. absurd (false≢true h) in
    by_test (Own k w) (eqb k 1) _ _
    (λ e. by_test (Own k w) (leb w greatest_variable) _ _ (λ f h. (leb-true w greatest_variable f, sym (eqb-true k 1 e), refl)) none)
    (by_test (Own k w) (eqb k 2) _ _
    (λ e. by_test (Own k w) (is_literal (signed w)) _ _ (λ f h. (f, sym (eqb-true k 2 e), word_of_number_of w (record { fits = l }))) none)
    (by_test (Own k w) (eqb k 3) _ _ (λ e h. (halves w l, sym (eqb-true k 3 e), joined w))
    (by_test (Own k w) (eqb k 4) _ _ (λ e h. (halves w l, sym (eqb-true k 4 e), joined w))
    (by_test (Own k w) (eqb k 5) _ _ (λ e h. (halves w l, sym (eqb-true k 5 e), joined w))
    (by_test (Own k w) (eqb k 6) _ _
    (λ e. by_test (Own k w) (ltb w half) _ _ (λ f h. (ltb-true w half f, sym (eqb-true k 6 e), refl)) none)
    (by_test (Own k w) (eqb k 7) _ _
    (λ e. by_test (Own k w) (ltb w half) _ _ (λ f h. (ltb-true w half f, sym (eqb-true k 7 e), refl)) none)
    (by_test (Own k w) (eqb k 8) _ _
    (λ e. by_test (Own k w) (leb least_exponent (high_of w)) _ _
    (λ f h. (((halves w l).0, (halves w l).1, leb-true least_exponent (high_of w) f), sym (eqb-true k 8 e), joined w)) none)
    (by_test (Own k w) (eqb k 9) _ _ (λ e h. (halves w l, sym (eqb-true k 9 e), joined w)) none))))))))

low_of_pair : (a b : ℕ) → a < half → (a + half * b) % half ≡ a
low_of_pair a b l = omega arith

high_of_pair : (a b : ℕ) → a < half → (a + half * b) / half ≡ b
high_of_pair a b l = omega arith

both_of_pair : (make : ℕ → ℕ → Node) (a b : ℕ) → a < half → make ((a + half * b) % half) ((a + half * b) / half) ≡ make a b
both_of_pair make a b l = ap₂ make (low_of_pair a b l) (high_of_pair a b l)

pub decode_own : (n : Node) → Valid n → decode (kind_of n) (word_of n) ≡ n
unfolding decode
decode_own Empty v = absurd v
decode_own (Variable i) v = rw (le-leb i greatest_variable v)
decode_own (Lit z) v = subst⁻¹ (λ x. cond (is_literal x) (Lit x) Empty ≡ Lit z) (literal_word_read z v) (rw v)
decode_own (Add a b) v = both_of_pair Add a b v.0
decode_own (Mul a b) v = both_of_pair Mul a b v.0
decode_own (Div a b) v = both_of_pair Div a b v.0
decode_own (Exp a) v = rw (lt-ltb a half v)
decode_own (Log a) v = rw (lt-ltb a half v)
decode_own (Pow a n) v =
    both_of_pair (λ i m. cond (leb least_exponent m) (Pow i m) Empty) a n v.0 ∙ ap (λ t. cond t (Pow a n) Empty) (le-leb least_exponent n v.2)
decode_own (Max a b) v = both_of_pair Max a b v.0

pair_fits : (a b : ℕ) → a < half → b < half → a + half * b < 2 ^ 64
pair_fits a b l m = omega arith

pub word_fits : (n : Node) → Valid n → word_of n < 2 ^ 64
word_fits Empty v = absurd v
word_fits (Variable i) v = omega arith
word_fits (Lit z) v = (of_z_fits w64 z (literal_fits z (leb-true (nat_abs z) greatest v))).fits
word_fits (Add a b) v = pair_fits a b v.0 v.1
word_fits (Mul a b) v = pair_fits a b v.0 v.1
word_fits (Div a b) v = pair_fits a b v.0 v.1
word_fits (Exp a) v = omega arith
word_fits (Log a) v = omega arith
word_fits (Pow a n) v = pair_fits a n v.0 v.1
word_fits (Max a b) v = pair_fits a b v.0 v.1

pub kind_fits : (n : Node) → kind_of n < 256
kind_fits Empty = omega arith
kind_fits (Variable i) = omega arith
kind_fits (Lit z) = omega arith
kind_fits (Add a b) = omega arith
kind_fits (Mul a b) = omega arith
kind_fits (Div a b) = omega arith
kind_fits (Exp a) = omega arith
kind_fits (Log a) = omega arith
kind_fits (Pow a n) = omega arith
kind_fits (Max a b) = omega arith

pub valid_is_node : (n : Node) → Valid n → is_node n ≡ true
valid_is_node Empty v = absurd v
valid_is_node (Variable i) v = refl
valid_is_node (Lit z) v = refl
valid_is_node (Add a b) v = refl
valid_is_node (Mul a b) v = refl
valid_is_node (Div a b) v = refl
valid_is_node (Exp a) v = refl
valid_is_node (Log a) v = refl
valid_is_node (Pow a n) v = refl
valid_is_node (Max a b) v = refl

two : (f : ℕ → ℕ) (a b : ℕ) → All (λ i. f i < half) (a ∷ b ∷ []) → (f a < half) × (f b < half)
two f a b h = (h a (here a (b ∷ [])), h b (further a (b ∷ []) b (here b [])))

-- renamed parts that fit leave a node in the table
pub valid_rename : (f : ℕ → ℕ) (n : Node) → Valid n → All (λ i. f i < half) (parts n) → Valid (rename f n)
valid_rename f Empty v h = v
valid_rename f (Variable i) v h = v
valid_rename f (Lit z) v h = v
valid_rename f (Add a b) v h = two f a b h
valid_rename f (Mul a b) v h = two f a b h
valid_rename f (Div a b) v h = two f a b h
valid_rename f (Exp a) v h = h a (here a [])
valid_rename f (Log a) v h = h a (here a [])
valid_rename f (Pow a n) v h = (h a (here a []), v.1, v.2)
valid_rename f (Max a b) v h = two f a b h
