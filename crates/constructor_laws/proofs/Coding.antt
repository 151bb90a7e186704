-- A node whose parts are nodes of the pool and whose number, literal or exponent is in range may stand at the count, is read back as it was written; if its exponent is short, it has a word of 64 bits.
-- Assumes nothing.
use mathlib.Core.Path.{◌≡◌, refl}
use mathlib.Core.Bool.{true, and-eq-true_iff}
use Prim.Native.Nat.{ℕ, ◌≤◌, ◌<◌}
use native.Mathlib.Omega.{arith}
use borrow.Author.Tests.{le-leb, lt-ltb}
use Rattle.literal.specs.Literal.{is_literal}
use Rattle.literal.proofs.Theorems.{literal_word_read}
use Rattle.pool.specs.declared.node.Node.{Node}
use Rattle.pool.specs.declared.node.Node.TheVariants.{Empty, Variable, Lit, Add, Mul, Div, Exp, Log, Pow, Max}
use Rattle.pool.specs.Nodes.{greatest_variable, least_exponent, greatest_exponent, half, pair, low_of, high_of, decode, kind_of, word_of, parts, all_below, is_node, may_stand_at}
use Rattle.constructor_laws.proofs.Rules.{AllBelow, below_all, all_below_more}

-- what the table of kinds asks of a node's number, literal or exponent, but for an exponent's length
abbrev pub InRange : Node → Type 0
InRange Empty = ⊥
InRange (Variable v) = v ≤ greatest_variable
InRange (Lit z) = is_literal z ≡ true
InRange (Add a b) = Unit {0}
InRange (Mul a b) = Unit {0}
InRange (Div a b) = Unit {0}
InRange (Exp a) = Unit {0}
InRange (Log a) = Unit {0}
InRange (Pow a e) = least_exponent ≤ e
InRange (Max a b) = Unit {0}

-- an exponent, if there is one, has half a word
abbrev pub Short : Node → Type 0
Short Empty = Unit {0}
Short (Variable v) = Unit {0}
Short (Lit z) = Unit {0}
Short (Add a b) = Unit {0}
Short (Mul a b) = Unit {0}
Short (Div a b) = Unit {0}
Short (Exp a) = Unit {0}
Short (Log a) = Unit {0}
Short (Pow a e) = e ≤ greatest_exponent
Short (Max a b) = Unit {0}

-- a node that may be appended to n nodes
pub record Fine (n : ℕ) (node : Node) : Type 0 where
  pub below : AllBelow n (parts node)
  pub range : InRange node

pub fine_with_more : {n m : ℕ} {node : Node} → n ≤ m → Fine n node → Fine m node
fine_with_more {n} {m} {node} more f = record { below = all_below_more (parts node) more f.below; range = f.range }

in_range_is_node : (node : Node) → InRange node → is_node node ≡ true
in_range_is_node Empty r = absurd r
in_range_is_node (Variable v) r = refl
in_range_is_node (Lit z) r = refl
in_range_is_node (Add a b) r = refl
in_range_is_node (Mul a b) r = refl
in_range_is_node (Div a b) r = refl
in_range_is_node (Exp a) r = refl
in_range_is_node (Log a) r = refl
in_range_is_node (Pow a e) r = refl
in_range_is_node (Max a b) r = refl

pub fine_stands : {n : ℕ} {node : Node} → Fine n node → may_stand_at n node ≡ true
unfolding may_stand_at
fine_stands {n} {node} f =
    (and-eq-true_iff (is_node node) (all_below n (parts node))).1 (in_range_is_node node f.range, below_all n (parts node) f.below)

-- ---- both halves of a word

low_of_pair : (a b : ℕ) → a < half → low_of (pair a b) ≡ a
low_of_pair a b h = omega arith

high_of_pair : (a b : ℕ) → a < half → high_of (pair a b) ≡ b
high_of_pair a b h = omega arith

-- two parts, or a base and an exponent
pair_read : (make : ℕ → ℕ → Node) (a b : ℕ) → a < half → make (low_of (pair a b)) (high_of (pair a b)) ≡ make a b
pair_read make a b h = rw (low_of_pair a b h, high_of_pair a b h)

-- ---- a node and its word, in a pool whose numbers have half a word
module _ {n : ℕ} (small : n ≤ half) where
  short : {a : ℕ} → a < n → a < half
  short h = omega arith

  read_back : (node : Node) → AllBelow n (parts node) → InRange node → decode (kind_of node) (word_of node) ≡ node
  unfolding decode
  read_back Empty h r = absurd r
  read_back (Variable v) h r = rw (le-leb v greatest_variable r)
  read_back (Lit z) h r = rw (literal_word_read z r, r)
  read_back (Add a b) h r = pair_read Add a b (short h.0)
  read_back (Mul a b) h r = pair_read Mul a b (short h.0)
  read_back (Div a b) h r = pair_read Div a b (short h.0)
  read_back (Exp a) h r = rw (lt-ltb a half (short h.0))
  read_back (Log a) h r = rw (lt-ltb a half (short h.0))
  read_back (Pow a e) h r = rw (high_of_pair a e (short h.0), low_of_pair a e (short h.0), le-leb least_exponent e r)
  read_back (Max a b) h r = pair_read Max a b (short h.0)

  pub fine_is_read : {node : Node} → Fine n node → decode (kind_of node) (word_of node) ≡ node
  fine_is_read {node} f = read_back node f.below f.range
