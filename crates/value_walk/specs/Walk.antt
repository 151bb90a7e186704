-- A walk that keeps the value of each visited node, for values of any kind. This describes the code and what it asks of the values: what a value is, is in
-- the specs of `walks`.
-- Assumes nothing.
use Rattle.std.specs.Prelude.{◌≡◌, Bool, true, false, cond, ℕ, ltb, zero, suc, ◌<◌, List, [], ◌∷◌, length, get_or, Option, Some, None, Result, Ok, Err}
use mathlib.Core.List.{Memᴰ}
use Rattle.refusals.specs.Refusals.{broken_pool, no_value}
use Rattle.pool.specs.Pool.{limit}
use Rattle.pool.specs.Nodes.{parts}
use Rattle.pool.specs.Fold.{fold_nodes}
use Rattle.pool.specs.declared.node.Node.{Node}
use Rattle.pool.specs.declared.node.Node.TheVariants.{Empty}

-- once a part is done: its refusal, or on
abbrev pub after : {A : Type 0} → Result A ℕ → Result A ℕ → Result A ℕ
after (Ok x) next = next
after (Err k) next = Err k

-- the parts in their order, up to the first that is refused
abbrev pub in_turn : {A : Type 0} → (ℕ → Result A ℕ) → List ℕ → Result A ℕ → Result A ℕ
in_turn down [] last = last
in_turn down (a ∷ more) last = after (down a) (in_turn down more last)

-- what a walk needs of what is done at a node: its parts come first, it goes by them alone, and what it gives fits
pub record NodeLaws {A : Type 0} (node : (ℕ → Result A ℕ) → Node → Result A ℕ) (Fits : A → Type 0) : Type 0 where
  pub empty : (down : ℕ → Result A ℕ) → node down Empty ≡ Err broken_pool
  pub parts_first : (down : ℕ → Result A ℕ) (n : Node) → node down n ≡ in_turn down (parts n) (node down n)
  pub by_parts : (down down' : ℕ → Result A ℕ) (n : Node) → ((a : ℕ) → Memᴰ a (parts n) → down a ≡ down' a) → node down n ≡ node down' n
  pub fit : (down : ℕ → Result A ℕ) (n : Node) (x : A) → node down n ≡ Ok x → Fits x

-- what a node comes to
abbrev pub value_of : {A : Type 0} → ((ℕ → Result A ℕ) → Node → Result A ℕ) → (ℕ → Node) → ℕ → Result A ℕ
value_of node at = fold_nodes (Err broken_pool) node at

abbrev pub told : {A : Type 0} → Option A → Result A ℕ
told (Some x) = Ok x
told None = Err broken_pool

-- the entry at a number, if the table reaches there
abbrev pub nth : {A : Type 0} → List A → ℕ → Option A
nth [] i = None
nth (x ∷ xs) zero = Some x
nth (x ∷ xs) (suc i) = nth xs i

-- 15. a variable's entry in the table of values, of any kind: what the table is read with past its end does not matter
abbrev pub value_given : {A : Type 0} → A → List A → ℕ → Result A ℕ
value_given other values v = cond (ltb v (length values)) (Ok (get_or values v other)) (Err no_value)

-- the table of values, read as answers
abbrev pub in_table : {A : Type 0} → List A → ℕ → Result A ℕ
in_table kept a = told (nth kept a)

-- the tables have this value of node a, which is marked
pub record Has {A : Type 0} (kept : List A) (seen : List Bool) (a : ℕ) (x : A) : Type 0 where
  pub mark : get_or seen a false ≡ true
  pub value : nth kept a ≡ Some x

-- the table has a value of node a, and it fits
pub record Kept {A : Type 0} (Fits : A → Type 0) (kept : List A) (a : ℕ) : Type 0 where
  pub within : a < length kept
  pub value : A
  pub is : nth kept a ≡ Some value
  pub fit : Fits value

-- it has values of all these nodes
abbrev pub Ready : {A : Type 0} → (A → Type 0) → List A → List ℕ → Type 0
Ready Fits kept [] = Unit
Ready Fits kept (a ∷ more) = Kept Fits kept a × Ready Fits kept more

-- "keep each visited node's result for that call": where there is a mark, the value beside it is right
pub record Keeps {A : Type 0} (node : (ℕ → Result A ℕ) → Node → Result A ℕ) (at : ℕ → Node) (kept : List A) (seen : List Bool) : Type 0 where
  pub long : length kept ≡ limit
  pub marks : length seen ≡ limit
  pub right : (j : ℕ) (x : A) → Has kept seen j x → value_of node at j ≡ Ok x

-- the walk was at node i and answers r: the node's value is kept, or it is refused; and what was kept still is
pub record Walked {A : Type 0} (node : (ℕ → Result A ℕ) → Node → Result A ℕ) (at : ℕ → Node) (i : ℕ) (r : Result Unit ℕ) (before : List A) (marked : List Bool) (after : List A) (seen : List Bool) : Type 0 where
  pub found : r ≡ Ok tt → (x : A) × Has after seen i x
  pub refusal : (k : ℕ) → r ≡ Err k → value_of node at i ≡ Err k
  pub keeps : Keeps node at after seen
  pub stay : (j : ℕ) (x : A) → Has before marked j x → Has after seen j x
