-- Work that keeps the rules of the pool and gives a result with which an aim is met: one piece after another does. What an aim is, and what meets it, is left open: a node of a value meets that value; where all that is asked is that a node be there, or that it be of some kinds, there is one aim.
-- Assumes nothing.
use mathlib.Core.Path.{◌≡◌, subst}
use mathlib.Core.List.{List, [], ◌∷◌}
use Prim.Native.Nat.{ℕ, zero, suc, ◌<◌}
use native.Mathlib.Omega.{arith}
use lib.ListN.{get_or, set}
use lib.Seq.{get_or-set_same}
use borrow.Author.Tests.{lt-ltb}
use Rattle.pool.specs.declared.node.Node.{Node}
use Rattle.pool.specs.Nodes.{kind_of, word_of}
use Rattle.pool.specs.Pool.{Pool, Out, Result, done, refused, Work, bind, append, node_at, node_in, limit}
use Rattle.constructor_laws.specs.Grown.{Grown}
use Rattle.constructor_laws.specs.Keeps.{Keeps, KeptBy}
use Rattle.constructor_laws.proofs.Growth.{grown_by_nothing, grown_by_both, appended, append_comes_to}
use Rattle.constructor_laws.proofs.Rules.{rules_of}
use Rattle.constructor_laws.proofs.Coding.{Fine, fine_is_read}
use Rattle.constructor_laws.proofs.Appending.{append_kept}

-- the aims that results of the type B may meet
pub record Aims (B : Type 0) : Type 1 where
  pub Aim : Type 0
  pub Meets : Aim → Pool → B → Type 0
  -- an aim that is met stays so as the pool grows
  pub later : {a : Aim} {P Q : Pool} {x : B} → Keeps P → Grown P Q → Meets a P x → Meets a Q x

-- work on P that was refused, or came by the rules to a result of which S holds in the pool that it left
pub data Gives {B : Type 0} (P : Pool) (S : Pool → B → Type 0) : Result Pool B → Type 0 where
  gave : {x : B} {Q : Pool} → Keeps Q → Grown P Q → S Q x → Gives P S (done x Q)
  ended : {k : ℕ} → Gives P S (refused k)

-- what is known of an accepted answer
pub record Gave {B : Type 0} (P : Pool) (S : Pool → B → Type 0) (x : B) (Q : Pool) : Type 0 where
  pub keeps : Keeps Q
  pub grown : Grown P Q
  pub is : S Q x

module _ {B : Type 0} {P : Pool} where
  -- what is known from the grown pool on is known from the first on
  pub gives_from : {Q : Pool} {S : Pool → B → Type 0} {r : Result Pool B} → Grown P Q → Gives Q S r → Gives P S r
  gives_from g (gave k h s) = gave k (grown_by_both g h) s
  gives_from g ended = ended

  pub gives_weaker : {S T : Pool → B → Type 0} {r : Result Pool B} → ((Q : Pool) (x : B) → Grown P Q → S Q x → T Q x) → Gives P S r → Gives P T r
  gives_weaker f (gave {x} {Q} k g s) = gave k g (f Q x g s)
  gives_weaker f ended = ended

  -- a result that is there already
  pub gives_here : {S : Pool → B → Type 0} {x : B} → Keeps P → S P x → Gives P S (done x P)
  gives_here k s = gave k (grown_by_nothing P) s

  pub accepted : {S : Pool → B → Type 0} {r : Result Pool B} {x : B} {Q : Pool} → Gives P S r → r ≡ done x Q → Gave P S x Q
  accepted {S} {x = x} {Q} h e = go (subst (Gives P S) e h)
    where
      go : Gives P S (done x Q) → Gave P S x Q
      go (gave k g s) = record { keeps = k; grown = g; is = s }

-- one piece of work, and then another
pub gives_next :
    {B C : Type 0} {P : Pool} {S : Pool → B → Type 0} {T : Pool → C → Type 0} {r : Result Pool B} {next : B → Work C}
    → Gives P S r
    → ((x : B) (Q : Pool) → Keeps Q → Grown P Q → S Q x → Gives Q T (next x Q))
    → Gives P T (bind r next)
gives_next (gave {x} {Q} k g s) go = gives_from g (go x Q k g s)
gives_next ended go = ended

-- a node that was appended is read
pub appended_node : {P : Pool} {x : Node} → Keeps P → P.count < limit → Fine P.count x → node_at (appended x P) P.count ≡ x
unfolding node_in
appended_node {P} {x} k below fine =
    let rules = rules_of k in
    rw
    (lt-ltb P.count limit below, get_or-set_same P.kinds P.count (kind_of x) 0 (omega (arith, rules.kinds_long)), get_or-set_same P.words P.count (word_of x) 0 (omega (arith, rules.words_long)))
    (fine_is_read (omega arith) fine)

-- appending a node gives whatever holds of the node where it stands
pub append_gives :
    {P : Pool} {x : Node} {S : Pool → ℕ → Type 0}
    → Keeps P → Fine P.count x
    → ((Q : Pool) → Keeps Q → Grown P Q → P.count < Q.count → node_at Q P.count ≡ x → S Q P.count)
    → Gives P S (append x P)
append_gives {P} {x} {S} k fine holds =
    append_comes_to (λ o. KeptBy P o → Gives P S o) x P
    (λ room below kept. gave kept.keeps kept.grown (holds (appended x P) kept.keeps kept.grown kept.there (appended_node k below fine)))
    (λ kept. ended)
    (append_kept x P k fine)

-- ---- where the aim is to be a node of the pool

pub there_later : {P Q : Pool} {i : ℕ} → Keeps P → Grown P Q → i < P.count → i < Q.count
there_later k g h = omega (arith, g.no_fewer)

abbrev pub standing : Aims ℕ
standing = record { Aim = Unit {0}; Meets = λ u P i. i < P.count; later = there_later }

pub kept_gives : {P : Pool} (o : Out) → KeptBy P o → Gives P (standing.Meets tt) o
kept_gives (done i Q) k = gave k.keeps k.grown k.there
kept_gives (refused r) k = ended

pub gives_kept : {P : Pool} {o : Out} → Gives P (standing.Meets tt) o → KeptBy P o
gives_kept (gave k g h) = record { grown = g; keeps = k; there = h }
gives_kept ended = tt

-- ---- results that are kept in a list

-- a fact of each entry of a list still holds when one entry is set
pub set_entry : {B : Type 0} (other : B) (H : ℕ → B → Type 0) (l : List B) (i : ℕ) (v : B) → H i v → ((j : ℕ) → H j (get_or l j other)) → (j : ℕ) → H j (get_or (set l i v) j other)
set_entry other H [] i v h all j = all j
set_entry other H (x ∷ l) zero v h all zero = h
set_entry other H (x ∷ l) zero v h all (suc j) = all (suc j)
set_entry other H (x ∷ l) (suc i) v h all zero = all zero
set_entry other H (x ∷ l) (suc i) v h all (suc j) = set_entry other (λ k. H (suc k)) l i v h (λ k. all (suc k)) j
