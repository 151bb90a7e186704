-- The source's fold makes the literals of the factorials: i - 1 factors are multiplied up to the literal (i - 1)!, so the product with i is i!.
-- Assumes nothing.
use Rattle.std.specs.Prelude.{Ok, Err}
use mathlib.Core.Bool.{Bool, true, false, cond}
use mathlib.Core.Path.{◌≡◌, refl, sym, ap, ◌∙◌}
use mathlib.Core.Logic.{◌≢◌}
use mathlib.Core.List.{List}
use Prim.Native.Nat.{ℕ, zero, suc, ◌-◌, ◌*◌, ◌≤◌, ◌<◌}
use native.Mathlib.Nat.{mul_comm, suc-mul}
use native.Mathlib.Omega.{arith}
use lib.IntN.{ℤ, pos, ◌*ℤ◌}
use lib.Dec.{leb}
use lib.ListN.{length, length-set}
use lib.Seq.{get_or-set_same}
use borrow.Author.Tests.{lt-ltb, le-leb, lt-leb, ne_eqb}
use Rattle.factorial.specs.Factorial.{factorial_of}
use Rattle.literal.specs.Literal.{is_literal, folded}
use Rattle.refusals.specs.Refusals.{out_of_range}
use Rattle.pool.specs.declared.node.Node.{Node}
use Rattle.pool.specs.declared.node.Node.TheVariants.{Lit}
use Rattle.pool.specs.Nodes.{kind_of, word_of}
use Rattle.pool.specs.Pool.{Pool, Out, limit, node_in, node_at, done, refused}
use Rattle.constructors.specs.Terms.{Term, #, return}
use Rattle.constructors.specs.Terms as terms
use Rattle.constructors.specs.Tables.{mul_lits, mul_table}
use Rattle.constructors.specs.Build.{calls, depth, build, literal}
use Rattle.constructor_laws.proofs.Growth.{appended, append_comes_to, appended_grown, earlier_same}
use Rattle.constructor_laws.proofs.Coding.{Fine, fine_is_read}
use Rattle.taylor.specs.Work.{Result, Work, bind, lit, from, one_lit, mul, at, fold}
use Rattle.taylor.specs.Expansion.{derivative}
use Rattle.taylor.specs.declared.expansion.Expansion.TheVariants.{Polynomial}
use Rattle.taylor_base.proofs.Steps.{bind_assoc}
use Rattle.taylor_derivative.specs.Factorials.{itself, product, factor, derivative_of}

-- tables as long as they are lent
pub record Long (P : Pool) : Type 0 where
  pub kinds_long : length P.kinds ≡ limit
  pub words_long : length P.words ≡ limit

-- a literal in such a pool
record Literal (z : ℤ) (a : ℕ) (P : Pool) : Type 0 where
  long : Long P
  there : a < P.count
  is : node_at P a ≡ Lit z

-- a literal that was made after P: what stood there stands there still
record Made_after (P : Pool) (z : ℤ) (a : ℕ) (Q : Pool) : Type 0 where
  made : Literal z a Q
  others : (w : ℤ) (b : ℕ) → Literal w b P → Literal w b Q

-- what holds of a result, if there is one
abbrev After : (ℕ → Pool → Type 0) → Result ℕ → Type 0
After H (done a Q) = H a Q
After H (refused k) = Unit {0}

bind_after : {A : Type 0} {H : ℕ → Pool → Type 0} (x : Result ℕ) (m n : ℕ → Work A) → After H x → ((a : ℕ) (Q : Pool) → H a Q → m a Q ≡ n a Q) → bind x m ≡ bind x n
bind_after (done a Q) m n h same = same a Q h
bind_after (refused k) m n h same = refl

after_bind : {H : ℕ → Pool → Type 0} (K : ℕ → Pool → Type 0) (x : Result ℕ) (m : ℕ → Work ℕ) → After H x → ((a : ℕ) (Q : Pool) → H a Q → After K (m a Q)) → After K (bind x m)
after_bind K (done a Q) m h next = next a Q h
after_bind K (refused k) m h next = tt

after_same : {H : ℕ → Pool → Type 0} (K : ℕ → Pool → Type 0) (x : Result ℕ) → After H x → ((a : ℕ) (Q : Pool) → H a Q → K a Q) → After K x
after_same K (done a Q) h next = next a Q h
after_same K (refused k) h next = tt

-- ---- making a literal
module _ (z : ℤ) (P : Pool) (long : Long P) where
  abbrev after : Pool
  after = appended (Lit z) P

  module _ (range : is_literal z ≡ true) (below : P.count < limit) where
    reads : node_at after P.count ≡ Lit z
    unfolding node_in
    reads =
        let k = get_or-set_same P.kinds P.count (kind_of (Lit z)) 0 (omega (arith, long.kinds_long)) in
        let w = get_or-set_same P.words P.count (word_of (Lit z)) 0 (omega (arith, long.words_long)) in
        let fine : Fine P.count (Lit z) = record { below = tt; range = range } in
        rw (lt-ltb P.count limit below, k, w) (fine_is_read (omega arith) fine)

    long_after : Long after
    long_after =
        record {
          kinds_long = length-set P.kinds P.count (kind_of (Lit z)) ∙ long.kinds_long;
          words_long = length-set P.words P.count (word_of (Lit z)) ∙ long.words_long;
        }

    is_made : Made_after P z P.count after
    is_made =
        record {
          made = record { long = long_after; there = omega arith; is = reads };
          others = λ w b l. record { long = long_after; there = omega (arith, l.there); is = earlier_same (appended_grown (Lit z) P below) b l.there ∙ l.is };
        }

  lit_made : After (Made_after P z) (lit z P)
  unfolding folded
  lit_made = go (is_literal z) refl
    where
      go : (t : Bool) → is_literal z ≡ t → After (Made_after P z) (literal (cond t (Ok z) (Err out_of_range)) P)
      go true e = append_comes_to (λ (o : Out). After (Made_after P z) o) (Lit z) P (λ room below. is_made e below) tt
      go false e = tt

-- ---- the product of two literals
mul_runs : (l r : ℕ) (P : Pool) (t : Term) → mul_table (node_at P) l r ≡ t → mul l r P ≡ build (calls (depth - 1)) t P
unfolding calls
mul_runs l r P t e = ap (λ (s : Term). build (calls (depth - 1)) s P) e

module _ (at : ℕ → Node) (l r : ℕ) where
  one_lit_kept : (b : ℕ) → 1 ≤ b → at l ≡ Lit (pos 1) → at r ≡ Lit (pos b) → mul_lits at l r ≡ return (# r)
  unfolding mul_lits
  one_lit_kept b h hl hr =
      let some : b ≢ 0 = λ e. omega (arith, e, h) in
      rw (hl, hr, ne_eqb b 0 some) refl

  two_lits_multiplied : (a b : ℕ) → 2 ≤ a → 2 ≤ b → at l ≡ Lit (pos a) → at r ≡ Lit (pos b) → mul_lits at l r ≡ return (terms.lit (pos a *ℤ pos b))
  unfolding mul_lits
  two_lits_multiplied a b g h hl hr =
      let a0 : a ≢ 0 = λ e. omega (arith, e, g) in
      let b0 : b ≢ 0 = λ e. omega (arith, e, h) in
      let a1 : a ≢ 1 = λ e. omega (arith, e, g) in
      let b1 : b ≢ 1 = λ e. omega (arith, e, h) in
      rw (hl, hr, ne_eqb a 0 a0, ne_eqb b 0 b0, ne_eqb a 1 a1, ne_eqb b 1 b1) refl

  table_of : (t : Term) → mul_lits at l r ≡ return t → mul_table at l r ≡ t
  table_of t e = rw e refl

one_times : (l r b : ℕ) (P : Pool) → 1 ≤ b → Literal (pos 1) l P → Literal (pos b) r P → mul l r P ≡ done r P
unfolding build
one_times l r b P h hl hr = mul_runs l r P (# r) (table_of (node_at P) l r (# r) (one_lit_kept (node_at P) l r b h hl.is hr.is))

two_times : (l r a b : ℕ) (P : Pool) → 2 ≤ a → 2 ≤ b → Literal (pos a) l P → Literal (pos b) r P → mul l r P ≡ lit (pos (a * b)) P
unfolding build
two_times l r a b P g h hl hr =
    mul_runs l r P (terms.lit (pos a *ℤ pos b)) (table_of (node_at P) l r (terms.lit (pos a *ℤ pos b)) (two_lits_multiplied (node_at P) l r a b g h hl.is hr.is))

-- ---- one factor more
at_least_two : (j : ℕ) → 2 ≤ factorial_of (suc (suc j))
unfolding factorial_of
at_least_two zero = omega arith
at_least_two (suc j) = omega (arith, at_least_two j, le_mul (suc (suc (suc j))) (factorial_of (suc (suc j))))
  where
    le_mul : (a b : ℕ) → b ≤ suc a * b
    le_mul a b = omega (arith, suc-mul a b)

products : (acc j n : ℕ) (Q : Pool) → Literal (pos (factorial_of j)) acc Q → Literal (pos (suc j)) n Q → mul acc n Q ≡ product (leb (suc j) itself) (suc j) n Q
unfolding factorial_of
products acc zero n Q h m = one_times acc n 1 Q (omega arith) h m
products acc (suc zero) n Q h m = one_times acc n 2 Q (omega arith) h m
products acc (suc (suc j)) n Q h m =
    let past : itself < suc (suc (suc j)) = omega arith in
    rw (lt-leb (suc (suc (suc j))) itself past)
    (two_times acc n (factorial_of (suc (suc j))) (suc (suc (suc j))) Q (at_least_two j) (omega arith) h m
    ∙ ap (λ (x : ℕ). lit (pos x) Q) (mul_comm (factorial_of (suc (suc j))) (suc (suc (suc j)))))

-- the source's step: acc * T::from(i)
abbrev source : ℕ → ℕ → Work ℕ
source acc i P = bind (from i P) (λ n. mul acc n)

module _ (acc j : ℕ) (P : Pool) (h : Literal (pos (factorial_of j)) acc P) where
  next_same : source acc (suc j) P ≡ factor acc (suc j) P
  next_same =
      bind_after (from (suc j) P) (λ n. mul acc n) (λ n. product (leb (suc j) itself) (suc j) n) (lit_made (pos (suc j)) P h.long)
      (λ n Q m. products acc j n Q (m.others (pos (factorial_of j)) acc h) m.made)

  next_literal : After (Literal (pos (factorial_of (suc j)))) (factor acc (suc j) P)
  unfolding factorial_of
  next_literal = after_bind (Literal (pos (factorial_of (suc j)))) (from (suc j) P) (λ n. product (leb (suc j) itself) (suc j) n) (lit_made (pos (suc j)) P h.long) (λ n Q m. is j n Q m.made)
    where
      is : (j n : ℕ) (Q : Pool) → Literal (pos (suc j)) n Q → After (Literal (pos (factorial_of (suc j)))) (product (leb (suc j) itself) (suc j) n Q)
      is zero n Q m = m
      is (suc zero) n Q m = m
      is (suc (suc j)) n Q m =
          let past : itself < suc (suc (suc j)) = omega arith in
          rw (lt-leb (suc (suc (suc j))) itself past) (after_same (Literal (pos (factorial_of (suc (suc (suc j)))))) (lit (pos (factorial_of (suc (suc (suc j))))) Q) (lit_made (pos (factorial_of (suc (suc (suc j))))) Q m.long) (λ a R d. d.made))

folds : (todo j acc : ℕ) (P : Pool) → Literal (pos (factorial_of j)) acc P → fold factor (suc j) todo acc P ≡ fold source (suc j) todo acc P
unfolding fold
folds zero j acc P h = refl
folds (suc todo) j acc P h =
    bind_after (factor acc (suc j) P) (fold factor (suc (suc j)) todo) (fold source (suc (suc j)) todo) (next_literal acc j P h) (λ a Q l. folds todo (suc j) a Q l)
    ∙ ap (λ (x : Result ℕ). bind x (fold source (suc (suc j)) todo)) (sym (next_same acc j P h))

-- the derivative by factorials is the source's
pub derivative_is : (cs : List ℕ) (k : ℕ) (P : Pool) → Long P → derivative_of cs k P ≡ derivative (Polynomial cs) k P
unfolding factorial_of
derivative_is cs k P long =
    bind_assoc (one_lit P) (fold factor 1 k) (λ f. mul f (at cs k))
    ∙ bind_after (one_lit P) (λ o Q. bind (fold factor 1 k o Q) (λ f. mul f (at cs k))) (λ o Q. bind (fold source 1 k o Q) (λ f. mul f (at cs k))) (lit_made (pos 1) P long)
    (λ o Q m. ap (λ (x : Result ℕ). bind x (λ f. mul f (at cs k))) (folds k 0 o Q m.made))

-- what one factor makes
module _ (i n : ℕ) (P : Pool) where
  pub is_itself : i ≤ itself → done n P ≡ product (leb i itself) i n P
  is_itself h = rw (le-leb i itself h) refl

  pub is_new : itself < i → lit (pos (factorial_of i)) P ≡ product (leb i itself) i n P
  is_new h = rw (lt-leb i itself h) refl
