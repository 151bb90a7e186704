-- The values of the coefficients that follow a recurrence: formulas that are worked in turn come to nodes with their values, if each names nodes of the first pool and nodes that came before it. So what is shared has the values of its nodes, and each coefficient has the value of the book's formula.
-- Assumes nothing.
use mathlib.Core.Path.{◌≡◌, refl, sym, ap, ◌∙◌, subst}
use mathlib.Core.Bool.{Bool, true, false}
use mathlib.Core.Logic.{◌⊎◌, inl, inr}
use mathlib.Core.List.{List, [], ◌∷◌, ◌++◌}
use Prim.Native.Nat.{ℕ, zero, suc, ◌+◌, ◌-◌, ◌≤◌, ◌<◌}
use native.Mathlib.Omega.{arith}
use lib.Dec.{ltb}
use lib.ListN.{length, get_or, length-append, get_or-append}
use lib.Seq.{get_or-append-add}
use borrow.Author.Tests.{ltb-true, ltb-false}
use Rattle.pool.specs.Pool.{Pool, node_at, done, refused}
use Rattle.constructor_laws.specs.Grown.{Grown}
use Rattle.constructor_laws.specs.Keeps.{Keeps}
use Rattle.constructor_laws.proofs.Growth.{grown_by_nothing, grown_by_both}
use Rattle.taylor.specs.Work.{Result, bind, yield, at}
use Rattle.book.specs.Formula.{Formula, whole, work, works, row}
use Rattle.book.specs.Recurrence.{Recurrence}
use Rattle.constructor_laws.proofs.Giving.{Gave, accepted}
use Rattle.meaning.specs.Model.{Algebra, Model, Distributive}
use Rattle.meaning.specs.Value.{Values, value}
use Rattle.meaning.proofs.Running.{Has, has_later, has_same, Is}
use Rattle.taylor_meaning.specs.Series.{Fractions}
use Rattle.book_meaning.specs.Value.{formula_value, Shared}
use Rattle.book_meaning.proofs.Soundness.{related_formulas_have_one_value}
use Rattle.book_meaning.proofs.Working.{Names, names_more, Stands, formula_kept, work_has_its_value}

-- a node of which K holds, or one to which a formula before number i came
pub data Known (K : ℕ → Type 0) (xs : List ℕ) (i : ℕ) : ℕ → Type 0 where
  there : {j : ℕ} → K j → Known K xs i j
  before : (m : ℕ) → m < i → Known K xs i (at xs m)

-- a node that formula k of a recurrence may name: one of the first pool, one that is shared, or an earlier coefficient
pub data Earlier (P : Pool) (nodes cs : List ℕ) (k : ℕ) : ℕ → Type 0 where
  given : {j : ℕ} → j < P.count → Earlier P nodes cs k j
  shared : (m : ℕ) → m < length nodes → Earlier P nodes cs k (at nodes m)
  coefficient : (m : ℕ) → m < k → Earlier P nodes cs k (at cs m)

-- a refusal is no answer
no_answer : {A B : Type 0} {k : ℕ} {v : A} {Q : Pool} → ◌≡◌ {A = Result A} (refused k) (done v Q) → B
no_answer {A} {k = k} {v} {Q} h = absurd (never h)
  where
    never : ◌≡◌ {A = Result A} (refused k) (done v Q) → ⊥
    never h = let z : ◌≡◌ {A = ℕ} 0 1 = cc in omega arith

row_at : (f : ℕ → Formula) (first n k : ℕ) → k < n → get_or (row f first n) k (whole 0) ≡ f (first + k)
unfolding row
row_at f first zero k l = absurd (none l)
  where
    none : k < 0 → ⊥
    none l = omega arith
row_at f first (suc n) zero l = let same : first ≡ first + 0 = omega arith in ap f same
row_at f first (suc n) (suc k) l = let same : suc first + k ≡ first + suc k = omega arith in row_at f (suc first) n k (omega arith) ∙ ap f same

row_long : (f : ℕ → Formula) (first n : ℕ) → length (row f first n) ≡ n
unfolding row
row_long f first zero = refl
row_long f first (suc n) = ap suc (row_long f (suc first) n)

module _ {A : Algebra} (M : Model A) (env : Values A) where
  abbrev val : Pool → ℕ → A.carrier
  val P i = value A env (node_at P) i

  -- formulas that were worked in turn, each with its value
  pub record Valued (fs : List Formula) (xs : List ℕ) (P Q : Pool) : Type 0 where
    pub keeps : Keeps Q
    pub grown : Grown P Q
    pub each : (i : ℕ) → i < length fs → Has A env Q (at xs i) (formula_value A (val Q) (get_or fs i (whole 0)))

  -- one formula that was worked, its nodes having the values that they have in the end
  pub worked_has_its_value : (f : Formula) (P : Pool) {c : ℕ} {Q : Pool} → Keeps P → Stands P f → work f P ≡ done c Q → val Q c ≡ formula_value A (val Q) f
  worked_has_its_value f P k h e = let g = accepted (work_has_its_value M env f P k h) e in g.is.is ∙ sym (formula_kept A env k g.grown f h)

  -- one formula more, worked first
  module _
      (f : Formula) (fs : List Formula) (K : ℕ → Type 0) (P : Pool) (k : Keeps P) (below : (j : ℕ) → K j → j < P.count) (c : ℕ) (B : Pool) (e : work f P ≡ done c B) (cs : List ℕ)
      (named : (i : ℕ) → i < length (f ∷ fs) → Names (Known K (c ∷ cs) i) (get_or (f ∷ fs) i (whole 0))) where
    first_known : (j : ℕ) → Known K (c ∷ cs) 0 j → j < P.count
    first_known j (there h) = below j h
    first_known j (before m l) = absurd (none l)
      where
        none : m < 0 → ⊥
        none l = omega arith

    first_stands : Stands P f
    first_stands = names_more first_known f (named 0 (omega arith))

    first_gave : Gave P (Is A env (formula_value A (val P) f)) c B
    first_gave = accepted (work_has_its_value M env f P k first_stands) e

    below_then : (j : ℕ) → K j ⊎ (j ≡ c) → j < B.count
    below_then j (inl h) = omega (arith, below j h, first_gave.grown.no_fewer)
    below_then j (inr same) = omega (arith, same, first_gave.is.below)

    shift : (i j : ℕ) → Known K (c ∷ cs) (suc i) j → Known (λ j. K j ⊎ (j ≡ c)) cs i j
    shift i j (there h) = there (inl h)
    shift i j (before zero l) = there (inr refl)
    shift i j (before (suc m) l) = before m (omega arith)

    named_then : (i : ℕ) → i < length fs → Names (Known (λ j. K j ⊎ (j ≡ c)) cs i) (get_or fs i (whole 0))
    named_then i l = names_more (shift i) (get_or fs i (whole 0)) (named (suc i) (omega arith))

    cons_valued : {Q : Pool} → Valued fs cs B Q → Valued (f ∷ fs) (c ∷ cs) P Q
    cons_valued {Q} tail = record { keeps = tail.keeps; grown = grown_by_both first_gave.grown tail.grown; each = each }
      where
        each : (i : ℕ) → i < length (f ∷ fs) → Has A env Q (at (c ∷ cs) i) (formula_value A (val Q) (get_or (f ∷ fs) i (whole 0)))
        each zero l =
            has_same (sym (formula_kept A env k (grown_by_both first_gave.grown tail.grown) f first_stands)) (has_later first_gave.keeps tail.grown first_gave.is)
        each (suc i) l = tail.each i (omega arith)

  -- formulas that have their values, whenever they are worked in turn
  abbrev pub HaveTheirValues : List Formula → Type 1
  HaveTheirValues fs =
      (K : ℕ → Type 0) (P : Pool) → Keeps P → ((j : ℕ) → K j → j < P.count)
      → (xs : List ℕ) (Q : Pool) → works fs P ≡ done xs Q
      → ((i : ℕ) → i < length fs → Names (Known K xs i) (get_or fs i (whole 0)))
      → Valued fs xs P Q

  more_values : (f : Formula) (fs : List Formula) → HaveTheirValues fs → HaveTheirValues (f ∷ fs)
  unfolding works
  more_values f fs rest K P k below xs Q eq names = first (work f P) refl eq
    where
      second : (c : ℕ) (B : Pool) → work f P ≡ done c B → (r : Result (List ℕ)) → works fs B ≡ r → bind r (λ cs. yield (c ∷ cs)) ≡ done xs Q → Valued (f ∷ fs) xs P Q
      second c B e (done cs R) e' h =
          let all : c ∷ cs ≡ xs = cc in
          let last : R ≡ Q = cc in
          let named : (i : ℕ) → i < length (f ∷ fs) → Names (Known K (c ∷ cs) i) (get_or (f ∷ fs) i (whole 0)) = λ i l. subst (λ ys. Names (Known K ys i) (get_or (f ∷ fs) i (whole 0))) (sym all) (names i l) in
          subst (λ l. Valued (f ∷ fs) l P Q) all
          (cons_valued f fs K P k below c B e cs named
          (rest (λ j. K j ⊎ (j ≡ c)) B (first_gave f fs K P k below c B e cs named).keeps (below_then f fs K P k below c B e cs named) cs Q (e' ∙ ap (done cs) last) (named_then f fs K P k below c B e cs named)))
      second c B e (refused q) e' h = no_answer h

      first : (r : Result ℕ) → work f P ≡ r → bind r (λ c B. bind (works fs B) (λ cs. yield (c ∷ cs))) ≡ done xs Q → Valued (f ∷ fs) xs P Q
      first (done c B) e h = second c B e (works fs B) refl h
      first (refused q) e h = no_answer h

  pub works_have_their_values : (fs : List Formula) → HaveTheirValues fs
  unfolding works
  works_have_their_values [] K P k below xs Q eq names =
      let last : P ≡ Q = cc in
      subst (Valued [] xs P) last (record { keeps = k; grown = grown_by_nothing P; each = λ i l. absurd (none i l) })
    where
      none : (i : ℕ) → i < 0 → ⊥
      none i l = omega arith
  works_have_their_values (f ∷ fs) K P k below xs Q eq names = more_values f fs (works_have_their_values fs) K P k below xs Q eq names

  -- ---- recurrences

  module _
      {shares : List Formula} {nodes : List ℕ} {book ordered : ℕ → Formula} {n : ℕ} {cs : List ℕ} {P Q : Pool} (keeps : Keeps P)
      (long : length nodes ≡ length shares)
      (stands : (i : ℕ) → i < length shares → Stands P (get_or shares i (whole 0)))
      (names : (k : ℕ) → k < n → Names (Earlier P nodes cs k) (ordered k))
      (follows : Recurrence shares nodes book ordered n cs P Q) where
    all : List Formula
    all = shares ++ row ordered 0 n

    formula_at : (k : ℕ) → k < n → get_or all (length shares + k) (whole 0) ≡ ordered k
    unfolding all
    formula_at k l = let none : 0 + k ≡ k = omega arith in get_or-append-add shares (row ordered 0 n) k (whole 0) ∙ row_at ordered 0 n k l ∙ ap ordered none

    node_at_lem : (k : ℕ) → at (nodes ++ cs) (length shares + k) ≡ at cs k
    node_at_lem k = rw (← long) (get_or-append-add nodes cs k 0)

    known : (k j : ℕ) → Earlier P nodes cs k j → Known (λ j. j < P.count) (nodes ++ cs) (length shares + k) j
    known k j (given l) = there l
    known k j (shared m l) = subst (Known (λ j. j < P.count) (nodes ++ cs) (length shares + k)) (get_or-append nodes cs 0 m l) (before m (omega arith))
    known k j (coefficient m l) = subst (Known (λ j. j < P.count) (nodes ++ cs) (length shares + k)) (node_at_lem m) (before (length shares + m) (omega arith))

    all_named : (i : ℕ) → i < length all → Names (Known (λ j. j < P.count) (nodes ++ cs) i) (get_or all i (whole 0))
    unfolding all
    all_named i l = go (ltb i (length shares)) refl
      where
        go : (t : Bool) → ltb i (length shares) ≡ t → Names (Known (λ j. j < P.count) (nodes ++ cs) i) (get_or all i (whole 0))
        go true e =
            let m : i < length shares = ltb-true i (length shares) e in
            subst (Names (Known (λ j. j < P.count) (nodes ++ cs) i)) (sym (get_or-append shares (row ordered 0 n) (whole 0) i m)) (names_more (λ j h. there h) (get_or shares i (whole 0)) (stands i m))
        go false e =
            let past : length shares ≤ i = ltb-false i (length shares) e in
            let k : ℕ = i - length shares in
            let is : length shares + k ≡ i = omega arith in
            let less : k < n = omega (arith, l, length-append shares (row ordered 0 n), row_long ordered 0 n) in
            subst (λ m. Names (Known (λ j. j < P.count) (nodes ++ cs) m) (get_or all m (whole 0))) is
            (subst (Names (Known (λ j. j < P.count) (nodes ++ cs) (length shares + k))) (sym (formula_at k less)) (names_more (known k) (ordered k) (names k less)))

    valued : Valued all (nodes ++ cs) P Q
    unfolding all
    valued = works_have_their_values all (λ j. j < P.count) P keeps (λ j l. l) (nodes ++ cs) Q follows.works_in_turn all_named

    -- what is shared has the values of its nodes
    pub shared_have_their_values : Shared A (val Q) shares nodes
    unfolding all
    shared_have_their_values =
        record {
          same = λ i l.
              let h = valued.each i (omega (arith, l, length-append shares (row ordered 0 n))) in
              ap (formula_value A (val Q)) (sym (get_or-append shares (row ordered 0 n) (whole 0) i l)) ∙ sym h.is ∙ ap (val Q) (get_or-append nodes cs 0 i (omega arith));
        }

    -- coefficient k has the value of the recurrence in the Rust's order
    pub coefficient_has_its_value : (k : ℕ) → k < n → val Q (at cs k) ≡ formula_value A (val Q) (ordered k)
    unfolding all
    coefficient_has_its_value k l =
        let h = valued.each (length shares + k) (omega (arith, l, length-append shares (row ordered 0 n), row_long ordered 0 n)) in
        ap (val Q) (sym (node_at_lem k)) ∙ h.is ∙ ap (formula_value A (val Q)) (formula_at k l)

    -- and so of the book's, in every ring with fractions
    pub coefficient_has_the_books_value : Distributive A → Fractions A → (k : ℕ) → k < n → val Q (at cs k) ≡ formula_value A (val Q) (book k)
    coefficient_has_the_books_value D fractions k l =
        coefficient_has_its_value k l ∙ sym (related_formulas_have_one_value M D fractions (val Q) shared_have_their_values (follows.same k l))
