-- Every accepted call of `taylor_coeffs` or `taylor_coeffs_at` follows the book: each node that is reached from the root has one expansion, and that of a product, a quotient, an exponential or a logarithm is worked from those of its parts by the recurrence.
-- Assumes nothing.
use Rattle.std.specs.Prelude.{Some, None}
use mathlib.Core.Path.{◌≡◌, refl, sym, ap, ◌∙◌, subst}
use mathlib.Core.Bool.{Bool, true, false, ◌||◌, false≢true}
use mathlib.Core.List.{List, [], ◌∷◌}
use Prim.Native.Nat.{ℕ, suc, ◌≤◌, ◌<◌}
use native.Mathlib.Omega.{arith}
use lib.Dec.{eqb, leb, ltb}
use lib.IntN.{ℤ}
use lib.ListN.{get_or, replicate, length-replicate}
use borrow.Author.Tests.{eqb-true, ltb-true, leb-true}
use Rattle.refusals.specs.Refusals.{unknown_node, unknown_variable, not_literal, wrong_order}
use Rattle.pool.specs.declared.node.Node.{Node}
use Rattle.pool.specs.declared.node.Node.TheVariants.{Empty, Variable, Lit, Add, Mul, Div, Exp, Log, Pow, Max}
use Rattle.pool.specs.Nodes.{parts, greatest_variable, all_below}
use Rattle.pool.specs.Pool.{Pool, limit, node_at, done, refused}
use Rattle.constructor_laws.specs.Keeps.{Keeps}
use Rattle.constructor_laws.proofs.Rules.{below_by_test, rules_of}
use Rattle.shape.specs.Shape.{has, Reach, root, part}
use Rattle.shape.proofs.Lists.{here}
use Rattle.taylor.specs.Work.{Result, Work}
use Rattle.taylor.specs.Expansion.{Expansion, add_to, power}
use Rattle.taylor.specs.declared.expansion.Expansion.TheVariants.{Constant}
use Rattle.taylor.specs.Expand.{Kept, State, state, Went, Point, is_point, expand_below, expanded, expand}
use Rattle.taylor.specs.Coefficients.{terms}
use Rattle.taylor_rules.proofs.Theorems.{expand_kept}
use Rattle.lent.specs.Call.{lent_pool}
use Rattle.lent_series.specs.declared.series.Series.{Series}
use Rattle.lent_series.specs.Series.{given}
use Rattle.engine_expand.specs.Expressions.{expand_work}
use Rattle.expand_laws.proofs.Holding.{came}
use Rattle.book_calls.specs.Follows.{ProductFollows, QuotientFollows, ExpFollows, LogFollows}
use Rattle.book_calls.specs.Calls.{Answered}
use Rattle.book_calls.specs.Walk.{AllFit, Between, VariableFollows, NodeFollows, Expanded}
use Rattle.book_calls.proofs.Follows.{kept_then, product_follows, quotient_follows, exponential_follows, logarithm_follows}
use Rattle.book_calls.proofs.Answers.{demanded, done_by, holds_of_the_answer}
use Rattle.book_calls.proofs.Walk.{OfTwo, OfOne, OfVariable, Explained, Right, walk_explained}

-- what is kept, and a constant where nothing is
abbrev expansion_in : Kept → Expansion
expansion_in None = Constant 0
expansion_in (Some e) = e

module _ (P : Pool) (v : ℕ) (x : Point) (order : ℕ) where
  module _ (results : List Kept) (Q : Pool) where
    abbrev of : ℕ → Expansion
    of i = expansion_in (get_or results i None)

    is_kept : (i : ℕ) {d : Expansion} → get_or results i None ≡ Some d → of i ≡ d
    is_kept i h = ap expansion_in h

    -- an operation on what is kept
    two_follow :
        (i : ℕ) {a b : ℕ} {op : Expansion → Expansion → Work Expansion} {d : Expansion} (Done : Pool → Pool → Expansion → Expansion → Expansion → Type 0)
        → ((A B : Pool) (s t e : Expansion) → Keeps A → AllFit A.count (s ∷ t ∷ []) → op s t A ≡ done e B → Done A B s t e)
        → get_or results i None ≡ Some d → OfTwo P v x order results Q a b op d → Between P Q (of a ∷ of b ∷ []) (λ A B. Done A B (of a) (of b) (of i))
    two_follow i Done follows k h =
        let w = h.worked in
        rw (h.left_kept, h.right_kept, k)
        (record { start = w.start; finish = w.finish; earlier = w.earlier; keeps = w.keeps; there = w.there; is = follows w.start w.finish h.left h.right _ w.keeps w.there w.is; later = w.later })

    one_follows :
        (i : ℕ) {a : ℕ} {op : Expansion → Work Expansion} {d : Expansion} (Done : Pool → Pool → Expansion → Expansion → Type 0)
        → ((A B : Pool) (s e : Expansion) → Keeps A → AllFit A.count (s ∷ []) → op s A ≡ done e B → Done A B s e)
        → get_or results i None ≡ Some d → OfOne P v x order results Q a op d → Between P Q (of a ∷ []) (λ A B. Done A B (of a) (of i))
    one_follows i Done follows k h =
        let w = h.worked in
        rw (h.only_kept, k)
        (record { start = w.start; finish = w.finish; earlier = w.earlier; keeps = w.keeps; there = w.there; is = follows w.start w.finish h.only _ w.keeps w.there w.is; later = w.later })

    module _ (i : ℕ) (d : Expansion) (k : get_or results i None ≡ Some d) where
      variable_follows : (t : Bool) → OfVariable P v x order Q i d t → VariableFollows P Q v x order of i t
      variable_follows true h = rw k h
      variable_follows false h = is_kept i k ∙ h

      node_follows : (y : Node) → Explained P v x order results Q i d y → NodeFollows P Q v x order of i y
      node_follows Empty h = h
      node_follows (Variable u) h = variable_follows (eqb u v) h
      node_follows (Lit z) h = is_kept i k ∙ h
      node_follows (Add a b) h = two_follow i (λ A B s t e. add_to s t A ≡ done e B) (λ A B s t e k fit eq. eq) k h
      node_follows (Mul a b) h = two_follow i ProductFollows (λ A B s t e k fit eq. product_follows k s t e fit.0 fit.1.0 eq) k h
      node_follows (Div a b) h = two_follow i QuotientFollows (λ A B s t e k fit eq. quotient_follows k s t e fit.0 fit.1.0 eq) k h
      node_follows (Exp a) h = one_follows i ExpFollows (λ A B s e k fit eq. exponential_follows k s e fit.0 eq) k h
      node_follows (Log a) h = one_follows i LogFollows (λ A B s e k fit eq. logarithm_follows k s e fit.0 eq) k h
      node_follows (Pow a n) h = one_follows i (λ A B s e. power s n A ≡ done e B) (λ A B s e k fit eq. eq) k h
      node_follows (Max a b) h = h

    -- ---- the parts of a node that is kept are kept

    abbrev IsKept : ℕ → Type 0
    IsKept j = (d : Expansion) × (get_or results j None ≡ Some d)

    had_in_one : (a j : ℕ) → IsKept a → has (a ∷ []) j ≡ true → IsKept j
    had_in_one a j ka h = go (eqb j a) refl h
      where
        go : (t : Bool) → eqb j a ≡ t → (t || false) ≡ true → IsKept j
        go true e h = subst IsKept (sym (eqb-true j a e)) ka
        go false e h = absurd (false≢true h)

    had_in_two : (a b j : ℕ) → IsKept a → IsKept b → has (a ∷ b ∷ []) j ≡ true → IsKept j
    had_in_two a b j ka kb h = go (eqb j a) refl h
      where
        go : (t : Bool) → eqb j a ≡ t → (t || has (b ∷ []) j) ≡ true → IsKept j
        go true e h = subst IsKept (sym (eqb-true j a e)) ka
        go false e h = had_in_one b j kb h

    part_kept : (i : ℕ) (d : Expansion) (j : ℕ) (y : Node) → Explained P v x order results Q i d y → has (parts y) j ≡ true → IsKept j
    part_kept i d j Empty h l = absurd h
    part_kept i d j (Variable u) h l = absurd (false≢true l)
    part_kept i d j (Lit z) h l = absurd (false≢true l)
    part_kept i d j (Add a b) h l = had_in_two a b j (h.left, h.left_kept) (h.right, h.right_kept) l
    part_kept i d j (Mul a b) h l = had_in_two a b j (h.left, h.left_kept) (h.right, h.right_kept) l
    part_kept i d j (Div a b) h l = had_in_two a b j (h.left, h.left_kept) (h.right, h.right_kept) l
    part_kept i d j (Exp a) h l = had_in_one a j (h.only, h.only_kept) l
    part_kept i d j (Log a) h l = had_in_one a j (h.only, h.only_kept) l
    part_kept i d j (Pow a n) h l = had_in_one a j (h.only, h.only_kept) l
    part_kept i d j (Max a b) h l = absurd h

  -- ---- a whole walk

  module _ (small : order < terms) (keeps : Keeps P) (variable : v ≤ greatest_variable) (from : ℕ) (inside : from < P.count) where
    abbrev start : State
    start = state P (replicate limit None)

    walk_follows : (e : Expansion) (T : State) → expand_below v x order (suc from) from start ≡ done e T → Expanded P T.pool v x order from e
    walk_follows e T eq =
        record {
          of = of T.results T.pool;
          answer = is_kept T.results T.pool from answer_kept;
          each = λ i reach. let k = reached i reach in node_follows T.results T.pool i k.0 k.1 (node_at P i) (right.explained i k.0 k.1);
        }
      where
        right : Right P v x order small T
        right = walk_explained P v x order small keeps variable from inside eq

        answer_kept : get_or T.results from None ≡ Some e
        answer_kept = (came v x order (suc from) from eq).there (omega (arith, length-replicate {A = Kept} limit None, (rules_of keeps).within))

        reached : (i : ℕ) → Reach (node_at P) (from ∷ []) i → IsKept T.results T.pool i
        reached i (root h) = had_in_one T.results T.pool from i (e, answer_kept) h
        reached i (part {i = m} r h) = let k = reached m r in part_kept T.results T.pool m k.0 i (node_at P m) (right.explained m k.0 k.1) h

    pub expand_follows_the_book : {e : Expansion} {Q : Pool} → expand from v x order P ≡ done e Q → Expanded P Q v x order from e
    expand_follows_the_book {e} {Q} eq = go (expand_below v x order (suc from) from start) refl eq
      where
        go : (w : Went) → expand_below v x order (suc from) from start ≡ w → expanded w ≡ done e Q → Expanded P Q v x order from e
        go (done d T) is h =
            let same : d ≡ e = cc in
            let last : T.pool ≡ Q = cc in
            subst (λ R. Expanded P R v x order from e) last (subst (Expanded P T.pool v x order from) same (walk_follows d T is))
        go (refused k) is h = absurd (never h)
          where
            never : ◌≡◌ {A = Result Expansion} (refused k) (done e Q) → ⊥
            never h = let z : ◌≡◌ {A = ℕ} 0 1 = cc in omega arith

-- the root is reached
pub root_follows_the_book : {P Q : Pool} {v : ℕ} {x : Point} {order from : ℕ} {e : Expansion} (h : Expanded P Q v x order from e) → NodeFollows P Q v x order h.of from (node_at P from)
root_follows_the_book {from = from} h = h.each from (root (here from []))

-- ---- the calls
module _ {ks ws : List ℕ} {n : ℕ} {r : Series} {ks' ws' : List ℕ} {n' : ℕ} (from v order : ℕ) where
  -- what holds of every accepted expansion of an expression holds of the answer
  pub expansion_holds :
      (x : Point) (H : Pool → Expansion → Type 0)
      → (Keeps (lent_pool ks ws n) → from < n → v ≤ greatest_variable → order < terms → (e : Expansion) (Q : Pool) → expand from v x order (lent_pool ks ws n) ≡ done e Q → H Q e)
      → Answered (expand_work from v x order) ks ws n r ks' ws' n'
      → H (lent_pool ks' ws' n') (given r)
  expansion_holds x H holds call =
      let done = done_by call in
      let inside = demanded (all_below n (from ∷ [])) unknown_node done.worked in
      let known = demanded (leb v greatest_variable) unknown_variable inside.1 in
      let fits = demanded (is_point x) not_literal known.1 in
      let small = demanded (ltb order terms) wrong_order fits.1 in
      let inside' : from < n = (below_by_test n (from ∷ []) inside.0).0 in
      let known' : v ≤ greatest_variable = leb-true v greatest_variable known.0 in
      let small' : order < terms = ltb-true order terms small.0 in
      let k = kept_then (expand_kept done.keeps from v x order inside' known' small') small.1 in
      holds_of_the_answer H done k.grown k.fits (holds done.keeps inside' known' small' done.expansion done.finish small.1)

  call_follows : (x : Point) → Answered (expand_work from v x order) ks ws n r ks' ws' n' → Expanded (lent_pool ks ws n) (lent_pool ks' ws' n') v x order from (given r)
  call_follows x =
      expansion_holds x (λ Q e. Expanded (lent_pool ks ws n) Q v x order from e) (λ keeps inside known small e Q eq. expand_follows_the_book (lent_pool ks ws n) v x order small keeps known from inside eq)

  pub coeffs_call_follows_the_book : Answered (expand_work from v None order) ks ws n r ks' ws' n' → Expanded (lent_pool ks ws n) (lent_pool ks' ws' n') v None order from (given r)
  coeffs_call_follows_the_book = call_follows None

  pub coeffs_at_call_follows_the_book : (z : ℤ) → Answered (expand_work from v (Some z) order) ks ws n r ks' ws' n' → Expanded (lent_pool ks ws n) (lent_pool ks' ws' n') v (Some z) order from (given r)
  coeffs_at_call_follows_the_book z = call_follows (Some z)
