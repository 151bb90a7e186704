-- The machine accepts exactly the strips of trees that need no more than its places. What it accepts is followed with a stack of trees, whose strips in turn are the bytes read so far.
-- Assumes nothing.
use mathlib.Core.Path.{◌≡◌, refl, sym, ap, ◌∙◌, subst, subst⁻¹, subst₂}
use mathlib.Core.Logic.{◌↔◌}
use mathlib.Core.Bool.{Bool, true, false, cond, false≢true}
use mathlib.Core.List.{List, [], ◌∷◌, ◌++◌, append_assoc, append-nil}
use Prim.Native.Nat.{ℕ, zero, suc, ◌+◌, ◌-◌, ◌^◌, ◌≤◌, ◌<◌}
use native.Mathlib.Nat.{not-suc-le-zero}
use native.Mathlib.Omega.{arith}
use lib.Dec.{leb, eqb}
use lib.ListN.{length, take, drop, take-append-drop, length-drop}
use lib.Seq.{get_or-drop}
use borrow.Author.Tests.{le-leb, leb-true, eqb-true}
use Rattle.literal.specs.Literal.{is_literal, signed}
use Rattle.literal.proofs.Theorems.{word_of_number_of}
use Rattle.low_bytes.specs.LowBytes.{low_bytes, number_at, AreBytes}
use Rattle.low_bytes.proofs.Bytes.{bytes_of_number, number_fits}
use Rattle.pool.specs.Nodes.{decode, pair, high_of, is_node, greatest_variable, least_exponent, greatest_exponent}
use Rattle.pool.specs.declared.node.Node.{Node}
use Rattle.pool.specs.declared.node.Node.TheVariants.{Empty}
use Rattle.shape.proofs.Tests.{and_left, and_right}
use Rattle.key_strip.specs.Strip.{most_places, combines}
use Rattle.key_strip.specs.Machine.{following, key_of, keys_within, taken, accepts, is_strip}
use Rattle.key_strip.specs.Trees.{StripOfTree, variable, literal, combined, raised, IsTreesStrip}
use Rattle.key_strip.proofs.Taking.{of_the_four}
use Rattle.key_strip.proofs.Tested.{tree_is_tested}

-- what stands in a strip for a key that takes so many values
data Written : ℕ → List ℕ → Type 0 where
  leaf : {own : List ℕ} → StripOfTree 1 own → Written 0 own
  raises : {e : ℕ} → least_exponent ≤ e → e ≤ greatest_exponent → Written 1 (8 ∷ low_bytes 4 e)
  combines_two : {code : ℕ} → combines code ≡ true → Written 2 (code ∷ [])

-- a code and a number that fits what follows it, read as a key
abbrev Reads : ℕ → ℕ → Node → Type 0
Reads code x key = x < 256 ^ following code → is_node key ≡ true → Written (taken key) (code ∷ low_bytes (following code) x)

-- what holds of both sides of a test
by_test : (R : Node → Type 0) (t : Bool) (a b : Node) → (t ≡ true → R a) → R b → R (cond t a b)
by_test R true a b met unmet = met refl
by_test R false a b met unmet = unmet

no_key : (code x : ℕ) → Reads code x Empty
no_key code x fits is = absurd (false≢true is)

variable_read : (x : ℕ) → Reads 1 x (decode 1 x)
unfolding decode following
variable_read x =
    by_test (Reads 1 x) (leb x greatest_variable) _ _ (λ e fits is. leaf (variable x (leb-true x greatest_variable e))) (no_key 1 x)

literal_read : (x : ℕ) → Reads 2 x (decode 2 x)
unfolding decode following
literal_read x =
    by_test (Reads 2 x) (is_literal (signed x)) _ _ (λ e fits is.
    leaf (subst (λ w. StripOfTree 1 (2 ∷ low_bytes 8 w)) (word_of_number_of x (record { fits = fits })) (literal (signed x) e))) (no_key 2 x)

exponent_read : (x : ℕ) → Reads 8 x (decode 8 (pair 0 x))
unfolding decode following
exponent_read x =
    by_test (Reads 8 x) (leb least_exponent (high_of (pair 0 x))) _ _ (λ e fits is.
    let least : least_exponent ≤ high_of (pair 0 x) = leb-true least_exponent (high_of (pair 0 x)) e in
    raises (omega arith) (omega arith)) (no_key 8 x)

code_read : (x w code : ℕ) → combines code ≡ true → Reads code x (decode code w)
unfolding decode following
code_read x w =
    of_the_four
    (λ code. Reads code x (decode code w))
    (λ fits is. combines_two refl)
    (λ fits is. combines_two refl)
    (λ fits is. combines_two refl)
    (λ fits is. combines_two refl)

-- whatever the code: where it gives a key, the key's bytes stand there
key_read : (code x : ℕ) → Reads code x (key_of code x)
unfolding key_of
key_read code x =
    by_test R (eqb code 1) _ _ (at 1 (decode 1 x) (variable_read x))
    (by_test R (eqb code 2) _ _ (at 2 (decode 2 x) (literal_read x))
    (by_test R (eqb code 8) _ _ (at 8 (decode 8 (pair 0 x)) (exponent_read x))
    (by_test R (combines code) _ _ (code_read x _ code) (no_key code x))))
  where
    R : Node → Type 0
    R = Reads code x

    at : (c : ℕ) (key : Node) → Reads c x key → eqb code c ≡ true → Reads code x key
    at c key read e = subst⁻¹ (λ n. Reads n x key) (eqb-true code c e) read

-- the trees in the places, each within them, and their strips in turn
data Stack : ℕ → List ℕ → Type 0 where
  none : Stack 0 []
  on : {d n : ℕ} {done bs : List ℕ} → Stack d done → StripOfTree n bs → d + n ≤ most_places → Stack (suc d) (done ++ bs)

-- one tree is left
last_tree : {d : ℕ} {done : List ℕ} → Stack d done → d ≡ 1 → IsTreesStrip done
last_tree none e = absurd (omega arith)
last_tree (on {n = n} none tree fits) e = (n, omega arith, tree)
last_tree (on (on below left within) tree fits) e = absurd (omega arith)

-- a key puts a tree in the place of those that it takes
stack_after : {t d : ℕ} {own done : List ℕ} → Written t own → Stack d done → t ≤ d → d - t + 1 ≤ most_places → Stack (d - t + 1) (done ++ own)
stack_after {d = d} {own} {done} (leaf tree) stack there fits =
    let more : suc d ≡ d - 0 + 1 = omega arith in
    subst (λ n. Stack n (done ++ own)) more (on stack tree (omega arith))
stack_after (raises least most) none there fits = absurd (not-suc-le-zero there)
stack_after (raises {e = e} least most) (on {d} {n} {done} {bs} stack tree within) there fits =
    let more : suc d ≡ suc d - 1 + 1 = omega arith in
    subst₂ Stack more (sym (append_assoc done bs (8 ∷ low_bytes 4 e))) (on stack (raised e n bs least most tree) within)
stack_after (combines_two is) none there fits = absurd (not-suc-le-zero there)
stack_after (combines_two is) (on none tree within) there fits = absurd (omega arith)
stack_after (combines_two {code = code} is) (on {n = n} {bs = right} (on {d} {n = m} {done} {bs = left} stack first below) second within) there fits =
    let more : suc d ≡ suc (suc d) - 2 + 1 = omega arith in
    subst₂ Stack more (sym (append_assoc (done ++ left) right (code ∷ []) ∙ append_assoc done left (right ++ (code ∷ []))))
    (on stack (combined code m n left right is first second) (omega arith))

-- one key of an accepted strip, and on with the rest: what follows the code is there, as the test says
module _ (k d code : ℕ) (done bs : List ℕ) (are : AreBytes bs) (stack : Stack d done) where
  abbrev wide : ℕ
  wide = following code

  abbrev key : Node
  key = key_of code (number_at wide bs 0)

  abbrev own : List ℕ
  own = code ∷ take wide bs

  abbrev OnWith : ℕ → Type 0
  OnWith e = Stack e (done ++ own) → accepts e (keys_within k (drop wide bs)) ≡ true → IsTreesStrip ((done ++ own) ++ drop wide bs)

  key_followed : (t : Bool) → leb wide (length bs) ≡ t → accepts d (cond t (key ∷ keys_within k (drop wide bs)) (Empty ∷ [])) ≡ true
      → ((e : ℕ) → OnWith e) → IsTreesStrip (done ++ (code ∷ bs))
  unfolding accepts
  key_followed true long h next =
      let rest = keys_within k (drop wide bs) in
      let left = d - taken key + 1 in
      let h₂ = and_right (is_node key) _ h in
      let h₃ = and_right (leb (taken key) d) _ h₂ in
      let bytes : low_bytes wide (number_at wide bs 0) ≡ take wide bs = bytes_of_number wide bs are 0 (omega (arith, leb-true wide (length bs) long)) in
      let read = key_read code (number_at wide bs 0) (number_fits wide bs are 0) (and_left (is_node key) _ h) in
      let written : Written (taken key) own = subst (λ xs. Written (taken key) (code ∷ xs)) bytes read in
      subst IsTreesStrip (append_assoc done own (drop wide bs) ∙ ap (λ xs. done ++ (code ∷ xs)) (take-append-drop wide bs))
      (next left
      (stack_after written stack (leb-true (taken key) d (and_left (leb (taken key) d) _ h₂)) (leb-true left most_places (and_left (leb left most_places) _ h₃)))
      (and_right (leb left most_places) (accepts left rest) h₃))
  key_followed false long h next = absurd (false≢true h)

-- nothing follows
ended : (d : ℕ) (done : List ℕ) → Stack d done → eqb d 1 ≡ true → IsTreesStrip (done ++ [])
ended d done stack h = subst⁻¹ IsTreesStrip (append-nil done) (last_tree stack (eqb-true d 1 h))

-- with a stack of trees for what was read, an accepted rest leads to a tree for the whole
followed : (k d : ℕ) (done bs : List ℕ) → length bs ≤ k → AreBytes bs → Stack d done → accepts d (keys_within k bs) ≡ true → IsTreesStrip (done ++ bs)
unfolding accepts keys_within
followed zero d done [] l are stack h = ended d done stack h
followed zero d done (code ∷ bs) l are stack h = absurd (not-suc-le-zero l)
followed (suc k) d done [] l are stack h = ended d done stack h
followed (suc k) d done (code ∷ bs) l are stack h =
    let behind : AreBytes bs = λ i. are (suc i) in
    key_followed k d code done bs behind stack (leb (following code) (length bs)) refl h (λ e s g.
    followed k e (done ++ (code ∷ take (following code) bs)) (drop (following code) bs) (omega (arith, length-drop (following code) bs))
    (λ i. subst⁻¹ (λ x. x < 256) (get_or-drop (following code) bs i 0) (behind (following code + i))) s g)

-- "The machine answers any bytes": 28 for all but the strips of trees within its places
pub accepted_exactly : (bs : List ℕ) → AreBytes bs → (is_strip bs ≡ true) ↔ IsTreesStrip bs
accepted_exactly bs are =
    (followed (length bs) 0 [] bs (omega arith) are none, λ (n, fits, tree). tree_is_tested tree ∙ le-leb n most_places fits)
