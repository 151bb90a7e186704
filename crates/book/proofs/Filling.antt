-- Coefficients that are made one after the other are formulas worked in turn, in which the finished list stands for the earlier coefficients.
-- Assumes nothing.
use mathlib.Core.Path.{◌≡◌, refl, sym, ap, ◌∙◌, subst}
use mathlib.Core.List.{List, [], ◌∷◌, ◌++◌, append-nil}
use Prim.Native.Nat.{ℕ, zero, suc, ◌≤◌, ◌<◌}
use native.Mathlib.Omega.{arith}
use lib.ListN.{length, length-append}
use lib.Seq.{append_snoc}
use Rattle.pool.specs.Pool.{Pool, done}
use Rattle.taylor.specs.Work.{Work, at, each, fill}
use Rattle.book.specs.Formula.{Formula, work, works, row}
use Rattle.book.proofs.Work.{Came, came_weaker, came_next, came_here, Appends, work_appends, one_more}

-- formula k speaks of earlier coefficients alone
abbrev pub LooksBack : (List ℕ → ℕ → Formula) → Type 0
LooksBack formula = (k : ℕ) (vs vs' : List ℕ) → ((j : ℕ) → j < k → at vs j ≡ at vs' j) → formula vs k ≡ formula vs' k

-- `todo` coefficients were added to `res`: it is now cs, by the formulas of these numbers
pub record Filled (formula : List ℕ → ℕ → Formula) (todo : ℕ) (res cs : List ℕ) (P Q : Pool) : Type 0 where
  pub new : List ℕ
  pub is : cs ≡ res ++ new
  pub long : length new ≡ todo
  pub works_in_turn : works (row (formula cs) (length res) todo) P ≡ done new Q

-- the earlier coefficients stay
at_earlier : (res new : List ℕ) (j : ℕ) → j < length res → at (res ++ new) j ≡ at res j
at_earlier [] new j h = absurd (none j h)
  where
    none : (j : ℕ) → j < 0 → ⊥
    none j h = omega arith
at_earlier (c ∷ res) new zero h = refl
at_earlier (c ∷ res) new (suc j) h = at_earlier res new j (omega arith)

module _ (f : List ℕ → ℕ → Work ℕ) (formula : List ℕ → ℕ → Formula) (least : ℕ)
    (is : (res : List ℕ) (k : ℕ) → least ≤ k → (P : Pool) → f res k P ≡ work (formula res k) P)
    (back : LooksBack formula) where
  pub fill_in_turn : (todo : ℕ) (res : List ℕ) (P : Pool) → least ≤ length res → Came P (λ cs Q. Filled formula todo res cs P Q) (fill f todo res P)
  unfolding fill works row
  fill_in_turn zero res P l = came_here (record { new = []; is = sym (append-nil res); long = refl; works_in_turn = refl })
  fill_in_turn (suc todo) res P l =
      came_next this (λ c A e g x.
      came_weaker (λ cs Q h. more c A cs Q e h) (fill_in_turn todo (res ++ (c ∷ [])) A (rw (length-append res (c ∷ [])) (omega arith))))
    where
      this : Appends P (f res (length res) P)
      this = subst (Appends P) (sym (is res (length res) l P)) (work_appends (formula res (length res)) P)

      more : (c : ℕ) (A : Pool) (cs : List ℕ) (Q : Pool) → f res (length res) P ≡ done c A → Filled formula todo (res ++ (c ∷ [])) cs A Q → Filled formula (suc todo) res cs P Q
      more c A cs Q e h =
          let joined : cs ≡ res ++ c ∷ h.new = h.is ∙ append_snoc res c h.new in
          let earlier : formula cs (length res) ≡ formula res (length res) = back (length res) cs res (λ j l. ap (λ (r : List ℕ). at r j) joined ∙ at_earlier res (c ∷ h.new) j l) in
          let first : work (formula cs (length res)) P ≡ done c A = ap (λ (g : Formula). work g P) earlier ∙ sym (is res (length res) l P) ∙ e in
          let one : length (res ++ (c ∷ [])) ≡ suc (length res) = length-append res (c ∷ []) ∙ omega arith in
          record {
            new = c ∷ h.new;
            is = joined;
            long = ap suc h.long;
            works_in_turn = one_more (formula cs (length res)) (row (formula cs) (suc (length res)) todo) P first (rw one at h.works_in_turn);
          }

-- all n coefficients, by the formulas 0, 1, ..
pub record Row (formula : List ℕ → ℕ → Formula) (n : ℕ) (cs : List ℕ) (P Q : Pool) : Type 0 where
  pub long : length cs ≡ n
  pub works_in_turn : works (row (formula cs) 0 n) P ≡ done cs Q

-- where none was there at first
pub from_none : (formula : List ℕ → ℕ → Formula) {n : ℕ} {cs : List ℕ} {P Q : Pool} → Filled formula n [] cs P Q → Row formula n cs P Q
from_none formula {n} {P = P} {Q} h = record { long = ap length h.is ∙ h.long; works_in_turn = h.works_in_turn ∙ ap (λ (r : List ℕ). done r Q) (sym h.is) }

-- where coefficient 0 was there at first, by its own formula
pub from_first :
    (formula : List ℕ → ℕ → Formula) {todo r : ℕ} {cs : List ℕ} (A : Pool) {P Q : Pool}
    → LooksBack formula → work (formula [] 0) A ≡ done r P → Filled formula todo (r ∷ []) cs P Q → Row formula (suc todo) cs A Q
unfolding row
from_first formula {todo} {r} {cs} A {Q = Q} back e h =
    let none : (j : ℕ) → j < 0 → at cs j ≡ at [] j = λ j l. omega arith in
    record {
      long = ap length h.is ∙ ap suc h.long;
      works_in_turn =
          one_more (formula cs 0) (row (formula cs) 1 todo) A (ap (λ (g : Formula). work g A) (back 0 cs [] none) ∙ e) h.works_in_turn
          ∙ ap (λ (l : List ℕ). done l Q) (sym h.is);
    }

-- ---- each coefficient from its like

row_shifted : (f : ℕ → Formula) (first n : ℕ) → row f (suc first) n ≡ row (λ k. f (suc k)) first n
unfolding row
row_shifted f first zero = refl
row_shifted f first (suc n) = ap (λ fs. f (suc first) ∷ fs) (row_shifted f (suc first) n)

module _ (f : ℕ → Work ℕ) (formula : ℕ → Formula) (is : (u : ℕ) (P : Pool) → f u P ≡ work (formula u) P) where
  pub each_in_turn : (us : List ℕ) (P : Pool) → Came P (λ cs Q. Row (λ vs k. formula (at us k)) (length us) cs P Q) (each f us P)
  unfolding each works row
  each_in_turn [] P = came_here (record { long = refl; works_in_turn = refl })
  each_in_turn (u ∷ us) P = came_next this (λ c A e g x. came_next (each_in_turn us A) (λ cs Q e' g' h. came_here (more c A cs Q e h)))
    where
      this : Appends P (f u P)
      this = subst (Appends P) (sym (is u P)) (work_appends (formula u) P)

      more : (c : ℕ) (A : Pool) (cs : List ℕ) (Q : Pool) → f u P ≡ done c A → Row (λ vs k. formula (at us k)) (length us) cs A Q → Row (λ vs k. formula (at (u ∷ us) k)) (length (u ∷ us)) (c ∷ cs) P Q
      more c A cs Q e h =
          let shifted : row (λ k. formula (at (u ∷ us) k)) 1 (length us) ≡ row (λ k. formula (at us k)) 0 (length us) = row_shifted (λ k. formula (at (u ∷ us) k)) 0 (length us) in
          record {
            long = ap suc h.long;
            works_in_turn = one_more (formula u) (row (λ k. formula (at (u ∷ us) k)) 1 (length us)) P (sym (is u P) ∙ e) (ap (λ fs. works fs A) shifted ∙ h.works_in_turn);
          }
