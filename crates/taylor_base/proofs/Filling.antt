-- `fill` as a loop: after k turns the list has its first k entries, and what is left from there gives the whole.
-- Assumes nothing.
use Rattle.std.proofs.Common.{◌≡◌, refl, sym, ap, ◌∙◌, List, [], ◌∷◌, ◌++◌, ℕ, suc, ◌+◌, ◌-◌, ◌≤◌, ◌<◌, length, arith, length-append}
use native.Mathlib.Nat.{sub-zero}
use Rattle.pool.specs.Pool.{Pool, done, refused}
use Rattle.taylor.specs.Work.{Result, Work, bind, fill}

-- k turns of n are done
pub record Filling (f : List ℕ → ℕ → Work ℕ) (n : ℕ) (whole : Result (List ℕ)) (k : ℕ) (list : List ℕ) (P : Pool) : Type 0 where
  pub long : length list ≡ k
  pub is : fill f (n - k) list P ≡ whole

pub fill_starts : (f : List ℕ → ℕ → Work ℕ) (n : ℕ) (P : Pool) → Filling f n (fill f n [] P) 0 [] P
fill_starts f n P = record { long = refl; is = ap (λ (j : ℕ). fill f j [] P) (sub-zero n) }

module _ {f : List ℕ → ℕ → Work ℕ} {n : ℕ} {whole : Result (List ℕ)} {k : ℕ} {list : List ℕ} {P : Pool} (g : Filling f n whole k list P) where
  module _ (h : k < n) where
    turn : bind (f list k P) (λ c. fill f (n - (k + 1)) (list ++ (c ∷ []))) ≡ whole
    unfolding fill
    turn =
        let left : n - k ≡ suc (n - (k + 1)) = omega arith in
        ap (λ (j : ℕ). bind (f list j P) (λ c. fill f (n - (k + 1)) (list ++ (c ∷ [])))) (sym g.long)
        ∙ ap (λ (j : ℕ). fill f j list P) (sym left) ∙ g.is

    pub fill_onward : {c : ℕ} {Q : Pool} → done c Q ≡ f list k P → Filling f n whole (k + 1) (list ++ (c ∷ [])) Q
    fill_onward {c} {Q} e =
        record {
          long = omega (arith, length-append list (c ∷ []), g.long);
          is = ap (λ x. bind x (λ c. fill f (n - (k + 1)) (list ++ (c ∷ [])))) e ∙ turn;
        }

    pub fill_stopped : {m : ℕ} → refused m ≡ f list k P → refused m ≡ whole
    fill_stopped e = ap (λ x. bind x (λ c. fill f (n - (k + 1)) (list ++ (c ∷ [])))) e ∙ turn

  -- all turns are done
  pub fill_done : n ≤ k → done list P ≡ whole
  unfolding fill
  fill_done e =
      let none : n - k ≡ 0 = omega (arith, e) in
      ap (λ (j : ℕ). fill f j list P) (sym none) ∙ g.is

-- the first coefficient, and then the others
pub fill_first : (f : List ℕ → ℕ → Work ℕ) (n : ℕ) (P : Pool) → 1 ≤ n → fill f n [] P ≡ bind (f [] 0 P) (λ c. fill f (n - 1) (c ∷ []))
unfolding fill
fill_first f n P h =
    let more : n ≡ suc (n - 1) = omega arith in
    ap (λ (m : ℕ). fill f m [] P) more

pub ruleset ends = (fill_stopped, fill_done)
