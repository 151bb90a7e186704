-- Horner's method as a loop: with the first i coefficients left, what is left from there gives the whole.
-- Assumes nothing.
use Rattle.std.proofs.Common.{◌≡◌, sym, ap, ◌∙◌, List, [], ◌∷◌, ℕ, suc, ◌-◌, ◌≤◌, ◌<◌, length, take, reverse, arith}
use mathlib.Core.List.{reverse_aux-append}
use lib.Seq.{take-suc, take-length}
use Rattle.pool.specs.Pool.{Pool, done, refused}
use Rattle.taylor.specs.Work.{Result, bind, at}
use Rattle.taylor.specs.Expansion.{Expansion, times, add_to, horner}
use Rattle.taylor.specs.declared.expansion.Expansion.TheVariants.{Constant}
use Rattle.taylor_base.proofs.Steps.{bind_assoc}
use Rattle.taylor_products.specs.Powers.{horner_step}

pub record Hornering (inner : Expansion) (cs : List ℕ) (whole : Result Expansion) (i : ℕ) (res : Expansion) (P : Pool) : Type 0 where
  pub is : horner inner (reverse (take i cs)) res P ≡ whole

pub horner_starts : (inner : Expansion) (cs : List ℕ) (res : Expansion) (P : Pool) → Hornering inner cs (horner inner (reverse cs) res P) (length cs) res P
horner_starts inner cs res P = record { is = ap (λ (l : List ℕ). horner inner (reverse l) res P) (take-length cs) }

-- the last of i coefficients comes first
last_first : (cs : List ℕ) (i : ℕ) → 0 < i → i ≤ length cs → reverse (take i cs) ≡ at cs (i - 1) ∷ reverse (take (i - 1) cs)
last_first cs i h l =
    let there : i - 1 < length cs = omega arith in
    let more : i ≡ suc (i - 1) = omega arith in
    ap (λ (j : ℕ). reverse (take j cs)) more ∙ ap reverse (take-suc cs (i - 1) 0 there) ∙ reverse_aux-append (take (i - 1) cs) (at cs (i - 1) ∷ []) []

-- the coefficient c comes next
module _
    {inner : Expansion} {cs : List ℕ} {whole : Result Expansion} {i : ℕ} {res : Expansion} {P : Pool} (g : Hornering inner cs whole i res P) (h : 0 < i) (m : i ≤ length cs)
    {c : ℕ} (d : c ≡ at cs (i - 1)) where
  -- one turn of the definition
  turn : bind (horner_step inner c res P) (horner inner (reverse (take (i - 1) cs))) ≡ whole
  unfolding horner
  turn =
      rw d
      (bind_assoc (times res inner P) (λ p. add_to p (Constant (at cs (i - 1)))) (horner inner (reverse (take (i - 1) cs)))
      ∙ ap (λ (l : List ℕ). horner inner l res P) (sym (last_first cs i h m)) ∙ g.is)

  pub horner_stopped : {n : ℕ} → refused n ≡ horner_step inner c res P → refused n ≡ whole
  horner_stopped e = ap (λ x. bind x (horner inner (reverse (take (i - 1) cs)))) e ∙ turn

  pub horner_onward : {r : Expansion} {Q : Pool} → done r Q ≡ horner_step inner c res P → Hornering inner cs whole (i - 1) r Q
  horner_onward e = record { is = ap (λ x. bind x (horner inner (reverse (take (i - 1) cs)))) e ∙ turn }

pub horner_done : {inner : Expansion} {cs : List ℕ} {whole : Result Expansion} {i : ℕ} {res : Expansion} {P : Pool} → Hornering inner cs whole i res P → i ≤ 0 → done res P ≡ whole
unfolding horner
horner_done {inner} {cs} {whole} {i} {res} {P} g h =
    let none : 0 ≡ i = omega arith in
    ap (λ (j : ℕ). horner inner (reverse (take j cs)) res P) none ∙ g.is

pub ruleset turns = (horner_starts, horner_stopped, horner_onward, horner_done)
