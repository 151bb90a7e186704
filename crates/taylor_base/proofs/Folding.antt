-- `fold` as a loop: at number j what is left from there gives the whole.
-- Assumes nothing.
use Rattle.std.proofs.Common.{◌≡◌, sym, ap, ◌∙◌, ℕ, suc, ◌+◌, ◌-◌, ◌≤◌, ◌<◌, arith}
use native.Mathlib.Numerals.{add-one}
use Rattle.pool.specs.Pool.{Pool, done, refused}
use Rattle.taylor.specs.Work.{Result, Work, bind, fold}

-- the terms below j are summed up: what is left from there, with the sum so far, gives the whole
pub record Folding (f : ℕ → ℕ → Work ℕ) (end : ℕ) (whole : Result ℕ) (j sum : ℕ) (P : Pool) : Type 0 where
  pub is : fold f j (end - j) sum P ≡ whole

pub fold_starts : (f : ℕ → ℕ → Work ℕ) (first todo sum : ℕ) (P : Pool) → Folding f (first + todo) (fold f first todo sum P) first sum P
fold_starts f first todo sum P =
    let all : first + todo - first ≡ todo = omega arith in
    record { is = ap (λ (n : ℕ). fold f first n sum P) all }

module _ {f : ℕ → ℕ → Work ℕ} {end : ℕ} {whole : Result ℕ} where
  module _ {j sum : ℕ} {P : Pool} (g : Folding f end whole j sum P) (h : j < end) where
    -- one turn of the definition
    turn : bind (f sum j P) (fold f (j + 1) (end - (j + 1))) ≡ whole
    unfolding fold
    turn =
        let left : end - j ≡ suc (end - (j + 1)) = omega arith in
        ap (λ (i : ℕ). bind (f sum j P) (fold f i (end - (j + 1)))) (add-one j) ∙ ap (λ (n : ℕ). fold f j n sum P) (sym left) ∙ g.is

    pub fold_stopped : {n : ℕ} → refused n ≡ f sum j P → refused n ≡ whole
    fold_stopped e = ap (λ x. bind x (fold f (j + 1) (end - (j + 1)))) e ∙ turn

    pub fold_onward : {c : ℕ} {Q : Pool} → done c Q ≡ f sum j P → Folding f end whole (j + 1) c Q
    fold_onward e = record { is = ap (λ x. bind x (fold f (j + 1) (end - (j + 1)))) e ∙ turn }

  pub fold_done : {j sum : ℕ} {P : Pool} → Folding f end whole j sum P → end ≤ j → done sum P ≡ whole
  unfolding fold
  fold_done {j} {sum} {P} g h =
      let none : end - j ≡ 0 = omega arith in
      ap (λ (n : ℕ). fold f j n sum P) (sym none) ∙ g.is

pub ruleset turns = (fold_starts, fold_stopped, fold_onward, fold_done)
