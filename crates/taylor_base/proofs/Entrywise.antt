-- `each_two` as a loop: after k turns the first k entries are made, and what is left of both lists gives the others.
-- Assumes nothing.
use Rattle.std.proofs.Common.{◌≡◌, refl, sym, ap, ◌∙◌, List, [], ◌∷◌, ◌++◌, ℕ, ◌+◌, ◌<◌, length, drop, arith, length-append, min, ◌≤◌, inl, inr, ◌⊎◌}
use Rattle.std.proofs.lemmas.List.{at_drop_more, at_drop_all}
use Rattle.std.proofs.lemmas.Bool.{cases_lt}
use native.Mathlib.Nat.{min-le_left, min-le_right}
use lib.Seq.{append_snoc}
use mathlib.Core.List.{append-nil}
use Rattle.pool.specs.Pool.{Pool, done, refused}
use Rattle.taylor.specs.Work.{Result, Work, bind, yield, at, each, each_two}
use Rattle.taylor_base.proofs.Steps.{bind_same}

-- what comes is put behind what is there
abbrev pub behind : List ℕ → Result (List ℕ) → Result (List ℕ)
behind list x = bind x (λ rs. yield (list ++ rs))

behind_one : (list : List ℕ) (r : ℕ) (x : Result (List ℕ)) → behind list (bind x (λ rs. yield (r ∷ rs))) ≡ behind (list ++ (r ∷ [])) x
behind_one list r (done rs P) = ap (λ (l : List ℕ). done l P) (sym (append_snoc list r rs))
behind_one list r (refused k) = refl

behind_nothing : (x : Result (List ℕ)) → behind [] x ≡ x
behind_nothing (done rs P) = refl
behind_nothing (refused k) = refl

module _ (f : ℕ → ℕ → Work ℕ) (us ws : List ℕ) where
  -- what is left after k turns
  abbrev pub rest : ℕ → Pool → Result (List ℕ)
  rest k P = each_two f (drop k us) (drop k ws) P

  rest_at : (k : ℕ) (P : Pool) → k < length us → k < length ws → rest k P ≡ bind (f (at us k) (at ws k) P) (λ r Q. bind (rest (k + 1) Q) (λ rs. yield (r ∷ rs)))
  unfolding each_two
  rest_at k P h g = at_drop_more (λ l. each_two f l (drop k ws) P) us k 0 h ∙ at_drop_more (λ l. each_two f (at us k ∷ drop (k + 1) us) l P) ws k 0 g

  -- after k turns there are the entries of the list, and the whole is what was asked for
  pub record Paired (whole : Result (List ℕ)) (k : ℕ) (list : List ℕ) (P : Pool) : Type 0 where
    pub long : length list ≡ k
    pub is : behind list (rest k P) ≡ whole

  pub paired_starts : (P : Pool) → Paired (each_two f us ws P) 0 [] P
  paired_starts P = record { long = refl; is = behind_nothing (each_two f us ws P) }

  -- the entries u and w come next
  module _ {whole : Result (List ℕ)} {k : ℕ} {list : List ℕ} {P : Pool} (p : Paired whole k list P) {u w : ℕ} (e : u ≡ at us k) (d : w ≡ at ws k) (h : k < min (length us) (length ws)) where
    turn : behind list (bind (f u w P) (λ r Q. bind (rest (k + 1) Q) (λ rs. yield (r ∷ rs)))) ≡ whole
    turn =
        rw (e, d)
        (ap (behind list) (sym (rest_at k P (omega (arith, h, min-le_left (length us) (length ws))) (omega (arith, h, min-le_right (length us) (length ws))))) ∙ p.is)

    pub paired_onward : {r : ℕ} {Q : Pool} → done r Q ≡ f u w P → Paired whole (k + 1) (list ++ (r ∷ [])) Q
    paired_onward {r} {Q} q =
        record {
          long = omega (arith, length-append list (r ∷ []), p.long);
          is = sym (behind_one list r (rest (k + 1) Q)) ∙ ap (λ x. behind list (bind x (λ r Q. bind (rest (k + 1) Q) (λ rs. yield (r ∷ rs))))) q ∙ turn;
        }

    pub paired_stopped : {n : ℕ} → refused n ≡ f u w P → refused n ≡ whole
    paired_stopped q = ap (λ x. behind list (bind x (λ r Q. bind (rest (k + 1) Q) (λ rs. yield (r ∷ rs))))) q ∙ turn

  no_right : (l : List ℕ) (P : Pool) → each_two f l [] P ≡ done [] P
  unfolding each_two
  no_right [] P = refl
  no_right (x ∷ l) P = refl

  -- one of the lists is at its end
  pub paired_done : {whole : Result (List ℕ)} {k : ℕ} {list : List ℕ} {P : Pool} → Paired whole k list P → min (length us) (length ws) ≤ k → done list P ≡ whole
  unfolding each_two
  paired_done {whole} {k} {list} {P} p h =
      ap (λ (l : List ℕ). done l P) (sym (append-nil list)) ∙ ap (behind list) (sym (ends (cases_lt k (length us)))) ∙ p.is
    where
      ends : (k < length us) ⊎ (length us ≤ k) → rest k P ≡ done [] P
      ends (inl a) = at_drop_all (λ l. each_two f (drop k us) l P) ws k (omega (arith, h, a)) ∙ no_right (drop k us) P
      ends (inr a) = at_drop_all (λ l. each_two f l (drop k ws) P) us k a

module _ (f : ℕ → ℕ → Work ℕ) where
  -- one list is a list beside itself
  pub each_is_two : (cs : List ℕ) (P : Pool) → each_two f cs cs P ≡ each (λ u. f u u) cs P
  unfolding each each_two
  each_is_two [] P = refl
  each_is_two (c ∷ cs) P =
      bind_same (f c c P) (λ r Q. bind (each_two f cs cs Q) (λ rs. yield (r ∷ rs))) (λ r Q. bind (each (λ u. f u u) cs Q) (λ rs. yield (r ∷ rs)))
      (λ r Q. ap (λ (x : Result (List ℕ)). bind x (λ rs. yield (r ∷ rs))) (each_is_two cs Q))

pub ruleset ends = (paired_stopped, paired_done)
