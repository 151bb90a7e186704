-- Lists of coefficients whose entries meet aims: entry by entry, two lists side by side, the first entry alone, a fold, and a list that is filled from its own entries.
-- Assumes nothing.
use mathlib.Core.Path.{◌≡◌, refl, ap, ◌∙◌, subst}
use mathlib.Core.List.{List, [], ◌∷◌, ◌++◌}
use Prim.Native.Nat.{ℕ, zero, suc, ◌+◌, ◌≤◌, ◌<◌, min}
use native.Mathlib.Omega.{arith}
use lib.ListN.{length, length-append, replicate}
use Rattle.pool.specs.Pool.{Pool}
use Rattle.constructor_laws.specs.Grown.{Grown}
use Rattle.constructor_laws.specs.Keeps.{Keeps}
use Rattle.constructor_laws.proofs.Growth.{grown_by_nothing, grown_by_both}
use Rattle.taylor.specs.Work.{Work, at, each, each_two, fold, fill}
use Rattle.taylor.specs.Expansion.{first}
use Rattle.constructor_laws.proofs.Giving.{Aims, Gives, gives_weaker, gives_here, gives_next}

module _ (W : Aims ℕ) where
  -- the entries of a list meet the aims f 0, f 1, ..
  pub record Shows (f : ℕ → W.Aim) (P : Pool) (cs : List ℕ) : Type 0 where
    pub entry : (k : ℕ) → k < length cs → W.Meets (f k) P (at cs k)

  -- the list is as long as another
  abbrev pub ShowsLong : (ℕ → W.Aim) → ℕ → Pool → List ℕ → Type 0
  ShowsLong f n P cs = Shows f P cs × (length cs ≡ n)

module _ {W : Aims ℕ} where
  pub shows_later : {P Q : Pool} {f : ℕ → W.Aim} {cs : List ℕ} → Keeps P → Grown P Q → Shows W f P cs → Shows W f Q cs
  shows_later k g h = record { entry = λ j l. W.later k g (h.entry j l) }

  pub shows_none : {P : Pool} {f : ℕ → W.Aim} → Shows W f P []
  shows_none {P} {f} = record { entry = λ j l. absurd (never j l) }
    where
      never : (j : ℕ) → j < 0 → ⊥
      never j l = omega arith

  pub shows_cons : {P : Pool} {f : ℕ → W.Aim} {c : ℕ} {cs : List ℕ} → W.Meets (f 0) P c → Shows W (λ k. f (suc k)) P cs → Shows W f P (c ∷ cs)
  shows_cons {P} {f} {c} {cs} h t = record { entry = go }
    where
      go : (k : ℕ) → k < length (c ∷ cs) → W.Meets (f k) P (at (c ∷ cs) k)
      go zero l = h
      go (suc k) l = t.entry k (omega arith)

  shows_rest : {P : Pool} {f : ℕ → W.Aim} {c : ℕ} {cs : List ℕ} → Shows W f P (c ∷ cs) → Shows W (λ k. f (suc k)) P cs
  shows_rest h = record { entry = λ k l. h.entry (suc k) (omega arith) }

  shows_append : {P : Pool} (f : ℕ → W.Aim) (cs : List ℕ) {c : ℕ} → Shows W f P cs → W.Meets (f (length cs)) P c → Shows W f P (cs ++ (c ∷ []))
  shows_append f [] h last = shows_cons last shows_none
  shows_append f (x ∷ cs) h last = shows_cons (h.entry 0 (omega arith)) (shows_append (λ k. f (suc k)) cs (shows_rest h) last)

  -- one node over and over
  pub shows_repeated : {P : Pool} {a : W.Aim} (n z : ℕ) → W.Meets a P z → Shows W (λ k. a) P (replicate n z)
  shows_repeated zero z h = shows_none
  shows_repeated (suc n) z h = shows_cons h (shows_repeated n z h)

  -- for each entry
  pub each_gives :
      {op : ℕ → Work ℕ} (g : W.Aim → W.Aim) (f : ℕ → W.Aim) (cs : List ℕ) (P : Pool)
      → Keeps P
      → Shows W f P cs
      → ((Q : Pool) (a : ℕ) (x : W.Aim) → Keeps Q → Grown P Q → W.Meets x Q a → Gives Q (W.Meets (g x)) (op a Q))
      → Gives P (ShowsLong W (λ k. g (f k)) (length cs)) (each op cs P)
  unfolding each
  each_gives g f [] P k h op = gives_here k (shows_none, refl)
  each_gives g f (c ∷ cs) P k h op =
      gives_next (op P c (f 0) k (grown_by_nothing P) (h.entry 0 (omega arith))) (λ r Q k_q g_q hr.
      gives_next
      (each_gives g (λ j. f (suc j)) cs Q k_q (shows_later k g_q (shows_rest h)) (λ R a x k_r g_r ha. op R a x k_r (grown_by_both g_q g_r) ha)) (λ rs R k_r g_r hrs.
      gives_here k_r (shows_cons (W.later k_q g_r hr) hrs.0, ap suc hrs.1)))

  -- for the entries of two lists side by side
  pub each_two_gives :
      {op : ℕ → ℕ → Work ℕ} (g : W.Aim → W.Aim → W.Aim) (u w : ℕ → W.Aim) (us ws : List ℕ) (P : Pool)
      → Keeps P
      → Shows W u P us
      → Shows W w P ws
      → ((Q : Pool) (a b : ℕ) (x y : W.Aim) → Keeps Q → Grown P Q → W.Meets x Q a → W.Meets y Q b → Gives Q (W.Meets (g x y)) (op a b Q))
      → Gives P (ShowsLong W (λ k. g (u k) (w k)) (min (length us) (length ws))) (each_two op us ws P)
  unfolding each_two
  each_two_gives g u w [] ws P k hu hw op = gives_here k (shows_none, omega arith)
  each_two_gives g u w (a ∷ us) [] P k hu hw op = gives_here k (shows_none, omega arith)
  each_two_gives g u w (a ∷ us) (b ∷ ws) P k hu hw op =
      gives_next (op P a b (u 0) (w 0) k (grown_by_nothing P) (hu.entry 0 (omega arith)) (hw.entry 0 (omega arith))) (λ r Q k_q g_q hr.
      gives_next
      (each_two_gives g (λ j. u (suc j)) (λ j. w (suc j)) us ws Q k_q
      (shows_later k g_q (shows_rest hu))
      (shows_later k g_q (shows_rest hw))
      (λ R c d x y k_r g_r hc hd. op R c d x y k_r (grown_by_both g_q g_r) hc hd)) (λ rs R k_r g_r hrs.
      gives_here k_r (shows_cons (W.later k_q g_r hr) hrs.0, next_min (length us) (length ws) hrs.1)))
    where
      next_min : (m n : ℕ) {k : ℕ} → k ≡ min m n → suc k ≡ min (suc m) (suc n)
      next_min m n e = omega arith

  -- the first entry alone
  pub first_gives :
      (op : ℕ → Work ℕ) (f g : ℕ → W.Aim) (cs : List ℕ) {P : Pool}
      → Keeps P
      → Shows W f P cs
      → ((k : ℕ) → f (suc k) ≡ g (suc k))
      → ((c : ℕ) → W.Meets (f 0) P c → Gives P (W.Meets (g 0)) (op c P))
      → Gives P (ShowsLong W g (length cs)) (first op cs P)
  first_gives op f g [] k s same does = gives_here k (shows_none, refl)
  first_gives op f g (c ∷ cs) k s same does =
      gives_next (does c (s.entry 0 (omega arith))) (λ r Q k_q g_q hr.
      gives_here k_q (shows_cons hr (record { entry = λ j l. subst (λ a. W.Meets a Q (at cs j)) (same j) (W.later k g_q (s.entry (suc j) (omega arith))) }), refl))

  -- a list that is filled from its own entries
  pub fill_gives :
      (f : List ℕ → ℕ → Work ℕ) (v : ℕ → W.Aim) (todo : ℕ) (res : List ℕ) (P : Pool)
      → Keeps P
      → Shows W v P res
      → ((Q : Pool) (rs : List ℕ) → Keeps Q → Grown P Q → Shows W v Q rs → length res ≤ length rs → length rs < length res + todo → Gives Q (W.Meets (v (length rs))) (f rs (length rs) Q))
      → Gives P (ShowsLong W v (length res + todo)) (fill f todo res P)
  unfolding fill
  fill_gives f v zero res P k h step = gives_here k (h, omega arith)
  fill_gives f v (suc todo) res P k h step =
      gives_next (step P res k (grown_by_nothing P) h (omega arith) (omega arith)) (λ c Q k_q g_q hc.
      let long : length (res ++ (c ∷ [])) ≡ length res + 1 = length-append res (c ∷ []) in
      gives_weaker (λ R cs g s. (s.0, s.1 ∙ omega arith))
      (fill_gives f v todo (res ++ (c ∷ [])) Q k_q (shows_append v res (shows_later k g_q h) hc) (λ R rs k_r g_r hrs l m. step R rs k_r (grown_by_both g_q g_r) hrs (omega arith) (omega arith))))

module _ (W : Aims ℕ) where
  -- with another name for the aim
  renamed : {P : Pool} {a b : W.Aim} {r : _} → a ≡ b → Gives P (W.Meets a) r → Gives P (W.Meets b) r
  renamed {P} {r = r} e h = subst (λ a. Gives P (W.Meets a) r) e h

  -- a fold: s j is the aim before step j
  pub fold_gives :
      {f : ℕ → ℕ → Work ℕ} (s : ℕ → W.Aim) (from todo acc : ℕ) (P : Pool)
      → Keeps P
      → W.Meets (s from) P acc
      → ((Q : Pool) (a j : ℕ) → Keeps Q → Grown P Q → from ≤ j → j < from + todo → W.Meets (s j) Q a → Gives Q (W.Meets (s (suc j))) (f a j Q))
      → Gives P (W.Meets (s (from + todo))) (fold f from todo acc P)
  unfolding fold
  fold_gives s from zero acc P k h step = renamed (ap s (plus_none from)) (gives_here k h)
    where
      plus_none : (n : ℕ) → n ≡ n + 0
      plus_none n = omega arith
  fold_gives s from (suc todo) acc P k h step =
      renamed (ap s (plus_more from todo))
      (gives_next (step P acc from k (grown_by_nothing P) (omega arith) (omega arith) h) (λ a Q k_q g_q ha.
      fold_gives s (suc from) todo a Q k_q ha (λ R b j k_r g_r l m hb. step R b j k_r (grown_by_both g_q g_r) (omega arith) (omega arith) hb)))
    where
      plus_more : (n m : ℕ) → suc n + m ≡ n + suc m
      plus_more n m = omega arith
