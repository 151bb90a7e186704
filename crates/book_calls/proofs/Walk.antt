-- The walk that expands an expression works at each node the operation of its kind on the expansions that are kept for its parts, and what is kept stays: so at its end every result is explained by those of the parts.
-- Assumes nothing.
use Rattle.std.specs.Prelude.{Some, None}
use mathlib.Core.Path.{◌≡◌, refl, sym, ◌∙◌, subst}
use mathlib.Core.Bool.{Bool, true, false}
use mathlib.Core.Logic.{inr}
use mathlib.Core.List.{List, [], ◌∷◌}
use Prim.Native.Nat.{ℕ, zero, suc, min, ◌≤◌, ◌<◌}
use native.Mathlib.Nat.{le_refl}
use native.Mathlib.Decide.{ℕ_discrete}
use native.Mathlib.Omega.{arith}
use lib.Dec.{eqb}
use lib.ListN.{length, get_or, set, replicate, length-set, length-replicate}
use lib.Seq.{get_or-set_same, get_or-set_other}
use borrow.Author.Tests.{eq-eqb, ne_eqb}
use Rattle.pool.specs.declared.node.Node.{Node}
use Rattle.pool.specs.declared.node.Node.TheVariants.{Empty, Variable, Lit, Add, Mul, Div, Exp, Log, Pow, Max}
use Rattle.pool.specs.Nodes.{parts, greatest_variable}
use Rattle.pool.specs.Pool.{Pool, limit, node_at, done, refused}
use Rattle.constructor_laws.specs.Grown.{Grown}
use Rattle.constructor_laws.specs.Keeps.{Keeps}
use Rattle.constructor_laws.proofs.Growth.{grown_by_nothing, grown_by_both, earlier_same}
use Rattle.constructor_laws.proofs.Rules.{AllBelow, below_all, rules_of, node_stands, standing_parts_below}
use Rattle.constructor_laws.proofs.Giving.{gave, ended}
use Rattle.taylor.specs.Work.{Result, Work}
use Rattle.taylor.specs.Work as work
use Rattle.taylor.specs.Expansion.{Expansion, order, var, add_to, times, quotient, exponential, logarithm, power}
use Rattle.taylor.specs.declared.expansion.Expansion.TheVariants.{Constant}
use Rattle.taylor.specs.Expand.{Kept, State, state, Went, Walk, bind, keep, once, lifted, lift, Point, point_node, of_variable, expand_node, expand_at, expand_below}
use Rattle.taylor.specs.Coefficients.{terms}
use Rattle.taylor_rules.specs.Kept.{nodes_of, Fits}
use Rattle.taylor_rules.proofs.Nodes.{KeptAs, Keeping, next_keeps}
use Rattle.taylor_rules.proofs.Operations.{Within, Series, var_keeps, add_to_keeps, times_keeps, quotient_keeps, exponential_keeps, logarithm_keeps}
use Rattle.taylor_rules.proofs.Expanding.{Come, come_more, come_by, shorter, constant_come, power_comes, point_keeps}
use Rattle.expand_laws.proofs.Holding.{came}
use Rattle.book_calls.specs.Walk.{Between}

fits : {n : ℕ} (e : Expansion) → Within n e → Fits n e
fits {n} e h = record { nodes = below_all n (nodes_of e) h.below; least = h.least; most = h.most }

-- what is kept in one table is kept in another
record Stays (old new : List Kept) : Type 0 where
  stays : (j : ℕ) (d : Expansion) → get_or old j None ≡ Some d → get_or new j None ≡ Some d

module _ (P₀ : Pool) (v : ℕ) (x : Point) (ord : ℕ) where
  -- ---- how an expansion that is kept was worked

  later : {us : List Expansion} {Done : Pool → Pool → Type 0} {Q R : Pool} → Grown Q R → Between P₀ Q us Done → Between P₀ R us Done
  later g h = record { start = h.start; finish = h.finish; earlier = h.earlier; keeps = h.keeps; there = h.there; is = h.is; later = grown_by_both h.later g }

  -- from what is kept for two parts, or for one
  pub record OfTwo (results : List Kept) (Q : Pool) (a b : ℕ) (op : Expansion → Expansion → Work Expansion) (d : Expansion) : Type 0 where
    pub left : Expansion
    pub right : Expansion
    pub left_kept : get_or results a None ≡ Some left
    pub right_kept : get_or results b None ≡ Some right
    pub worked : Between P₀ Q (left ∷ right ∷ []) (λ A B. op left right A ≡ done d B)

  pub record OfOne (results : List Kept) (Q : Pool) (a : ℕ) (op : Expansion → Work Expansion) (d : Expansion) : Type 0 where
    pub only : Expansion
    pub only_kept : get_or results a None ≡ Some only
    pub worked : Between P₀ Q (only ∷ []) (λ A B. op only A ≡ done d B)

  abbrev pub variable_work : Work Expansion
  variable_work P = work.bind (point_node v x P) (λ p. var p ord)

  abbrev pub OfVariable : Pool → ℕ → Expansion → Bool → Type 0
  OfVariable Q i d true = Between P₀ Q [] (λ A B. variable_work A ≡ done d B)
  OfVariable Q i d false = d ≡ Constant i

  abbrev pub Explained : List Kept → Pool → ℕ → Expansion → Node → Type 0
  Explained results Q i d Empty = ⊥
  Explained results Q i d (Variable u) = OfVariable Q i d (eqb u v)
  Explained results Q i d (Lit z) = d ≡ Constant i
  Explained results Q i d (Add a b) = OfTwo results Q a b add_to d
  Explained results Q i d (Mul a b) = OfTwo results Q a b times d
  Explained results Q i d (Div a b) = OfTwo results Q a b quotient d
  Explained results Q i d (Exp a) = OfOne results Q a exponential d
  Explained results Q i d (Log a) = OfOne results Q a logarithm d
  Explained results Q i d (Pow a n) = OfOne results Q a (λ s. power s n) d
  Explained results Q i d (Max a b) = ⊥

  module _ {old new : List Kept} {Q R : Pool} (stays : Stays old new) (g : Grown Q R) (d : Expansion) where
    two_later : {a b : ℕ} {op : Expansion → Expansion → Work Expansion} → OfTwo old Q a b op d → OfTwo new R a b op d
    two_later {a} {b} h =
        record { left = h.left; right = h.right; left_kept = stays.stays a h.left h.left_kept; right_kept = stays.stays b h.right h.right_kept; worked = later g h.worked }

    one_later : {a : ℕ} {op : Expansion → Work Expansion} → OfOne old Q a op d → OfOne new R a op d
    one_later {a} h = record { only = h.only; only_kept = stays.stays a h.only h.only_kept; worked = later g h.worked }

    module _ (i : ℕ) where
      variable_later : (t : Bool) → OfVariable Q i d t → OfVariable R i d t
      variable_later true h = later g h
      variable_later false h = h

      explained_later : (y : Node) → Explained old Q i d y → Explained new R i d y
      explained_later Empty h = h
      explained_later (Variable u) h = variable_later (eqb u v) h
      explained_later (Lit z) h = h
      explained_later (Add a b) h = two_later h
      explained_later (Mul a b) h = two_later h
      explained_later (Div a b) h = two_later h
      explained_later (Exp a) h = one_later h
      explained_later (Log a) h = one_later h
      explained_later (Pow a n) h = one_later h
      explained_later (Max a b) h = h

  -- ---- states

  module _ (small : ord < terms) where
    -- the rules hold, and every result is explained
    pub record Right (S : State) : Type 0 where
      pub keeps : Keeps S.pool
      pub grown : Grown P₀ S.pool
      pub long : length S.results ≡ limit
      pub come : (j : ℕ) (d : Expansion) → get_or S.results j None ≡ Some d → Come ord small S.pool.count d
      pub explained : (j : ℕ) (d : Expansion) → get_or S.results j None ≡ Some d → Explained S.results S.pool j d (node_at P₀ j)

    -- a walk below the bound k, from S to T, leaves the entries from k on
    pub record Arrived (k : ℕ) (S T : State) : Type 0 where
      pub right : Right T
      pub grown : Grown S.pool T.pool
      pub outside : (j : ℕ) → k ≤ j → get_or T.results j None ≡ get_or S.results j None

    abbrev Comes : ℕ → State → Went → Type 0
    Comes k S (done e T) = Arrived k S T
    Comes k S (refused q) = Unit {0}

    arrived_here : {k : ℕ} {S : State} → Right S → Arrived k S S
    arrived_here {S = S} r = record { right = r; grown = grown_by_nothing S.pool; outside = λ j l. refl }

    arrived_both : {k : ℕ} {S T U : State} → Arrived k S T → Arrived k T U → Arrived k S U
    arrived_both g h = record { right = h.right; grown = grown_by_both g.grown h.grown; outside = λ j l. h.outside j l ∙ g.outside j l }

    -- what was done at the node `term`, by X of the table, the pool and the expansion; or a refusal
    data Steps (term : ℕ) (X : List Kept → Pool → Expansion → Type 0) (S : State) : Went → Type 0 where
      stepped : {e : Expansion} {T : State} → Arrived term S T → Come ord small T.pool.count e → X T.results T.pool e → Steps term X S (done e T)
      stopped : {q : ℕ} → Steps term X S (refused q)

    -- in another pool that has grown
    right_later : {U : State} {Q : Pool} → Right U → Grown U.pool Q → Keeps Q → Right (state Q U.results)
    right_later r g k =
        record {
          keeps = k;
          grown = grown_by_both r.grown g;
          long = r.long;
          come = λ j d h. come_more ord small g.no_fewer (r.come j d h);
          explained = λ j d h. explained_later (record { stays = λ m s there. there }) g d j (node_at P₀ j) (r.explained j d h);
        }

    -- an operation that is called in the state U
    lift_steps :
        {term : ℕ} {X : List Kept → Pool → Expansion → Type 0} {S : State} (op : Work Expansion) (U : State) → Arrived term S U → Keeping U.pool.count (Come ord small) op
        → ((e : Expansion) (Q : Pool) → op U.pool ≡ done e Q → X U.results Q e)
        → Steps term X S (lift op U)
    lift_steps {term} {X} {S} op U c keeping explain = go (op U.pool) refl (keeping.kept U.pool c.right.keeps (le_refl U.pool.count))
      where
        go : (r : Result Expansion) → op U.pool ≡ r → KeptAs (Come ord small) U.pool r → Steps term X S (lifted U.results r)
        go _ eq (gave {x = e} {Q} k g come) =
            stepped (record { right = right_later c.right g k; grown = grown_by_both c.grown g; outside = c.outside }) come (explain e Q eq)
        go _ eq ended = stopped

    -- ---- the walk at a node

    module _ (keeps₀ : Keeps P₀) (variable : v ≤ greatest_variable) where
      -- a walk below the bound k, from each node of the first pool
      abbrev Walks : ℕ → Type 0
      Walks k = (i : ℕ) → i < P₀.count → (S : State) → Right S → Comes k S (expand_below v x ord k i S)

      module _ {term : ℕ} (walks : Walks term) (inside : term < P₀.count) where
        abbrev down : ℕ → Walk
        down = expand_below v x ord term

        -- a part's expansion is kept now, and what was kept has stayed
        record Visited (a : ℕ) (S : State) (s : Expansion) (T : State) : Type 0 where
          arrived : Arrived term S T
          there : get_or T.results a None ≡ Some s
          held : Stays S.results T.results

        visit :
            {a : ℕ} {X : List Kept → Pool → Expansion → Type 0} {S₀ : State} {more : Expansion → Walk} → a < term → (S : State) → Right S
            → ((s : Expansion) (T : State) → Visited a S s T → Steps term X S₀ (more s T))
            → Steps term X S₀ (bind (down a S) more)
        visit {a} {X} {S₀} {more} l S r next = go (down a S) refl (walks a (omega arith) S r)
          where
            go : (w : Went) → down a S ≡ w → Comes term S w → Steps term X S₀ (bind w more)
            go (done s T) eq c =
                let h = came v x ord term a eq in
                next s T (record { arrived = c; there = h.there (omega (arith, r.long, (rules_of keeps₀).within)); held = record { stays = h.held.stays } })
            go (refused q) eq c = stopped

        two_steps :
            {a b : ℕ} (op : Expansion → Expansion → Work Expansion)
            → ((m : ℕ) (s t : Expansion) → Within m s → Within m t → Keeping m (Series (min (order s) (order t))) (op s t))
            → a < term → b < term → (S : State) → Right S
            → Steps term (λ results Q e. OfTwo results Q a b op e) S (bind (down a S) (λ s T. bind (down b T) (λ t. lift (op s t))))
        two_steps {a} {b} op keeping la lb S r =
            visit la S r (λ s T hs.
            visit lb T hs.arrived.right (λ t U ht.
            let right = ht.arrived.right in
            let s_kept = ht.held.stays a s hs.there in
            let cs = right.come a s s_kept in
            let ct = right.come b t ht.there in
            lift_steps (op s t) U (arrived_both hs.arrived ht.arrived)
            (come_by ord small (shorter ord small (order s) (order t) cs.size ct.size) (keeping U.pool.count s t cs.within ct.within)) (λ e Q eq.
            record {
              left = s;
              right = t;
              left_kept = s_kept;
              right_kept = ht.there;
              worked = record { start = U.pool; finish = Q; earlier = right.grown; keeps = right.keeps; there = (fits s cs.within, (fits t ct.within, tt)); is = eq; later = grown_by_nothing Q };
            })))

        one_steps :
            {a : ℕ} (op : Expansion → Work Expansion)
            → ((m : ℕ) (s : Expansion) → Come ord small m s → Keeping m (Come ord small) (op s))
            → a < term → (S : State) → Right S
            → Steps term (λ results Q e. OfOne results Q a op e) S (bind (down a S) (λ s. lift (op s)))
        one_steps {a} op keeping la S r =
            visit la S r (λ s T hs.
            let right = hs.arrived.right in
            let cs = right.come a s hs.there in
            lift_steps (op s) T hs.arrived (keeping T.pool.count s cs) (λ e Q eq.
            record {
              only = s;
              only_kept = hs.there;
              worked = record { start = T.pool; finish = Q; earlier = right.grown; keeps = right.keeps; there = (fits s cs.within, tt); is = eq; later = grown_by_nothing Q };
            }))

        constant_steps : {X : List Kept → Pool → Expansion → Type 0} (S : State) → Right S → X S.results S.pool (Constant term) → Steps term X S (done (Constant term) S)
        constant_steps S r h = let l : term < S.pool.count = omega (arith, r.grown.no_fewer) in stepped (arrived_here r) (constant_come ord small l) h

        variable_steps : (t : Bool) (S : State) → Right S → Steps term (λ results Q e. OfVariable Q term e t) S (of_variable t term v x ord S)
        variable_steps true S r =
            lift_steps variable_work S (arrived_here r)
            (next_keeps (point_keeps ord small v x variable x) (λ m p more lp. come_by ord small (inr refl) (var_keeps p ord lp small))) (λ e Q eq.
            record { start = S.pool; finish = Q; earlier = r.grown; keeps = r.keeps; there = tt; is = eq; later = grown_by_nothing Q })
        variable_steps false S r = constant_steps S r refl

        node_steps : (y : Node) → AllBelow term (parts y) → (S : State) → Right S → Steps term (λ results Q e. Explained results Q term e y) S (expand_node v x ord down term y S)
        node_steps Empty l S r = stopped
        node_steps (Variable u) l S r = variable_steps (eqb u v) S r
        node_steps (Lit z) l S r = constant_steps S r refl
        node_steps (Add a b) (la, (lb, _)) S r = two_steps add_to (λ m s t hs ht. add_to_keeps s t hs ht) la lb S r
        node_steps (Mul a b) (la, (lb, _)) S r = two_steps times (λ m s t hs ht. times_keeps s t hs ht) la lb S r
        node_steps (Div a b) (la, (lb, _)) S r = two_steps quotient (λ m s t hs ht. quotient_keeps s t hs ht) la lb S r
        node_steps (Exp a) (la, _) S r = one_steps exponential (λ m s cs. come_by ord small cs.size (exponential_keeps s cs.within)) la S r
        node_steps (Log a) (la, _) S r = one_steps logarithm (λ m s cs. come_by ord small cs.size (logarithm_keeps s cs.within)) la S r
        node_steps (Pow a n) (la, _) S r = one_steps (λ s. power s n) (λ m s cs. power_comes ord small s n cs) la S r
        node_steps (Max a b) l S r = stopped

        at_steps : (S : State) → Right S → Steps term (λ results Q e. Explained results Q term e (node_at P₀ term)) S (expand_at v x ord down term S)
        at_steps S r =
            subst (λ y. Steps term (λ results Q e. Explained results Q term e (node_at P₀ term)) S (expand_node v x ord down term y S)) (sym (earlier_same r.grown term inside))
            (node_steps (node_at P₀ term) (standing_parts_below term (node_at P₀ term) (node_stands keeps₀ term inside)) S r)

        -- ---- what is done at a node is kept for it

        module _ (T : State) (e : Expansion) (empty : get_or T.results term None ≡ None) where
          kept_stays : Stays T.results (set T.results term (Some e))
          kept_stays = record { stays = λ j d there. go j d there (ℕ_discrete j term) }
            where
              never : (j : ℕ) (d : Expansion) → get_or T.results j None ≡ Some d → j ≡ term → ⊥
              never j d there same = let z : ◌≡◌ {A = ℕ} 0 1 = cc in omega arith

              go : (j : ℕ) (d : Expansion) → get_or T.results j None ≡ Some d → Dec (j ≡ term) → get_or (set T.results term (Some e)) j None ≡ Some d
              go j d there (yes same) = absurd (never j d there same)
              go j d there (no other) = get_or-set_other T.results term j (Some e) None other ∙ there

          keep_right : Right T → Come ord small T.pool.count e → Explained T.results T.pool term e (node_at P₀ term) → Right (state T.pool (set T.results term (Some e)))
          keep_right r come explained =
              record {
                keeps = r.keeps;
                grown = r.grown;
                long = length-set T.results term (Some e) ∙ r.long;
                come = λ j d h. come_of j d h (ℕ_discrete j term);
                explained = λ j d h. explained_of j d h (ℕ_discrete j term);
              }
            where
              new : List Kept
              new = set T.results term (Some e)

              same_expansion : (d : Expansion) → get_or new term None ≡ Some d → e ≡ d
              same_expansion d h = let is : get_or new term None ≡ Some e = get_or-set_same T.results term (Some e) None (omega (arith, r.long, (rules_of keeps₀).within)) in cc

              come_of : (j : ℕ) (d : Expansion) → get_or new j None ≡ Some d → Dec (j ≡ term) → Come ord small T.pool.count d
              come_of j d h (yes same) = let is : e ≡ d = same_expansion d (subst (λ i. get_or new i None ≡ Some d) same h) in subst (Come ord small T.pool.count) is come
              come_of j d h (no other) = r.come j d (sym (get_or-set_other T.results term j (Some e) None other) ∙ h)

              explained_of : (j : ℕ) (d : Expansion) → get_or new j None ≡ Some d → Dec (j ≡ term) → Explained new T.pool j d (node_at P₀ j)
              explained_of j d h (yes same) =
                  let is : e ≡ d = same_expansion d (subst (λ i. get_or new i None ≡ Some d) same h) in
                  subst (λ i. Explained new T.pool i d (node_at P₀ i)) (sym same)
                  (subst (λ c. Explained new T.pool term c (node_at P₀ term)) is (explained_later kept_stays (grown_by_nothing T.pool) e term (node_at P₀ term) explained))
              explained_of j d h (no other) =
                  explained_later kept_stays (grown_by_nothing T.pool) d j (node_at P₀ j) (r.explained j d (sym (get_or-set_other T.results term j (Some e) None other) ∙ h))

        keep_comes :
            (S : State) → get_or S.results term None ≡ None → (w : Went)
            → Steps term (λ results Q e. Explained results Q term e (node_at P₀ term)) S w
            → Comes (suc term) S (bind w (keep term))
        keep_comes S empty (done e T) (stepped arrived come explained) =
            record {
              right = keep_right T e (arrived.outside term (le_refl term) ∙ empty) arrived.right come explained;
              grown = arrived.grown;
              outside = λ j l. get_or-set_other T.results term j (Some e) None (λ same. omega arith) ∙ arrived.outside j (omega arith);
            }
        keep_comes S empty (refused q) stopped = tt

        once_comes : (S : State) → Right S → (q : Kept) → get_or S.results term None ≡ q → Comes (suc term) S (once (expand_at v x ord down) term q S)
        once_comes S r None e = keep_comes S e (expand_at v x ord down term S) (at_steps S r)
        once_comes S r (Some d) e = arrived_here r

      -- with one node more below the bound
      more_walks : (k : ℕ) → Walks k → Walks (suc k)
      unfolding expand_below
      more_walks k less i l S r = go (ℕ_discrete i k)
        where
          further : (w : Went) → Comes k S w → Comes (suc k) S w
          further (done e T) c = record { right = c.right; grown = c.grown; outside = λ j m. c.outside j (omega arith) }
          further (refused q) c = tt

          go : Dec (i ≡ k) → Comes (suc k) S (expand_below v x ord (suc k) i S)
          go (yes e) = rw (e, eq-eqb k k refl) (once_comes less (omega arith) S r (get_or S.results k None) refl)
          go (no n) = rw (ne_eqb i k n) (further (expand_below v x ord k i S) (less i l S r))

      below_walks : (k : ℕ) → Walks k
      unfolding expand_below
      below_walks zero i l S r = tt
      below_walks (suc k) i l S r = more_walks k (below_walks k) i l S r

      -- ---- a whole walk

      none_kept : (k j : ℕ) → get_or (replicate {A = Kept} k None) j None ≡ None
      none_kept zero j = refl
      none_kept (suc k) zero = refl
      none_kept (suc k) (suc j) = none_kept k j

      not_kept : {B : Type 0} (j : ℕ) (d : Expansion) → get_or (replicate {A = Kept} limit None) j None ≡ Some d → B
      not_kept j d h = absurd (never (none_kept limit j))
        where
          never : get_or (replicate {A = Kept} limit None) j None ≡ None → ⊥
          never n = let z : ◌≡◌ {A = ℕ} 0 1 = cc in omega arith

      pub walk_explained : (root : ℕ) → root < P₀.count → {e : Expansion} {T : State} → expand_below v x ord (suc root) root (state P₀ (replicate limit None)) ≡ done e T → Right T
      walk_explained root l {e} {T} eq = go (subst (Comes (suc root) (state P₀ (replicate limit None))) eq (below_walks (suc root) root l (state P₀ (replicate limit None)) start))
        where
          start : Right (state P₀ (replicate limit None))
          start =
              record {
                keeps = keeps₀;
                grown = grown_by_nothing P₀;
                long = length-replicate {A = Kept} limit None;
                come = λ j d h. not_kept j d h;
                explained = λ j d h. not_kept j d h;
              }

          go : Arrived (suc root) (state P₀ (replicate limit None)) T → Right T
          go c = c.right
