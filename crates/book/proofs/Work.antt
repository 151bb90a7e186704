-- Work that is accepted: formulas only append, and each of those worked in turn is worked in a pool between the first and the last.
-- Assumes nothing.
use mathlib.Core.Path.{◌≡◌, refl, ap, ◌∙◌, subst}
use mathlib.Core.List.{List, [], ◌∷◌, ◌++◌}
use Prim.Native.Nat.{ℕ, zero, suc, ◌+◌, ◌<◌}
use native.Mathlib.Omega.{arith}
use lib.IntN.{pos}
use Rattle.literal.specs.Literal.{folded}
use Rattle.pool.specs.Pool.{Pool, Out, done, refused, Run}
use Rattle.constructors.specs.Build.{depth}
use Rattle.constructor_laws.specs.Grown.{Grown, Grows}
use Rattle.constructor_laws.proofs.Growth.{Growing, grown_by_nothing, grown_by_both, literal_grows, calls_grow}
use Rattle.taylor.specs.Work.{Result, Work, bind, yield, sub, at}
use Rattle.book.specs.Formula.{Formula, #, whole, ◌⊕◌, ◌⊖◌, ◌⊗◌, ◌⊘◌, ◌⊟◌, Exp, Log, work, works, row}
use Rattle.book.specs.Recurrence.{Coefficient}

-- work on P that was refused, or only appended and came to a result of which H holds
pub data Came {A : Type 0} (P : Pool) (H : A → Pool → Type 0) : Result A → Type 0 where
  came : {v : A} {Q : Pool} → Grown P Q → H v Q → Came P H (done v Q)
  ended : {k : ℕ} → Came P H (refused k)

pub came_from : {A : Type 0} {P Q : Pool} {H : A → Pool → Type 0} {r : Result A} → Grown P Q → Came Q H r → Came P H r
came_from g (came h x) = came (grown_by_both g h) x
came_from g ended = ended

pub came_here : {A : Type 0} {P : Pool} {H : A → Pool → Type 0} {v : A} → H v P → Came P H (done v P)
came_here {P = P} x = came (grown_by_nothing P) x

pub came_weaker : {A : Type 0} {P : Pool} {H K : A → Pool → Type 0} {r : Result A} → ((v : A) (Q : Pool) → H v Q → K v Q) → Came P H r → Came P K r
came_weaker f (came {v} {Q} g x) = came g (f v Q x)
came_weaker f ended = ended

pub came_next :
    {A B : Type 0} {P : Pool} {H : A → Pool → Type 0} {K : B → Pool → Type 0} {r : Result A} {next : A → Work B}
    → Came P H r
    → ((v : A) (Q : Pool) → r ≡ done v Q → Grown P Q → H v Q → Came Q K (next v Q))
    → Came P K (bind r next)
came_next (came {v} {Q} g x) go = came_from g (go v Q refl g x)
came_next ended go = ended

-- an accepted answer
module _ {A : Type 0} {P : Pool} {H : A → Pool → Type 0} {r : Result A} {v : A} {Q : Pool} (h : Came P H r) (e : r ≡ done v Q) where
  pub grown_since : Grown P Q
  grown_since = go (subst (Came P H) e h)
    where
      go : Came P H (done v Q) → Grown P Q
      go (came g x) = g

  pub holds_then : H v Q
  holds_then = go (subst (Came P H) e h)
    where
      go : Came P H (done v Q) → H v Q
      go (came g x) = x

-- ---- formulas only append

abbrev pub Appends : {A : Type 0} → Pool → Result A → Type 0
Appends P r = Came P (λ v Q. Unit {0}) r

appends_next : {A B : Type 0} {P : Pool} {r : Result A} {next : A → Work B} → Appends P r → ((v : A) (Q : Pool) → Appends Q (next v Q)) → Appends P (bind r next)
appends_next h go = came_next h (λ v Q e g x. go v Q)

node_appends : {run : Run} → Growing run → (P : Pool) → Appends P (run P)
node_appends {run} g P = go (run P) (g.grows P)
  where
    go : (o : Out) → Grows P o → Appends P o
    go (done i Q) h = came h tt
    go (refused k) h = ended

sub_appends : (a b : ℕ) (P : Pool) → Appends P (sub a b P)
sub_appends a b P = appends_next (node_appends ((calls_grow depth).neg_at b) P) (λ n Q. node_appends ((calls_grow depth).add_at a n) Q)

-- two parts, then what is made of them
two_append :
    {m k : Work ℕ} {next : ℕ → ℕ → Work ℕ} → ((P : Pool) → Appends P (m P)) → ((P : Pool) → Appends P (k P)) → ((a b : ℕ) (P : Pool) → Appends P (next a b P))
    → (P : Pool) → Appends P (bind (m P) (λ a Q. bind (k Q) (next a)))
two_append hm hk go P = appends_next (hm P) (λ a Q. appends_next (hk Q) (go a))

pub work_appends : (f : Formula) (P : Pool) → Appends P (work f P)
unfolding work
work_appends (# i) = λ P. came_here tt
work_appends (whole n) = node_appends (literal_grows (folded (pos n)))
work_appends (f ⊕ g) = two_append (work_appends f) (work_appends g) (λ a b. node_appends ((calls_grow depth).add_at a b))
work_appends (f ⊖ g) = two_append (work_appends f) (work_appends g) sub_appends
work_appends (f ⊗ g) = two_append (work_appends f) (work_appends g) (λ a b. node_appends ((calls_grow depth).mul_at a b))
work_appends (f ⊘ g) = two_append (work_appends f) (work_appends g) (λ a b. node_appends ((calls_grow depth).div_at a b))
work_appends (f ⊟ g) = two_append (work_appends g) (work_appends f) (λ b a. sub_appends a b)
work_appends (Exp f) = λ P. appends_next (work_appends f P) (λ a. node_appends ((calls_grow depth).exp_at a))
work_appends (Log f) = λ P. appends_next (work_appends f P) (λ a. node_appends ((calls_grow depth).log_at a))

-- ---- formulas in turn

pub one_more :
    (f : Formula) (fs : List Formula) (P : Pool) {c : ℕ} {cs : List ℕ} {A Q : Pool} → work f P ≡ done c A → works fs A ≡ done cs Q → works (f ∷ fs) P ≡ done (c ∷ cs) Q
unfolding works
one_more f fs P {c} e d = ap (λ x. bind x (λ c A. bind (works fs A) (λ cs. yield (c ∷ cs)))) e ∙ ap (λ x. bind x (λ cs. yield (c ∷ cs))) d

-- whatever comes after them
pub works_then :
    (fs gs : List Formula) (P : Pool) → Came P (λ xs A. (ys : List ℕ) (Q : Pool) → works gs A ≡ done ys Q → works (fs ++ gs) P ≡ done (xs ++ ys) Q) (works fs P)
unfolding works
works_then [] gs P = came_here (λ ys Q d. d)
works_then (f ∷ fs) gs P = came_next (work_appends f P) (λ c A e g x. came_next (works_then fs gs A) (λ cs B e' g' h. came_here (λ ys Q d. one_more f (fs ++ gs) P e (h ys Q d))))

from_earlier : {P A Q : Pool} {f : Formula} {c : ℕ} → Grown P A → Coefficient A Q f c → Coefficient P Q f c
from_earlier g h = record { start = h.start; finish = h.finish; earlier = grown_by_both g h.earlier; is = h.is; later = h.later }

-- each of a row was worked in a pool between the first and the last
pub row_each : (f : ℕ → Formula) (first n : ℕ) (P : Pool) → Came P (λ cs Q. (k : ℕ) → k < n → Coefficient P Q (f (first + k)) (at cs k)) (works (row f first n) P)
unfolding works row
row_each f first zero P = came_here (λ k h. absurd (none k h))
  where
    none : (k : ℕ) → k < 0 → ⊥
    none k h = omega arith
row_each f first (suc n) P =
    came_next (work_appends (f first) P) (λ c A e g x.
    came_next (row_each f (suc first) n A) (λ cs Q e' g' h. came_here (this c A cs Q e g g' h)))
  where
    this :
        (c : ℕ) (A : Pool) (cs : List ℕ) (Q : Pool) → work (f first) P ≡ done c A → Grown P A → Grown A Q
        → ((k : ℕ) → k < n → Coefficient A Q (f (suc first + k)) (at cs k)) → (k : ℕ) → k < suc n → Coefficient P Q (f (first + k)) (at (c ∷ cs) k)
    this c A cs Q e g g' h zero l =
        let same : first + 0 ≡ first = omega arith in
        record { start = P; finish = A; earlier = grown_by_nothing P; is = rw same e; later = g' }
    this c A cs Q e g g' h (suc k) l =
        let same : suc first + k ≡ first + suc k = omega arith in
        from_earlier g (rw same at (h k (omega arith)))

-- of a whole call: what is shared, then the coefficients
pub coefficients_in_turn :
    (shared : List Formula) (f : ℕ → Formula) (n : ℕ) {nodes cs : List ℕ} (P : Pool) {A Q : Pool}
    → works shared P ≡ done nodes A → works (row f 0 n) A ≡ done cs Q → (k : ℕ) → k < n → Coefficient P Q (f k) (at cs k)
coefficients_in_turn shared f n P {A} e d k l =
    let same : 0 + k ≡ k = omega arith in
    from_earlier (grown_since (works_then shared [] P) e) (rw same at (holds_then (row_each f 0 n A) d k l))
