-- `derivative` of an expansion meets 12 and 18 alone: the factorial is a literal, made by folding, and so is every product before it; the last product has it on its left.
-- Assumes nothing.
use Rattle.std.specs.Prelude.{Ok, Err}
use mathlib.Core.Path.{◌≡◌, refl, ◌∙◌}
use mathlib.Core.Logic.{inl, inr}
use mathlib.Core.Bool.{Bool, true, false, cond}
use Prim.Native.Nat.{ℕ, zero, suc, ◌-◌, ◌<◌}
use native.Mathlib.Omega.{arith}
use lib.IntN.{ℤ, pos, ◌*ℤ◌}
use Rattle.refusals.specs.Refusals.{out_of_range, pool_full}
use Rattle.literal.specs.Literal.{is_literal, folded}
use Rattle.pool.specs.declared.node.Node.TheVariants.{Lit}
use Rattle.pool.specs.Pool.{Pool, Out, done, refused, node_at}
use Rattle.constructors.specs.Build.{literal, build, calls, depth}
use Rattle.constructor_laws.specs.Grown.{Grown, Grows}
use Rattle.constructor_laws.proofs.Growth.{append_comes_to, appended_grown, earlier_same, literal_grows}
use Rattle.taylor.specs.Work.{Result, Work, bind, from, one_lit, mul, at, fold}
use Rattle.taylor.specs.Expansion.{Expansion, derivative}
use Rattle.taylor.specs.declared.expansion.Expansion.TheVariants.{Constant, Polynomial}
use Rattle.situations.specs.Refusal.{OneOf, Among, of_out, of_result}
use Rattle.situations.specs.Situations.{of_folding}
use Rattle.situations.proofs.Steps.{folded_refuses}
use Rattle.situations.proofs.Literals.{Long, long_grown, appended_there, literals_in_range, two_literals, times_literal}
use Rattle.situations.proofs.Operations.{meets, zero_holds}

-- a literal in a pool with long tables
record Literal (a : ℕ) (P : Pool) : Type 0 where
  long : Long P
  there : a < P.count
  number : ℤ
  is : node_at P a ≡ Lit number

still : {a : ℕ} {P Q : Pool} → Grown P Q → Literal a P → Literal a Q
still {a} g l = record { long = long_grown g l.long; there = omega (arith, g.no_fewer, l.there); number = l.number; is = earlier_same g a l.there ∙ l.is }

-- the answer is a literal of the pool that is left, or a refusal by 12 or 18
abbrev LandsOut : Out → Type 0
LandsOut (done a Q) = Literal a Q
LandsOut (refused k) = OneOf of_folding k

abbrev Lands : Result ℕ → Type 0
Lands (done a Q) = Literal a Q
Lands (refused k) = OneOf of_folding k

answered_lands : (o : Out) → LandsOut o → Lands o
answered_lands (done a Q) h = h
answered_lands (refused k) h = h

bind_lands : (x : Result ℕ) (next : ℕ → Work ℕ) → Lands x → ((a : ℕ) (Q : Pool) → Literal a Q → Lands (next a Q)) → Lands (bind x next)
bind_lands (done a Q) next h g = g a Q h
bind_lands (refused k) next h g = h

literal_lands : (z : ℤ) (P : Pool) → Long P → LandsOut (literal (folded z) P)
unfolding folded
literal_lands z P l = go (is_literal z) refl
  where
    go : (t : Bool) → is_literal z ≡ t → LandsOut (literal (cond t (Ok z) (Err out_of_range)) P)
    go true e =
        append_comes_to LandsOut (Lit z) P
        (λ room below. record { long = long_grown (appended_grown (Lit z) P below) l; there = omega arith; number = z; is = appended_there P l below z e })
        (inr (inl refl))
    go false e = inl refl

product_lands : (left i j : ℕ) (P : Pool) → Literal i P → Literal j P → LandsOut ((calls (suc left)).mul_at i j P)
unfolding calls build
product_lands left i j P x y =
    two_literals (node_at P) i j (λ t. LandsOut (build (calls left) t P)) x.number y.number x.is y.is
    (literal_lands (pos 0) P x.long) x y (literal_lands (x.number *ℤ y.number) P x.long)

-- acc * T::from(i)
abbrev step : ℕ → ℕ → Work ℕ
step acc i P = bind (from i P) (λ n. mul acc n)

step_lands : (acc i : ℕ) (P : Pool) → Literal acc P → Lands (step acc i P)
step_lands acc i P l = go (literal (folded (pos i)) P) ((literal_grows (folded (pos i))).grows P) (literal_lands (pos i) P l.long)
  where
    go : (o : Out) → Grows P o → LandsOut o → Lands (bind o (λ n. mul acc n))
    go (done n Q) g h = answered_lands ((calls depth).mul_at acc n Q) (product_lands (depth - 1) acc n Q (still g l) h)
    go (refused k) g h = h

fold_lands : (todo j acc : ℕ) (P : Pool) → Literal acc P → Lands (fold step j todo acc P)
unfolding fold
fold_lands zero j acc P l = l
fold_lands (suc todo) j acc P l = bind_lands (step acc j P) (fold step (suc j) todo) (step_lands acc j P l) (λ a Q h. fold_lands todo (suc j) a Q h)

-- the last product
last_meets : (f x : ℕ) (Q : Pool) → Literal f Q → Among of_folding (of_result (mul f x Q))
unfolding calls build
last_meets f x Q l =
    answered_meets ((calls depth).mul_at f x Q)
    ((times_literal {ks = of_folding} full (calls (depth - 1)) (node_at Q) f x l.number (λ b h. record { made = folded_refuses {ks = of_folding} full (inl refl) (l.number *ℤ b) }) (literals_in_range Q) l.is).made.refuses Q)
  where
    full : OneOf of_folding pool_full
    full = inr (inl refl)

    answered_meets : (o : Out) → Among of_folding (of_out o) → Among of_folding (of_result o)
    answered_meets (done i R) h = tt
    answered_meets (refused k) h = h

pub derivative_refuses : (e : Expansion) (k : ℕ) (P : Pool) → Long P → Among of_folding (of_result (derivative e k P))
derivative_refuses (Constant c) zero P l = tt
derivative_refuses (Constant c) (suc k) P l = meets of_folding (zero_holds of_folding (inr (inl refl))) P l
derivative_refuses (Polynomial cs) k P l = go (one_lit P) (answered_lands (literal (folded (pos 1)) P) (literal_lands (pos 1) P l))
  where
    after : (x : Result ℕ) → Lands x → Among of_folding (of_result (bind x (λ f. mul f (at cs k))))
    after (done f Q) h = last_meets f (at cs k) Q h
    after (refused r) h = h

    go : (x : Result ℕ) → Lands x → Among of_folding (of_result (bind x (λ one Q. bind (fold step 1 k one Q) (λ f. mul f (at cs k)))))
    go (done one Q) h = after (fold step 1 k one Q) (fold_lands k 1 one Q h)
    go (refused r) h = h
