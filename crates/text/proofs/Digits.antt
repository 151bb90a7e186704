-- Decimal digits, one by one from the last: how many there are, and what the digits still to come and those written already make together.
-- Assumes nothing.
use mathlib.Core.Path.{◌≡◌, refl, ◌∙◌, ap, sym}
use mathlib.Core.Bool.{Bool, true, false, cond}
use mathlib.Core.List.{List, [], ◌∷◌, ◌++◌, append_assoc, append-nil}
use Prim.Native.Nat.{ℕ, zero, suc, ◌+◌, ◌-◌, ◌/◌, ◌%◌, ◌^◌, ◌<◌, ◌≤◌}
use native.Mathlib.Nat.{pow-suc}
use native.Mathlib.Omega.{arith}
use lib.Dec.{ltb}
use lib.ListN.{length, length-append}
use borrow.Author.Tests.{lt-ltb, le-ltb}
use mir.Syntax.{w64}
use mir.Val.{bits}
use Rattle.text.specs.Text.{digit, digits_within, most_digits, decimal}

pub one_digit : (k n : ℕ) → n < 10 → digits_within (suc k) n ≡ digit n ∷ []
unfolding digits_within
one_digit k n h = rw (lt-ltb n 10 h)

pub more_digits : (k n : ℕ) → 10 ≤ n → digits_within (suc k) n ≡ digits_within k (n / 10) ++ (digit (n % 10) ∷ [])
unfolding digits_within
more_digits k n h = rw (le-ltb n 10 h)

pub fewer : (k n : ℕ) → n < 10 ^ suc k → n / 10 < 10 ^ k
fewer k n h = omega (arith, pow-suc 10 k)

pub at_most : (k n : ℕ) → length (digits_within k n) ≤ k
unfolding digits_within
at_most zero n = omega arith
at_most (suc k) n = go (ltb n 10) (digits_within k (n / 10)) (at_most k (n / 10))
  where
    go : (t : Bool) (higher : List ℕ) → length higher ≤ k → length (cond t (digit n ∷ []) (higher ++ (digit (n % 10) ∷ []))) ≤ suc k
    go true higher h = omega arith
    go false higher h = omega (arith, length-append higher (digit (n % 10) ∷ []))

-- the text begins with the digit of the lowest place of rest, those of n below it come behind it, and at most more digits are still to come
pub record Remains (n : ℕ) (text : List ℕ) (rest : ℕ) : Type 0 where
  pub more : ℕ
  pub enough : rest < 10 ^ suc more
  pub space : length text + more ≤ most_digits
  pub later : List ℕ
  pub here : text ≡ digit (rest % 10) ∷ later
  pub gives : digits_within (suc more) rest ++ later ≡ decimal n

pub at_first : (n : ℕ) → n < 2 ^ bits w64 → Remains n (digit (n % 10) ∷ []) n
unfolding decimal
at_first n h =
    record {
      more = most_digits - 1;
      enough = omega arith;
      space = omega arith;
      later = [];
      here = refl;
      gives = append-nil (digits_within most_digits n);
    }

module _ (n : ℕ) (text : List ℕ) (rest : ℕ) where
  turn : (r : Remains n text rest) (k : ℕ) → r.more ≡ k → 10 ≤ rest → Remains n (digit (rest / 10 % 10) ∷ text) (rest / 10)
  turn r zero e h = absurd (let f : rest < 10 ^ suc zero = rw e at r.enough in omega arith)
  turn r (suc k) e h =
      let f : rest < 10 ^ suc (suc k) = rw e at r.enough in
      let g : digits_within (suc (suc k)) rest ++ r.later ≡ decimal n = rw e at r.gives in
      record {
        more = k;
        enough = fewer (suc k) rest f;
        space = omega (arith, r.space, e);
        later = text;
        here = refl;
        gives =
            rw r.here
            (sym (append_assoc (digits_within (suc k) (rest / 10)) (digit (rest % 10) ∷ []) r.later)
            ∙ ap (λ (l : List ℕ). l ++ r.later) (sym (more_digits (suc k) rest h))
            ∙ g);
      }

  pub after_a_turn : Remains n text rest → 10 ≤ rest → Remains n (digit (rest / 10 % 10) ∷ text) (rest / 10)
  after_a_turn r h = turn r r.more refl h

  pub at_last : Remains n text rest → rest < 10 → text ≡ decimal n
  at_last r h =
      r.here
      ∙ ap (λ (d : ℕ). digit d ∷ r.later) (small rest h)
      ∙ ap (λ (l : List ℕ). l ++ r.later) (sym (one_digit r.more rest h))
      ∙ r.gives
    where
      small : (m : ℕ) → m < 10 → m % 10 ≡ m
      small m h = omega arith

pub decimal_is_short : (n : ℕ) → length (decimal n) ≤ most_digits
unfolding decimal
decimal_is_short n = at_most most_digits n
