-- Literals, from document 01: their range, folding with its range test, `exp` and `log` of a literal, and the word in the pool.
-- Assumes nothing.
use Rattle.std.specs.Prelude.{Bool, false, cond, ℕ, ◌-◌, ◌^◌, leb, eqb, ℤ, pos, negsuc, nat_abs, Result, Ok, Err}
use Rattle.std.specs.Int.{w64}
use Rattle.std.proofs.Common.{to_z, of_z}
use Rattle.refusals.specs.Refusals.{no_exp_or_log, out_of_range}

-- 9,007,199,254,740,991
abbrev pub greatest : ℕ
greatest = 2 ^ 53 - 1

-- "A literal lies from -9,007,199,254,740,991 to 9,007,199,254,740,991 (2^53 - 1)."
abbrev pub is_literal : ℤ → Bool
is_literal z = leb (nat_abs z) greatest

abbrev pub is_zero : ℤ → Bool
is_zero z = eqb (nat_abs z) 0

abbrev pub is_one : ℤ → Bool
is_one (pos n) = eqb n 1
is_one (negsuc n) = false

-- a folded literal, or the refusal number
abbrev pub Folded : Type 0
Folded = Result ℤ ℕ

-- what folding gives: z, or 12 where z "leaves the literal range"
unfoldable pub folded : ℤ → Folded
folded z = cond (is_literal z) (Ok z) (Err out_of_range)

-- "`exp` of the literal 0 is 1 and `log` of the literal 1 is 0; other literals have neither": 11
unfoldable pub exp_of : ℤ → Folded
exp_of z = cond (is_zero z) (Ok (pos 1)) (Err no_exp_or_log)

unfoldable pub log_of : ℤ → Folded
log_of z = cond (is_one z) (Ok (pos 0)) (Err no_exp_or_log)

-- "signed whole number, two's complement", in a word of 64 bits: the word read as a number, and the number's word, as the language's casts have them; `signed_is` and `word_of_negative` in proofs/ are the same as arithmetic
abbrev pub signed : ℕ → ℤ
signed w = to_z w64 w

abbrev pub word : ℤ → ℕ
word z = of_z w64 z
