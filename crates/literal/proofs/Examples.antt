-- Examples of document 01 on literals, computed from the definitions.
-- Assumes nothing.
use Rattle.std.specs.Prelude.{Ok, Err}
use mathlib.Core.Path.{◌≡◌, refl}
use mathlib.Core.Bool.{false}
use lib.IntN.{pos, negsuc, neg_ℤ, ◌+ℤ◌}
use Rattle.refusals.specs.Refusals.{no_exp_or_log, out_of_range}
use Rattle.literal.specs.Literal.{is_literal, folded, exp_of, log_of, word}

-- "9,007,199,254,740,991 + 1: 12."
pub one_past_the_greatest : folded (pos 9007199254740991 +ℤ pos 1) ≡ Err out_of_range
unfolding folded
one_past_the_greatest = refl

pub the_least_is_a_literal : folded (neg_ℤ (pos 9007199254740991)) ≡ Ok (negsuc 9007199254740990)
unfolding folded
the_least_is_a_literal = refl

-- "As a given literal, 9,007,199,254,740,992: 4."
pub not_a_given_literal : is_literal (pos 9007199254740992) ≡ false
not_a_given_literal = refl

-- "exp(1): 11."
pub exp_of_one_lem : exp_of (pos 1) ≡ Err no_exp_or_log
unfolding exp_of
exp_of_one_lem = refl

pub exp_of_zero : exp_of (pos 0) ≡ Ok (pos 1)
unfolding exp_of
exp_of_zero = refl

pub log_of_one : log_of (pos 1) ≡ Ok (pos 0)
unfolding log_of
log_of_one = refl

pub minus_one_as_a_word : word (negsuc 0) ≡ 0xffff_ffff_ffff_ffff
minus_one_as_a_word = refl
