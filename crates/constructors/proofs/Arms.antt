-- Each arm of the tables of `add` and `mul` returns what is said of it: both sides are computed.
-- Assumes nothing.
use mathlib.Core.Path.{refl}
use Rattle.constructors.specs.Tables.{add_arms, mul_lits, mul_exps, mul_left, mul_pows, mul_last}
use Rattle.constructors.specs.Arms.{AddArms, MulArms}

pub add_arms_return : AddArms
unfolding add_arms
add_arms_return =
    record {
      zero_left = refl;
      zero_right = refl;
      literals = refl;
      literal_and_sum = refl;
      literal_and_other_sum = refl;
      sum_and_literal = refl;
      other_sum_and_literal = refl;
      not_folded = refl;
      sums = refl;
      sum_left = refl;
      sum_right = refl;
      two_zeros = refl;
      plain_sums = refl;
      plain = refl;
    }

pub mul_arms_return : MulArms
unfolding mul_lits mul_exps mul_left mul_pows mul_last
mul_arms_return =
    record {
      zero_left = refl;
      zero_right = refl;
      one_and_zero = refl;
      one_left = refl;
      one_right = refl;
      two_ones = refl;
      exps = refl;
      literals = refl;
      literal_and_scaled = refl;
      scaled_and_literal = refl;
      exp_second = refl;
      exp_before_second = refl;
      exp_first = refl;
      exp_first_first = refl;
      exp_first_second = refl;
      exp_second_first = refl;
      exp_second_second = refl;
      literals_ahead = refl;
      literal_ahead_left = refl;
      literal_ahead_right = refl;
      same_factor = refl;
      factor_and_power = refl;
      powers = refl;
      second_part_first = refl;
      first_pair_first = refl;
      same_factor_first = refl;
      literal_and_product = refl;
      exp_and_product = refl;
      left_literal_alone = refl;
      right_literal_alone = refl;
      literal_last = refl;
      plain = refl;
      no_power = refl;
    }
