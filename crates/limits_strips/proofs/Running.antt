-- The facts on running strips are computed.
-- Assumes nothing.
use mathlib.Core.Path.{refl}
use lib.Ieee.{to_bits, add, mul, div, of_int, lt, is_nan}
use Rattle.double.specs.Double.{double_of, pow_from, pow_of, max_of}
use Rattle.pool.specs.Nodes.{decode}
use Rattle.key_strip.specs.Machine.{following, key_of, keys_within, accepts, run_from}
use Rattle.engine_strip.specs.Strips.{run_strip_call}
use Rattle.limits_strips.specs.Calls.{ran}
use Rattle.limits_strips.specs.Strips.{Running}

pub running : Running
unfolding ran run_strip_call following key_of keys_within accepts run_from decode double_of pow_from pow_of max_of to_bits add mul div of_int lt is_nan
running =
    record {
      a_third = refl;
      no_number = refl;
      a_sum = refl;
      a_product = refl;
      a_greater = refl;
      a_power = refl;
      values_65536 = λ x. refl;
      values_65537 = λ x. refl;
      empty = λ x. refl;
      no_value = refl;
      whole_strip_first = refl;
      code_0 = refl;
      code_6 = refl;
      code_7 = refl;
      code_10 = refl;
      cut_off = refl;
      literal_greatest = refl;
      literal_least = refl;
      literal_too_small = refl;
      literal_too_great = refl;
      exponent_2 = refl;
      exponent_0 = refl;
      exponent_1 = refl;
      value_missing = refl;
      base_missing = refl;
      pushed_128 = refl;
      pushed_129 = refl;
      two_left = refl;
    }
