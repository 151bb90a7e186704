-- Each example of printing is computed, once the test of 1 is passed by law.
-- Assumes nothing.
use mathlib.Core.Path.{refl}
use Rattle.text.specs.Text.{digits_within, decimal, signed_decimal, display}
use Rattle.pool.specs.Nodes.{decode, may_stand_at}
use Rattle.pool.specs.Fold.{under, fold_nodes_within, fold_nodes}
use Rattle.pool.specs.Pool.{node_in, each}
use Rattle.limits_texts.specs.Printing.{Printing}
use Rattle.limits.proofs.Called.{text_on}

pub printing : Printing
unfolding node_in decode may_stand_at each display signed_decimal decimal digits_within fold_nodes fold_nodes_within under
printing =
    record {
      sum_left_in_sum = text_on _ refl _;
      sum_right_in_sum = text_on _ refl _;
      product_left_in_sum = text_on _ refl _;
      product_right_in_sum = text_on _ refl _;
      quotient_left_in_sum = text_on _ refl _;
      quotient_right_in_sum = text_on _ refl _;
      power_left_in_sum = text_on _ refl _;
      power_right_in_sum = text_on _ refl _;
      sum_left_in_product = text_on _ refl _;
      sum_right_in_product = text_on _ refl _;
      product_left_in_product = text_on _ refl _;
      product_right_in_product = text_on _ refl _;
      quotient_left_in_product = text_on _ refl _;
      quotient_right_in_product = text_on _ refl _;
      power_left_in_product = text_on _ refl _;
      power_right_in_product = text_on _ refl _;
      sum_left_in_quotient = text_on _ refl _;
      sum_right_in_quotient = text_on _ refl _;
      product_left_in_quotient = text_on _ refl _;
      product_right_in_quotient = text_on _ refl _;
      quotient_left_in_quotient = text_on _ refl _;
      quotient_right_in_quotient = text_on _ refl _;
      power_left_in_quotient = text_on _ refl _;
      power_right_in_quotient = text_on _ refl _;
      power_of_sum = text_on _ refl _;
      power_of_product = text_on _ refl _;
      power_of_quotient = text_on _ refl _;
      power_of_power = text_on _ refl _;
      power_of_exp = text_on _ refl _;
      power_of_log = text_on _ refl _;
      exp_of_sum = text_on _ refl _;
      log_of_sum = text_on _ refl _;
      exp_in_product = text_on _ refl _;
      log_in_quotient = text_on _ refl _;
      sum_with_minus_one = text_on _ refl _;
      quotient_by_minus_one = text_on _ refl _;
      power_of_minus_two = text_on _ refl _;
      variable_25 = text_on _ refl _;
      variable_26 = text_on _ refl _;
      variable_65535 = text_on _ refl _;
    }
