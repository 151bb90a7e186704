-- Each file is computed, once the test of 1 is passed by law.
-- Assumes nothing.
use mathlib.Core.Path.{refl}
use Rattle.pool.specs.Nodes.{decode, may_stand_at}
use Rattle.pool.specs.Pool.{append, node_in, each}
use Rattle.shape.specs.Order as order
use Rattle.shape.specs.File.{file_of, written_file, read_file, is_sized, are_nodes, are_in_order, is_in_order, entry_in, append_first}
use Rattle.limits_texts.specs.Files.{Files}
use Rattle.limits.proofs.Called.{called_on, file_on}

pub files : Files
unfolding node_in decode may_stand_at each append order.walk order.numbered order.written file_of written_file read_file is_sized are_nodes are_in_order is_in_order entry_in append_first
files =
    record {
      a_variable = file_on _ refl _ _;
      a_literal = file_on _ refl _ _;
      an_exp = file_on _ refl _ _;
      a_log = file_on _ refl _ _;
      a_power = file_on _ refl _ _;
      sum_in_order = file_on _ refl _ _;
      sum_left_first = file_on _ refl _ _;
      sum_of_one_node = file_on _ refl _ _;
      sum_nested_right = file_on _ refl _ _;
      sum_nested_left = file_on _ refl _ _;
      sum_right_first = called_on _ refl _;
      product_in_order = file_on _ refl _ _;
      product_left_first = file_on _ refl _ _;
      product_of_one_node = file_on _ refl _ _;
      product_nested_right = file_on _ refl _ _;
      product_nested_left = file_on _ refl _ _;
      product_right_first = called_on _ refl _;
      quotient_in_order = file_on _ refl _ _;
      quotient_left_first = file_on _ refl _ _;
      quotient_of_one_node = file_on _ refl _ _;
      quotient_nested_right = file_on _ refl _ _;
      quotient_nested_left = file_on _ refl _ _;
      quotient_right_first = called_on _ refl _;
      max_in_order = file_on _ refl _ _;
      max_left_first = file_on _ refl _ _;
      max_of_one_node = file_on _ refl _ _;
      max_nested_right = file_on _ refl _ _;
      max_nested_left = file_on _ refl _ _;
      max_right_first = called_on _ refl _;
    }
