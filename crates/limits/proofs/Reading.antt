-- The facts on files that are read: computed.
-- Assumes nothing.
use mathlib.Core.Path.{refl}
use Rattle.pool.specs.Nodes.{decode, may_stand_at}
use Rattle.pool.specs.Pool.{append, node_in, each}
use Rattle.shape.specs.Order as order
use Rattle.shape.specs.File.{read_file, is_sized, are_nodes, are_in_order, is_in_order, entry_in, append_first}
use Rattle.limits.specs.Limits.{Reading}
use Rattle.limits.proofs.Called.{called_on}

pub reading : Reading
unfolding node_in decode may_stand_at each append order.walk order.numbered read_file is_sized are_nodes are_in_order is_in_order entry_in append_first
reading =
    record {
      bytes_3 = called_on _ refl _;
      size_0 = called_on _ refl _;
      bytes_12_of_1 = called_on _ refl _;
      bytes_13_of_1 = called_on _ refl _;
      bytes_14_of_1 = called_on _ refl _;
      size_4097 = called_on _ refl _;
      no_entry = called_on _ refl _;
      file_variable_65535 = called_on _ refl _;
      file_variable_65536 = called_on _ refl _;
      file_literal_greatest = called_on _ refl _;
      file_literal_above = called_on _ refl _;
      file_exponent_1 = called_on _ refl _;
      file_exponent_2 = called_on _ refl _;
      file_part_itself = called_on _ refl _;
      entry_missed = called_on _ refl _;
    }
