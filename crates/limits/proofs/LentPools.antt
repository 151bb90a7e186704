-- The facts on 1: a pool that keeps the rules passes by law, and one that breaks a rule is refused by computing the test.
-- Assumes nothing.
use mathlib.Core.Path.{◌≡◌, refl}
use Rattle.pool.specs.Nodes.{decode, may_stand_at}
use Rattle.pool.specs.Pool.{append, node_in, is_pool, each}
use Rattle.constructors.specs.Tables.{add_arms}
use Rattle.constructors.specs.Build.{build, calls}
use Rattle.constructor_calls.specs.declared.two.Two.TheVariants as two
use Rattle.engine.specs.Build.{on_two}
use Rattle.limits.specs.Lent.{full}
use Rattle.limits.specs.Calls.{called, gives}
use Rattle.limits.specs.Limits.{Pools}
use Rattle.limits.proofs.Pools.{full_by_rules}
use Rattle.limits.proofs.Called.{called_by, refused_by, refused_on, called_on}

count_4096 : called (on_two two.Add 0 1) full ≡ gives 0
unfolding full node_in decode append calls build add_arms
count_4096 = called_by full full_by_rules (on_two two.Add 0 1)

pub pools : Pools
unfolding full is_pool node_in decode may_stand_at each append calls build add_arms
pools =
    record {
      count_0 = called_on _ refl _;
      kinds_4095 = refused_by _ refl _;
      kinds_4097 = refused_by _ refl _;
      words_4095 = refused_by _ refl _;
      words_4097 = refused_by _ refl _;
      count_4096 = count_4096;
      count_4097 = refused_by _ refl _;
      entry_variable_65535 = called_on _ refl _;
      entry_variable_65536 = refused_on _ refl _;
      entry_literal_greatest = called_on _ refl _;
      entry_literal_above = refused_on _ refl _;
      entry_literal_least = called_on _ refl _;
      entry_literal_below = refused_on _ refl _;
      entry_exponent_1 = refused_on _ refl _;
      entry_exponent_2 = called_on _ refl _;
      entry_exponent_4294967295 = called_on _ refl _;
      kind_0 = refused_on _ refl _;
      kind_9 = called_on _ refl _;
      kind_10 = refused_on _ refl _;
      left_part_itself = refused_on _ refl _;
      right_part_itself = refused_on _ refl _;
      argument_itself = refused_on _ refl _;
      kind_behind = refused_by _ refl _;
      word_behind = refused_by _ refl _;
    }
