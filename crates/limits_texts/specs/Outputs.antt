-- The limits of what a call writes, in document 01's digits: 19, and the longest file.
-- Assumes nothing.
use Rattle.std.specs.Prelude.{◌≡◌, length}
use Rattle.pool.specs.Pool.{node_in}
use Rattle.walks.specs.Print.{text_of}
use Rattle.shape.specs.File.{read_file}
use Rattle.limits.specs.Lent.{lent, kinds_of, words_of, chain, text65535, text65536}
use Rattle.limits.specs.Calls.{gives, refuses, called, printed, written, file}
use Rattle.limits.specs.Limits.{nothing, x0}

-- 19. "The lent output is too short, or a text has more than 65,535 bytes."
pub record Outputs : Type 0 where
  pub text_of_1_in_1 : printed 1 0 x0 ≡ gives 1
  pub text_of_1_in_0 : printed 0 0 x0 ≡ refuses 19
  pub text_65535 : printed 65535 15 (lent text65535) ≡ gives 65535
  pub text_65535_in_65534 : printed 65534 15 (lent text65535) ≡ refuses 19
  pub text_65536 : printed 65536 30 (lent text65536) ≡ refuses 19
  -- no shorter than one byte past the limit, and no longer
  pub length_65536 : length (text_of (node_in (kinds_of text65536) (words_of text65536)) 30) ≡ 65536
  pub file_of_13_in_13 : written 13 0 x0 ≡ gives 13
  pub file_of_13_in_12 : written 12 0 x0 ≡ refuses 19

-- "The longest file has 36,868 bytes.": of 4,096 nodes, written and read back; after one more node 18
pub record Longest : Type 0 where
  pub file_in_36868 : written 36868 4095 chain ≡ gives 36868
  pub file_in_36867 : written 36867 4095 chain ≡ refuses 19
  pub read_into_nothing : called (read_file (file 36868 4095 chain)) nothing ≡ gives 4095
  pub read_after_one : called (read_file (file 36868 4095 chain)) x0 ≡ refuses 18
