-- C-20's numbers in document 02's digits: codes, bytes, places and refusals. No name of a limit, of a code or of a refusal is used.
-- Assumes nothing.
use Rattle.std.specs.Prelude.{◌≡◌, [], ◌∷◌, ◌++◌, ℕ, Float, length, replicate}
use Rattle.std.specs.Float.{binary64}
use Rattle.std.specs.Float.Ieee.{to_bits}
use Rattle.pool.specs.Pool.{node_in}
use Rattle.key_strip.specs.Strip.{strip_of}
use Rattle.limits.specs.Lent.{Lent, lent, variable, literal, sum, product, quotient, power, greater, exponential, logarithm, kinds_of, words_of}
use Rattle.limits.specs.Calls.{gives, refuses}
use Rattle.limits_strips.specs.Calls.{stripped, strip, ran, right_sums, strip65535, strip65536, pushes, two_and_three}

-- the codes, what follows them, and the order of the parts: x0 is node 0 and 258 is node 1
abbrev pub two : ℕ × ℕ → Lent
two top = lent (variable 0 ∷ literal 258 ∷ top ∷ [])

pub record Codes : Type 0 where
  pub variable_258 : strip 0 (lent (variable 258 ∷ [])) ≡ 1 ∷ 2 ∷ 1 ∷ []
  pub literal_258 : strip 1 (two (variable 0)) ≡ 2 ∷ 2 ∷ 1 ∷ 0 ∷ 0 ∷ 0 ∷ 0 ∷ 0 ∷ 0 ∷ []
  pub literal_minus_2 : strip 0 (lent (literal 18446744073709551614 ∷ [])) ≡ 2 ∷ 254 ∷ 255 ∷ 255 ∷ 255 ∷ 255 ∷ 255 ∷ 255 ∷ 255 ∷ []
  pub a_sum : strip 2 (two (sum 0 1)) ≡ 1 ∷ 0 ∷ 0 ∷ 2 ∷ 2 ∷ 1 ∷ 0 ∷ 0 ∷ 0 ∷ 0 ∷ 0 ∷ 0 ∷ 3 ∷ []
  pub a_product : strip 2 (two (product 0 1)) ≡ 1 ∷ 0 ∷ 0 ∷ 2 ∷ 2 ∷ 1 ∷ 0 ∷ 0 ∷ 0 ∷ 0 ∷ 0 ∷ 0 ∷ 4 ∷ []
  pub a_quotient : strip 2 (two (quotient 1 0)) ≡ 2 ∷ 2 ∷ 1 ∷ 0 ∷ 0 ∷ 0 ∷ 0 ∷ 0 ∷ 0 ∷ 1 ∷ 0 ∷ 0 ∷ 5 ∷ []
  pub a_greater : strip 2 (two (greater 1 0)) ≡ 2 ∷ 2 ∷ 1 ∷ 0 ∷ 0 ∷ 0 ∷ 0 ∷ 0 ∷ 0 ∷ 1 ∷ 0 ∷ 0 ∷ 9 ∷ []
  -- 16,909,060 is 1, 2, 3, 4 with the high byte first
  pub a_power : strip 2 (two (power 0 16909060)) ≡ 1 ∷ 0 ∷ 0 ∷ 8 ∷ 4 ∷ 3 ∷ 2 ∷ 1 ∷ []

-- "16 covers a reachable Exp or Log here, 19 a strip above 65,535 bytes. 27 when more than 128 places would be in use, checked after 16 and before 19."
pub record Making : Type 0 where
  pub places_128 : stripped 511 127 (lent (right_sums 127)) ≡ gives 511
  pub places_129 : stripped 515 128 (lent (right_sums 128)) ≡ refuses 27
  pub places_before_room : stripped 0 128 (lent (right_sums 128)) ≡ refuses 27
  pub exp_before_places : stripped 515 129 (lent (right_sums 128 ++ exponential 128 ∷ [])) ≡ refuses 16
  pub log_refused : stripped 64 1 (lent (variable 0 ∷ logarithm 0 ∷ [])) ≡ refuses 16
  -- one that is not reached does not count
  pub exp_not_reached : stripped 64 0 (lent (variable 0 ∷ exponential 0 ∷ [])) ≡ gives 3
  pub bytes_65535 : stripped 65535 14 (lent strip65535) ≡ gives 65535
  pub bytes_65535_in_65534 : stripped 65534 14 (lent strip65535) ≡ refuses 19
  pub bytes_65536 : stripped 65536 27 (lent strip65536) ≡ refuses 19
  -- its strip has exactly 65,536 bytes
  pub length_65536 : length (strip_of (node_in (kinds_of strip65536) (words_of strip65536)) 27) ≡ 65536
  pub no_such_node : stripped 64 1 (lent (variable 0 ∷ [])) ≡ refuses 2

-- "The machine answers any bytes"
pub record Running : Type 0 where
  -- 1/3, the lower value being the left: bits 3FD5555555555555 (hexadecimal)
  pub a_third : ran (2 ∷ 1 ∷ 0 ∷ 0 ∷ 0 ∷ 0 ∷ 0 ∷ 0 ∷ 0 ∷ 2 ∷ 3 ∷ 0 ∷ 0 ∷ 0 ∷ 0 ∷ 0 ∷ 0 ∷ 0 ∷ 5 ∷ []) [] ≡ gives 4599676419421066581
  -- 0/0 is a NaN, with bits 7FF8000000000000 (hexadecimal)
  pub no_number : ran (pushes 2 ++ 5 ∷ []) [] ≡ gives 9221120237041090560
  -- 2 + 3 is 5, 2 × 3 is 6, the greater of 2 and 3 is 3, 2^10 is 1,024
  pub a_sum : ran (two_and_three ++ 3 ∷ []) [] ≡ gives 4617315517961601024
  pub a_product : ran (two_and_three ++ 4 ∷ []) [] ≡ gives 4618441417868443648
  pub a_greater : ran (two_and_three ++ 9 ∷ []) [] ≡ gives 4613937818241073152
  pub a_power : ran (2 ∷ 2 ∷ 0 ∷ 0 ∷ 0 ∷ 0 ∷ 0 ∷ 0 ∷ 0 ∷ 8 ∷ 10 ∷ 0 ∷ 0 ∷ 0 ∷ []) [] ≡ gives 4652218415073722368
  -- 6, then 28, then 15
  pub values_65536 : (x : Float) → ran (1 ∷ 255 ∷ 255 ∷ []) (replicate 65536 x) ≡ gives (to_bits binary64 x)
  pub values_65537 : (x : Float) → ran [] (replicate 65537 x) ≡ refuses 6
  pub empty : (x : Float) → ran [] (replicate 65536 x) ≡ refuses 28
  pub no_value : ran (1 ∷ 5 ∷ 0 ∷ []) [] ≡ refuses 15
  pub whole_strip_first : ran (1 ∷ 5 ∷ 0 ∷ 255 ∷ []) [] ≡ refuses 28
  -- unknown codes
  pub code_0 : ran (pushes 1 ++ 0 ∷ []) [] ≡ refuses 28
  pub code_6 : ran (pushes 1 ++ 6 ∷ []) [] ≡ refuses 28
  pub code_7 : ran (pushes 1 ++ 7 ∷ []) [] ≡ refuses 28
  pub code_10 : ran (pushes 2 ++ 10 ∷ []) [] ≡ refuses 28
  -- what follows is cut off, or breaks the table or the literal range: 2^53 - 1 and 2^53, exponents 2 and 1
  pub cut_off : ran (1 ∷ 5 ∷ []) [] ≡ refuses 28
  pub literal_greatest : ran (2 ∷ 255 ∷ 255 ∷ 255 ∷ 255 ∷ 255 ∷ 255 ∷ 31 ∷ 0 ∷ []) [] ≡ gives 4845873199050653695
  pub literal_least : ran (2 ∷ 1 ∷ 0 ∷ 0 ∷ 0 ∷ 0 ∷ 0 ∷ 224 ∷ 255 ∷ []) [] ≡ gives 14069245235905429503
  pub literal_too_small : ran (2 ∷ 0 ∷ 0 ∷ 0 ∷ 0 ∷ 0 ∷ 0 ∷ 224 ∷ 255 ∷ []) [] ≡ refuses 28
  pub literal_too_great : ran (2 ∷ 0 ∷ 0 ∷ 0 ∷ 0 ∷ 0 ∷ 0 ∷ 32 ∷ 0 ∷ []) [] ≡ refuses 28
  pub exponent_2 : ran (pushes 1 ++ 8 ∷ 2 ∷ 0 ∷ 0 ∷ 0 ∷ []) [] ≡ gives 0
  pub exponent_0 : ran (pushes 1 ++ 8 ∷ 0 ∷ 0 ∷ 0 ∷ 0 ∷ []) [] ≡ refuses 28
  pub exponent_1 : ran (pushes 1 ++ 8 ∷ 1 ∷ 0 ∷ 0 ∷ 0 ∷ []) [] ≡ refuses 28
  -- values are missing, 128 and 129 places, two values left
  pub value_missing : ran (pushes 1 ++ 3 ∷ []) [] ≡ refuses 28
  pub base_missing : ran (8 ∷ 2 ∷ 0 ∷ 0 ∷ 0 ∷ []) [] ≡ refuses 28
  pub pushed_128 : ran (pushes 128 ++ replicate 127 3) [] ≡ gives 0
  pub pushed_129 : ran (pushes 129 ++ replicate 128 3) [] ≡ refuses 28
  pub two_left : ran (pushes 2) [] ≡ refuses 28

pub record StripNumbers : Type 0 where
  pub codes : Codes
  pub making : Making
  pub running : Running
