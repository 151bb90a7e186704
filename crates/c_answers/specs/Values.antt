-- Evaluation in C's terms: a double as its 64 bits, "A NaN result is handed back with bits 7FF8000000000000 (hexadecimal)", and a residue.
-- Assumes nothing.
use Rattle.std.specs.Prelude.{ℕ, Ok, Err}
use Rattle.std.specs.Float.{binary64}
use Rattle.std.specs.Float.Ieee.{to_bits}
use Rattle.double.specs.Double.{Valued}
use Rattle.residue.specs.Residue.{Divided}
use Rattle.c_answers.specs.Interface.{ValueInC, value_in_c, answer_in_c}

abbrev pub bits_in_c : ℕ → Valued → ValueInC
bits_in_c before (Ok x) = value_in_c 0 (to_bits binary64 x)
bits_in_c before (Err k) = value_in_c k before

abbrev pub residue_in_c : ℕ → Divided → ValueInC
residue_in_c = answer_in_c
