-- `testing::test_key` meets its contract: each way tests the key of its code, by the laws of `KeyTests`.
-- Assumes nothing.
use mathlib.Core.Path.{refl}
use native.Mathlib.Omega.{arith}
use Rattle.pool.specs.Nodes.{decode}
use Rattle.key_strip.specs.Machine.{following, key_of}
use Rattle.strip_run.proofs.KeyTests.{cut_tested, variable_tested, literal_tested_there, exponent_tested_there, code_tested, between_tested, zero_tested, above_tested}
use Rattle.strip_run.proofs.testing.test_key.Goals as goal

pub returns-then-left-lt2 : goal.returns-then-left-lt2
unfolding following
returns-then-left-lt2 c =
    cut_tested c.requires.testing c.requires.at_in_bounds c.if-code-eq1.true c.if-left-lt2.true

pub returns-then-code-eq1 : goal.returns-then-code-eq1
returns-then-code-eq1 c =
    variable_tested c.requires.testing c.requires.at_in_bounds c.if-code-eq1.true (λ i. (c.type_inv.strip i).fits) c.if-left-lt2.false c.one_place_more.ensures

pub returns-then-code-eq0 : goal.returns-then-code-eq0
returns-then-code-eq0 c =
    zero_tested c.requires.testing c.requires.at_in_bounds c.if-code-eq0.true

pub returns-then-left-lt8 : goal.returns-then-left-lt8
unfolding following
returns-then-left-lt8 c =
    cut_tested c.requires.testing c.requires.at_in_bounds {m = 2} (omega (arith, c.if-code-lt3.true, c.if-code-eq1.false, c.if-code-eq0.false)) c.if-left-lt8.true

pub returns-then-code-lt3 : goal.returns-then-code-lt3
returns-then-code-lt3 c =
    literal_tested_there c.requires.testing c.requires.at_in_bounds (omega (arith, c.if-code-lt3.true, c.if-code-eq1.false, c.if-code-eq0.false)) c.if-left-lt8.false c.eight_bytes.ensures c.literal_tested.ensures

pub returns-then-code-lt6 : goal.returns-then-code-lt6
returns-then-code-lt6 c =
    between_tested c.requires.testing c.requires.at_in_bounds c.if-code-lt3.false c.if-code-lt6.true c.one_place_less.ensures

pub returns-then-left-lt4 : goal.returns-then-left-lt4
unfolding following
returns-then-left-lt4 c =
    cut_tested c.requires.testing c.requires.at_in_bounds c.if-code-eq8.true c.if-left-lt4.true

pub returns-then-code-eq8 : goal.returns-then-code-eq8
returns-then-code-eq8 c =
    exponent_tested_there c.requires.testing c.requires.at_in_bounds c.if-code-eq8.true c.if-left-lt4.false c.four_bytes.ensures c.exponent_tested.ensures

pub returns-then-code-eq9 : goal.returns-then-code-eq9
unfolding following key_of decode
returns-then-code-eq9 c =
    code_tested c.requires.testing c.requires.at_in_bounds c.if-code-eq9.true refl refl refl c.one_place_less-then-code-eq9.ensures

pub returns : goal.returns
returns c =
    above_tested c.requires.testing c.requires.at_in_bounds c.if-code-lt6.false c.if-code-eq8.false c.if-code-eq9.false
