-- The papers' numbers, as one statement about what the calls answer: a number that is wrong in definition and code alike leaves it without a proof.
-- Assumes nothing.
use Rattle.limits.specs.Limits.{Pools, Arguments, Reading, Working, Values}
use Rattle.limits_texts.specs.Outputs.{Outputs, Longest}
use Rattle.limits_texts.specs.Printing.{Printing}
use Rattle.limits_texts.specs.Files.{Files}
use Rattle.limits_texts.specs.Sheets.{Sheets}

pub record Numbers : Type 0 where
  -- 1
  pub pools : Pools
  -- 2 to 6
  pub arguments : Arguments
  -- 7, 8 and 9
  pub reading : Reading
  -- 10 to 18
  pub working : Working
  pub values : Values
  -- 19
  pub outputs : Outputs
  pub longest : Longest
  pub printing : Printing
  pub files : Files
  pub sheets : Sheets
