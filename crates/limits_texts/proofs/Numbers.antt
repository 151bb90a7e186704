-- The papers' numbers hold of what the calls answer.
-- Assumes nothing.
use Rattle.limits_texts.specs.Numbers.{Numbers}
use Rattle.limits.proofs.LentPools.{pools}
use Rattle.limits.proofs.Arguments.{arguments}
use Rattle.limits.proofs.Reading.{reading}
use Rattle.limits.proofs.Working.{working}
use Rattle.limits.proofs.Values.{values}
use Rattle.limits_texts.proofs.Outputs.{outputs}
use Rattle.limits_texts.proofs.Longest.{longest}
use Rattle.limits_texts.proofs.Printing.{printing}
use Rattle.limits_texts.proofs.Files.{files}
use Rattle.limits_texts.proofs.Sheets.{sheets}

pub numbers : Numbers
numbers =
    record {
      pools = pools;
      arguments = arguments;
      reading = reading;
      working = working;
      values = values;
      outputs = outputs;
      longest = longest;
      printing = printing;
      files = files;
      sheets = sheets;
    }
