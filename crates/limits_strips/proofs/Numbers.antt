-- C-20's numbers hold of what the calls answer.
-- Assumes nothing.
use Rattle.limits_strips.specs.Strips.{StripNumbers}
use Rattle.limits_strips.proofs.Making.{codes, making}
use Rattle.limits_strips.proofs.Running.{running}

pub strip_numbers : StripNumbers
strip_numbers = record { codes = codes; making = making; running = running }
