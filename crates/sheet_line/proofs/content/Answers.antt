-- `sheet_line::content` meets its contract: the last byte alone is looked at.
-- Assumes nothing.
use Rattle.std.proofs.Common.{refl}
use Rattle.sheet_line.proofs.Splitting.{content_of_whole}
use Rattle.sheet_line.proofs.content.Goals as goal

pub returns : goal.returns
returns c = rw c.unwrap_or.ensures (content_of_whole c.args.bytes.now c.args.bytes c.strip_suffix.result refl c.strip_suffix.ensures.cases)
