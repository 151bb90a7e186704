-- `Numbering::none` meets its contract: its tables are zeros.
-- Assumes nothing.
use mathlib.Core.Path.{refl}
use Rattle.node_walk.proofs.Visiting.{zeros_are_fresh}
use Rattle.node_walk.proofs.Numbering.none.Goals as goal

pub returns : goal.returns
returns c = zeros_are_fresh refl refl refl
